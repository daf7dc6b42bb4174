-- A name ends at the first quote.
use Rattle.std.proofs.Common.{◌≡◌, ◌≢◌, ◌+◌, ◌-◌, ℕ, false, List, ◌∷◌, ◌++◌, Some, None, length, take, drop, slice_index, refl, sym, ap, subst, ◌∙◌}
use Rattle.std.specs.List.{All}
use Rattle.std.proofs.lemmas.Bool.{eqb-true, eqb-false, ne_eqb}
use Rattle.std.proofs.lemmas.List.{take_rest}
use Rattle.std.proofs.lemmas.List.Elements.{All-weaker}
use Rattle.bstr.specs.Find.{IsFirstByte, is_byte}
use Rattle.nextest_run_events_slices.specs.Places.{BeginsWith, IsName}
use Rattle.nextest_run_events_slices.proofs.Splits.{split_there, none_before, none_at_all, none_inside, same_split}

tested : (bytes : List ℕ) → All (λ byte. byte ≢ 39) bytes → All (λ byte. is_byte 39 byte ≡ false) bytes
tested bytes = All-weaker (λ byte. byte ≢ 39) (λ byte. is_byte 39 byte ≡ false) (λ byte other. ne_eqb byte 39 other) bytes

module _ (text : List ℕ) where
  pub plain_before : (k : ℕ) → IsFirstByte (is_byte 39) text (Some k) → All (λ byte. byte ≢ 39) (take k text)
  plain_before k h = All-weaker (λ byte. is_byte 39 byte ≡ false) (λ byte. byte ≢ 39) (λ byte other. eqb-false byte 39 other) (take k text) (none_before (is_byte 39) text k h)

  -- where a quote is first, a name that stands before it is the text up to it
  pub name_there : (k : ℕ) → IsFirstByte (is_byte 39) text (Some k) → IsName (take k text) → BeginsWith IsName text (39 ∷ take (length text - (k + 1)) (drop (k + 1) text))
  name_there k h named = (
    take k text,
    named,
    split_there (is_byte 39) text k h ∙ ap (λ byte. take k text ++ byte ∷ drop (k + 1) text) (eqb-true _ _ h.1) ∙ ap (λ rest. take k text ++ 39 ∷ rest) (sym (take_rest text (k + 1))),
  )

  pub no_name_there : (k : ℕ) → IsFirstByte (is_byte 39) text (Some k) → ¬ (IsName (take k text)) → (rest : List ℕ) → ¬ (BeginsWith IsName text (39 ∷ rest))
  no_name_there k h not rest begins =
      let same = same_split (is_byte 39) begins.0 (take k text) rest (drop (k + 1) text) 39 (slice_index text k) (tested begins.0 begins.1.plain) (none_before (is_byte 39) text k h) refl h.1
      (sym begins.2 ∙ split_there (is_byte 39) text k h) in
      not (subst IsName same.0 begins.1)

  pub no_name_at_all : IsFirstByte (is_byte 39) text None → (rest : List ℕ) → ¬ (BeginsWith IsName text (39 ∷ rest))
  no_name_at_all h rest begins = none_inside (is_byte 39) begins.0 rest 39 refl (subst (All (λ byte. is_byte 39 byte ≡ false)) begins.2 (none_at_all (is_byte 39) text h))

-- what stands behind a name is the same for each name
pub same_named : (one other rest left : List ℕ) → IsName one → IsName other → one ++ 39 ∷ rest ≡ other ++ 39 ∷ left → (one ≡ other) × (rest ≡ left)
same_named one other rest left named named' e =
    let same = same_split (is_byte 39) one other rest left 39 39 (tested one named.plain) (tested other named'.plain) refl refl e in
    (same.0, same.2)
