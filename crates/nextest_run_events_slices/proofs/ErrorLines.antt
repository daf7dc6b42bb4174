-- The line above a panic message, and the first line that begins with an error.
use Rattle.std.proofs.Common.{◌≡◌, ◌≢◌, ◌⊎◌, ◌+◌, ◌-◌, ◌<◌, ◌≤◌, ℕ, zero, suc, Bool, true, false, List, [], ◌∷◌, Some, None, length, take, drop, slice_index, get_or, get_or-take, get_or-drop, length-take-le, length-drop, codes, zero-add, refl, sym, ap, subst, ◌∙◌, inl, inr, arith}
use Rattle.std.proofs.lemmas.Bool.{cases_lt, cases_eq, eqb-true, eq-eqb, false≢true}
use Rattle.std.proofs.lemmas.Bool.Decides.{nat_tests}
use Rattle.std.proofs.lemmas.List.{take_rest}
use Rattle.bstr.specs.Bytes.{not_in, is_in}
use Rattle.bstr.specs.Find.{IsLastByte, FindsNeedle, OccursAt, is_byte}
use Rattle.nextest_run_events_slices.specs.Places.{IsErrorLineAbove, IsErrorPlace, IsFirstError}
use Rattle.nextest_run_events_slices.proofs.LineStarts.{line_byte}

-- the test that a byte ends no line
abbrev pub in_line : ℕ → Bool
in_line = not_in (13 ∷ 10 ∷ [])

end_of : (byte : ℕ) → (in_line byte ≡ true → ⊥) → (byte ≡ 10) ⊎ (byte ≡ 13)
unfolding is_in
end_of byte h = elim (cases_eq byte 10) [
  | inl feed ↦ inl feed
  | inr other ↦ elim (cases_eq byte 13) [ inl return ↦ inr return | inr third ↦ absurd (h (grind (arith, nat_tests))) ]
]

in_line_of : (byte : ℕ) → byte ≢ 10 → byte ≢ 13 → in_line byte ≡ true
unfolding is_in
in_line_of byte one other = grind (arith, nat_tests)

feed_not_in_line : in_line 10 ≡ false
unfolding is_in
feed_not_in_line = refl

return_not_in_line : in_line 13 ≡ false
unfolding is_in
return_not_in_line = refl

no_end : (byte : ℕ) → in_line byte ≡ true → ¬ ((byte ≡ 10) ⊎ (byte ≡ 13))
no_end byte h ends = elim ends [
  | inl feed ↦ false≢true (sym feed_not_in_line ∙ ap in_line (sym feed) ∙ h)
  | inr return ↦ false≢true (sym return_not_in_line ∙ ap in_line (sym return) ∙ h)
]

module _ (output : List ℕ) (at : ℕ) (within : at ≤ length output) where
  before_length : length (take at output) ≡ at
  before_length = length-take-le at output within

  before_byte : (k : ℕ) → k < at → slice_index (take at output) k ≡ slice_index output k
  before_byte k below = get_or-take at output k 0 below

  colon : (start : ℕ) → IsErrorLineAbove output at start → in_line (slice_index output (start + 5)) ≡ true
  colon start e =
      let byte : slice_index output (start + 5) ≡ 58 = e.begins.reads 5 (omega arith) in
      in_line_of _ (λ same. omega arith) (λ same. omega arith)

  pub no_line_above : IsLastByte in_line (take at output) None → (start : ℕ) → ¬ (IsErrorLineAbove output at start)
  no_line_above none start e =
      let inside : start + 5 < at = omega (arith, e.holds, e.above) in
      none (start + 5) (omega arith) (omega (arith, before_length)) (ap in_line (before_byte (start + 5) inside) ∙ colon start e)

  module _ (last : ℕ) (found : IsLastByte in_line (take at output) (Some last)) where
    last_below : last < at
    last_below = omega (arith, found.0.high, before_length)

    last_byte : in_line (slice_index output last) ≡ true
    last_byte = ap in_line (sym (before_byte last last_below)) ∙ found.1

    above_length : length (take (last + 1) (take at output)) ≡ last + 1
    above_length = length-take-le (last + 1) (take at output) (omega (arith, last_below, before_length))

    above_byte : (k : ℕ) → k < last + 1 → slice_index (take (last + 1) (take at output)) k ≡ slice_index output k
    above_byte k below = get_or-take (last + 1) (take at output) k 0 below ∙ before_byte k (omega (arith, last_below))

    colon_below : (start : ℕ) → IsErrorLineAbove output at start → start + 5 ≤ last
    colon_below start e = elim (cases_lt last (start + 5)) [
      | inl less ↦
          let inside : start + 5 < at = omega (arith, e.holds, e.above) in
          absurd (found.0.after (start + 5) (omega arith) (omega (arith, before_length)) (ap in_line (before_byte (start + 5) inside) ∙ colon start e))
      | inr from ↦ from
    ]

    last_in_line : (start : ℕ) (e : IsErrorLineAbove output at start) → last < e.stop
    last_in_line start e = elim (cases_lt last e.stop) [
      | inl less ↦ less
      | inr from ↦ absurd (no_end (slice_index output last) last_byte (e.ends last from last_below))
    ]

    pub no_line_behind : IsLastByte (is_byte 10) (take (last + 1) (take at output)) None → (start : ℕ) → ¬ (IsErrorLineAbove output at start)
    no_line_behind none start e =
        let low = colon_below start e in
        let some = e.behind in
        none (start - 1) (omega arith) (omega (arith, above_length)) (eq-eqb _ 10 (above_byte (start - 1) (omega arith) ∙ e.feed))

    module _ (feed : ℕ) (fed : IsLastByte (is_byte 10) (take (last + 1) (take at output)) (Some feed)) where
      feed_below : feed < last + 1
      feed_below = omega (arith, fed.0.high, above_length)

      feed_byte : slice_index output feed ≡ 10
      feed_byte = sym (above_byte feed feed_below) ∙ eqb-true _ 10 fed.1

      feed_is : (start : ℕ) → IsErrorLineAbove output at start → feed + 1 ≡ start
      feed_is start e =
          let some = e.behind in
          let low = colon_below start e in
          let high = last_in_line start e in
          let below : feed < start = elim (cases_lt feed start) [
            | inl less ↦ less
            | inr from ↦ absurd (e.line feed from (omega (arith, feed_below)) feed_byte)
          ] in
          elim (cases_eq (feed + 1) start) [
            | inl same ↦ same
            | inr other ↦ absurd (fed.0.after (start - 1) (omega arith) (omega (arith, above_length)) (eq-eqb _ 10 (above_byte (start - 1) (omega arith) ∙ e.feed)))
          ]

      abbrev pub line : List ℕ
      line = take (length (take (last + 1) (take at output)) - (feed + 1)) (drop (feed + 1) (take (last + 1) (take at output)))

      line_length : length line ≡ last - feed
      line_length = ap length (take_rest (take (last + 1) (take at output)) (feed + 1)) ∙ length-drop (feed + 1) (take (last + 1) (take at output)) ∙ omega (arith, above_length)

      byte_of_line : (j : ℕ) → feed + 1 + j < last + 1 → slice_index line j ≡ slice_index output (feed + 1 + j)
      byte_of_line j below =
          ap (λ l. get_or l j 0) (take_rest (take (last + 1) (take at output)) (feed + 1)) ∙ get_or-drop (feed + 1) (take (last + 1) (take at output)) j 0 ∙ above_byte (feed + 1 + j) below

      pub line_there : OccursAt line (codes "Error:") 0 → IsErrorLineAbove output at (feed + 1)
      line_there occurs =
          let fits = occurs.fits in
          let long = line_length in
          let low = last_below in
          let some = feed_below in
          record {
            behind = omega arith;
            feed = ap (slice_index output) (omega arith) ∙ feed_byte;
            begins = record {
              fits = omega arith;
              reads = λ j below. sym (byte_of_line j (omega arith)) ∙ ap (slice_index line) (sym (zero-add j)) ∙ occurs.reads j below;
            };
            stop = last + 1;
            holds = omega arith;
            above = omega arith;
            line = λ k from below is. fed.0.after k from (omega (arith, above_length)) (eq-eqb _ 10 (above_byte k below ∙ is));
            ends = λ k from below. end_of (slice_index output k) (λ is. found.0.after k from (omega (arith, before_length)) (ap in_line (before_byte k below) ∙ is));
          }

      pub no_line_there : ¬ (OccursAt line (codes "Error:") 0) → (start : ℕ) → ¬ (IsErrorLineAbove output at start)
      no_line_there not start e =
          let same = feed_is start e in
          let low = colon_below start e in
          let long = line_length in
          not (record {
            fits = omega arith;
            reads = λ j below. ap (slice_index line) (zero-add j) ∙ byte_of_line j (omega arith) ∙ ap (slice_index output) (ap (λ n. n + j) same) ∙ e.begins.reads j below;
          })

-- an error that begins a line behind a line feed
module _ (output : List ℕ) where
  feed_before : (k : ℕ) → OccursAt output (codes "\nError: ") k → IsErrorPlace output (k + 1)
  feed_before k occurs =
      let fits = occurs.fits in
      let byte : slice_index output (k + 0) ≡ 10 = occurs.reads 0 (omega arith) in (
        inr (omega arith, ap (slice_index output) (omega arith) ∙ byte),
        record {
          fits = omega arith;
          reads = λ j below. ap (slice_index output) (omega arith) ∙ occurs.reads (suc j) (omega arith);
        },
      )

  before_error : (at : ℕ) → 0 < at → IsErrorPlace output at → OccursAt output (codes "\nError: ") (at - 1)
  before_error at some place =
      let fits = place.1.fits in
      record {
        fits = omega arith;
        reads = λ j below. by_place j below;
      }
    where
      by_place : (j : ℕ) → j < 8 → slice_index output (at - 1 + j) ≡ slice_index (codes "\nError: ") j
      by_place zero below = ap (slice_index output) (omega arith) ∙ (line_byte output at some place.0).0
      by_place (suc j) below = ap (slice_index output) (omega arith) ∙ place.1.reads j (omega arith)

  pub error_first : OccursAt output (codes "Error: ") 0 → IsFirstError output (Some 0)
  error_first occurs = ((inl refl, occurs), λ at below place. omega arith)

  pub error_behind : ¬ (OccursAt output (codes "Error: ") 0) → (k : ℕ) → FindsNeedle output (codes "\nError: ") 0 (Some k) → IsFirstError output (Some (k + 1))
  error_behind not k found = (
    feed_before k found.1,
    λ at below place. elim (cases_eq at 0) [
      | inl start ↦ not (subst (OccursAt output (codes "Error: ")) start place.1)
      | inr other ↦ found.0.before (at - 1) (omega arith) (omega arith) (before_error at (omega arith) place)
    ],
  )

  pub error_nowhere : ¬ (OccursAt output (codes "Error: ") 0) → FindsNeedle output (codes "\nError: ") 0 None → IsFirstError output None
  error_nowhere not none = λ at place. elim (cases_eq at 0) [
    | inl start ↦ not (subst (OccursAt output (codes "Error: ")) start place.1)
    | inr other ↦ none (at - 1) (omega arith) (omega (arith, place.1.fits)) (before_error at (omega arith) place)
  ]
