-- Where bad escapes stand in the input.
use Rattle.std.proofs.Common.{◌≡◌, refl, ℕ, zero, suc, ◌+◌, ◌-◌, ◌<◌, ◌≤◌, List, [], ◌∷◌, ◌++◌, length, get_or, sym, ap, subst, ◌∙◌, arith, append_assoc, length-append}
use Rattle.std.specs.List.{AllByRecursion}
use Rattle.std.proofs.lemmas.List.{nil_from_length}
use Rattle.nextest_filtering_escapes.specs.Text.{IsText}
use Rattle.nextest_filtering_escapes.specs.Ends.{IsUnended}
use Rattle.nextest_filtering_escapes.specs.Spans.{IsBadEscape, IsSpanOf}
use Rattle.nextest_filtering_escapes.specs.Parts.{IsRead}
use Rattle.nextest_filtering_escapes.proofs.Ended.{bad_escapes_stay}
use Rattle.nextest_filtering_escapes.specs.declared.escapes.EscapeSpan.{EscapeSpan}
use Rattle.nextest_filtering_ast.specs.declared.leaf.SourceSpan.{SourceSpan}
use Rattle.nextest_filtering_arguments.specs.Faults.{IsSuffix, here, within, Lies, bytes_in_span, past}
use Rattle.nextest_filtering_arguments.specs.Texts.{IsFront, IsLookedAt}
use Rattle.nextest_filtering_arguments.proofs.Spans.{told, told_past, suffix_trans, suffix_len}

-- what holds of each element holds of the one at a place
pub each_at : {X : Type 0} (P : X → Type 0) (xs : List X) (i : ℕ) (d : X) → AllByRecursion P xs → i < length xs → P (get_or xs i d)
each_at P [] i d each small = absurd (Prim.omega arith)
each_at P (x ∷ xs) zero d each small = each.0
each_at P (x ∷ xs) (suc i) d each small = each_at P xs i d each.1 (Prim.omega arith)

-- each of the bad escapes that were found
pub span_at : (whole : List ℕ) (items bad : List EscapeSpan) (i : ℕ) (d : EscapeSpan) → items ≡ bad → AllByRecursion (IsSpanOf whole) bad → i < length items
    → IsSpanOf whole (get_or items i d)
span_at whole items bad i d is each small = each_at (IsSpanOf whole) items i d (subst (AllByRecursion (IsSpanOf whole)) (sym is) each) small

-- those of the front are those of all
pub spans_ahead : (ahead whole text : List ℕ) (bad : List EscapeSpan) → IsFront whole ahead → IsRead whole text bad → AllByRecursion (IsSpanOf ahead) bad
spans_ahead ahead whole text bad (rest, parted, goes, ended) read =
    subst (λ (l : List ℕ). AllByRecursion (IsSpanOf l) bad) (sym parted) (bad_escapes_stay whole rest text bad goes ended read)

-- a bad escape and what stands in front of it and behind
escape_parts : (ahead : List ℕ) (span : EscapeSpan) (at : IsSpanOf ahead span) → ahead ≡ at.before ++ (at.bytes ++ at.behind)
escape_parts ahead span at = at.whole ∙ append_assoc at.before at.bytes at.behind

pub escape_inside : (ahead : List ℕ) (span : EscapeSpan) → IsSpanOf ahead span → span.offset ≤ length ahead
escape_inside ahead span at =
    let parts = escape_parts ahead span at in
    let begins = at.begins in
    Prim.omega (arith, begins, ap length parts, length-append at.before (at.bytes ++ at.behind))

span_same : (a b n m : ℕ) (s t : SourceSpan) → s ≡ record { offset = a; length = n } → t ≡ record { offset = b; length = m } → a ≡ b → n ≡ m → s ≡ t
span_same a b n m s t left right e f = Prim.cc

-- the span that is told holds the bad escape
pub escape_told : (input ahead : List ℕ) (span : EscapeSpan) (place : SourceSpan) → place ≡ within input ahead span.offset span.length
    → IsSuffix ahead input → IsSpanOf ahead span → Lies input place × IsBadEscape (bytes_in_span input place) (past input place)
escape_told input ahead span place is suffix at =
    let tail = at.bytes ++ at.behind in
    let parts = escape_parts ahead span at in
    let begins = at.begins in
    let shorter = suffix_len ahead input suffix in
    let offsets : length input - length ahead + span.offset ≡ length input - length tail =
    Prim.omega (arith, begins, shorter, ap length parts, length-append at.before tail) in
    let same : place ≡ here input tail (length at.bytes) =
    span_same _ _ _ _ place (here input tail (length at.bytes)) is refl offsets at.long in
    let within = suffix_trans tail ahead input (at.before, parts) suffix in
    let it = told input tail at.behind place at.bytes same within refl in
    let behind = told_past input tail at.behind place at.bytes same within refl in
    (it.0, subst (IsBadEscape (bytes_in_span input place)) (sym behind) (subst (λ (l : List ℕ). IsBadEscape l at.behind) (sym it.1) at.bad))

-- what was looked at: each bad escape is a fault more
pub looked_at : (whole text : List ℕ) (bad items : List EscapeSpan) (old new : ℕ) → items ≡ bad → (bad ≡ [] → IsUnended whole → IsText whole text)
    → new ≡ old + length items → IsLookedAt whole old new
looked_at whole text bad items old new is reads more = record {
  more = Prim.omega (arith, more);
  good = λ same goes. (text, reads (sym is ∙ nil_from_length items (Prim.omega (arith, more, same))) goes);
}
