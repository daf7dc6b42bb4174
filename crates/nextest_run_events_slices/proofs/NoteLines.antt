-- The lines of an output, one behind the other.
use Rattle.std.proofs.Common.{◌≡◌, ◌+◌, ◌<◌, ◌≤◌, ℕ, zero, suc, true, false, Option, Some, None, is_some, List, [], ◌∷◌, ◌++◌, length, take, drop, slice_index_or, get_or, length-append, length-drop, take-append-drop, append_assoc, codes, refl, sym, ap, subst, ◌∙◌, inl, inr, arith}
use Rattle.std.specs.List.{concat}
use Rattle.std.proofs.lemmas.Bool.{cases_eq, false≢true}
use Rattle.std.proofs.lemmas.List.{append-nil, take_more, get_or_default}
use Rattle.bstr.specs.Find.{FindsNeedle}
use Rattle.bstr.specs.Text.{Contains, lines_of, line_len, without_terminator}
use Rattle.bstr.proofs.lemmas.LineLemmas.{lines-step, lines-nil, line_len-bounds}
use Rattle.nextest_run_events_slices.specs.Notes.{HasNote, IsNote}

concat_push : (before : List (List ℕ)) (line : List ℕ) → concat (before ++ line ∷ []) ≡ concat before ++ line
concat_push [] line = append-nil line
concat_push (x ∷ before) line = ap (λ rest. x ++ rest) (concat_push before line) ∙ sym (append_assoc x (concat before) line)

concat_append : (one other : List (List ℕ)) → concat (one ++ other) ≡ concat one ++ concat other
concat_append [] other = refl
concat_append (x ∷ one) other = ap (λ rest. x ++ rest) (concat_append one other) ∙ sym (append_assoc x (concat one) (concat other))

-- the lines make up the bytes
lines_whole : (n : ℕ) (bytes : List ℕ) → length bytes ≤ n → concat (lines_of bytes) ≡ bytes
lines_whole n [] le = ap concat lines-nil
lines_whole zero (x ∷ xs) le = absurd (omega arith)
lines_whole (suc n) (x ∷ xs) le =
    let bytes = x ∷ xs in
    let first = line_len (x ∷ xs) in
    let bounds = line_len-bounds (x ∷ xs) (omega arith) in
    let shorter = length-drop (line_len (x ∷ xs)) (x ∷ xs) in
    ap concat (lines-step (x ∷ xs) (omega arith)) ∙ ap (λ rest. take first bytes ++ rest) (lines_whole n (drop first bytes) (omega arith)) ∙ take-append-drop first bytes

pub whole : (output : List ℕ) → concat (lines_of output) ≡ output
whole output = lines_whole (length output) output (omega arith)

pub split_lines : (output : List ℕ) (n : ℕ) → concat (take n (lines_of output)) ++ concat (drop n (lines_of output)) ≡ output
split_lines output n = sym (concat_append (take n (lines_of output)) (drop n (lines_of output))) ∙ ap concat (take-append-drop n (lines_of output)) ∙ whole output

module _ (output : List ℕ) (n start : ℕ) (line : List ℕ) (inside : n < length (lines_of output)) (is : line ≡ get_or (lines_of output) n line) (begins : start ≡ length (concat (take n (lines_of output)))) where
  here : line ≡ slice_index_or (lines_of output) n []
  here = is ∙ get_or_default (lines_of output) n line [] inside

  pub onward : start + length line ≡ length (concat (take (n + 1) (lines_of output)))
  onward =
      let more = ap concat (take_more (lines_of output) n [] inside) ∙ concat_push (take n (lines_of output)) (get_or (lines_of output) n []) in
      let long = ap length more ∙ length-append (concat (take n (lines_of output))) (get_or (lines_of output) n []) in
      omega (arith, long, ap length here, begins)

  pub bounded : start + length line ≤ length output
  bounded =
      omega (arith, onward, ap length (split_lines output (n + 1)), length-append (concat (take (n + 1) (lines_of output))) (concat (drop (n + 1) (lines_of output))))

  pub none_more : ((k : ℕ) → k < n → ¬ (HasNote output k)) → ¬ (Contains (without_terminator line) (codes "note: test did not panic as expected")) → (k : ℕ) → k < n + 1 → ¬ (HasNote output k)
  none_more before not k below has = elim (cases_eq k n) [
    | inl same ↦ not (subst (λ l. Contains (without_terminator l) (codes "note: test did not panic as expected")) (sym here) (subst (HasNote output) same has))
    | inr other ↦ before k (omega arith) has
  ]

  pub found : ((k : ℕ) → k < n → ¬ (HasNote output k)) → (text : List ℕ) → text ≡ without_terminator line → Contains text (codes "note: test did not panic as expected") → IsNote output start text
  found before text e contains = record {
    number = n;
    within = inside;
    has = subst (λ l. Contains l (codes "note: test did not panic as expected")) (e ∙ ap without_terminator here) contains;
    first = before;
    begins = begins;
    reads = e ∙ ap without_terminator here;
  }

-- what a search for a needle tells
pub has_found : (text needle : List ℕ) (r : Option ℕ) → FindsNeedle text needle 0 r → is_some r ≡ true → Contains text needle
has_found text needle None h e = absurd (false≢true e)
has_found text needle (Some place) h e = (place, h.1)

pub has_not_found : (text needle : List ℕ) (r : Option ℕ) → FindsNeedle text needle 0 r → is_some r ≡ false → ¬ (Contains text needle)
has_not_found text needle None h e contains = h contains.0 (omega arith) (omega (arith, contains.1.fits)) contains.1
has_not_found text needle (Some place) h e contains = absurd (false≢true (sym e))
