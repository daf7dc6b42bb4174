-- Lines that follow one another.
use Rattle.std.proofs.Common.{refl, ◌≡◌, ℕ, ◌+◌, ◌<◌, List, [], ◌∷◌, ◌++◌, drop, length, sym, ap, ◌∙◌, append_assoc, get_or}
use Rattle.std.proofs.lemmas.List.{drop_more}
use Rattle.nextest_run_events_results.specs.declared.record.Record.{Record}
use Rattle.test_runner_core_report_lines.specs.Writing.{Adds}
use Rattle.test_runner_core_report_lines.specs.Texts.{line, try_line, try_lines}

-- one more attempt
pub tries_more : (records : List Record) (place : ℕ) (ended : Record) (whole old new : List ℕ) → place < length records → ended ≡ get_or records place ended
    → new ≡ old ++ try_line (place + 1) ended
    → old ++ try_lines (place + 1) (drop place records) ≡ whole
    → new ++ try_lines (place + 1 + 1) (drop (place + 1) records) ≡ whole
tries_more records place ended whole old new within is grown so_far =
    let more : drop place records ≡ ended ∷ drop (place + 1) records = drop_more records place ended within ∙ ap (λ (e : Record). e ∷ drop (place + 1) records) (sym is) in
    ap (λ (t : List ℕ). t ++ try_lines (place + 1 + 1) (drop (place + 1) records)) grown
    ∙ append_assoc old (try_line (place + 1) ended) (try_lines (place + 1 + 1) (drop (place + 1) records))
    ∙ sym (ap (λ (s : List Record). old ++ try_lines (place + 1) s) more)
    ∙ so_far

-- the parts of a test's line
pub test_grown : (old kind binary name fate tries first second third new : List ℕ)
    → first ≡ old ++ (kind ++ 9 ∷ (binary ++ 9 ∷ name)) → second ≡ first ++ 9 ∷ fate → third ≡ second ++ 9 ∷ tries → new ≡ third ++ 10 ∷ []
    → new ≡ old ++ line (kind ∷ binary ∷ name ∷ fate ∷ tries ∷ [])
test_grown old kind binary name fate tries first second third new one two three four =
    four ∙ ap (λ (t : List ℕ). t ++ 10 ∷ []) (three ∙ ap (λ (t : List ℕ). t ++ 9 ∷ tries) (two ∙ ap (λ (t : List ℕ). t ++ 9 ∷ fate) one)) ∙ search append_assoc

-- outputs behind a part
pub added_behind : (IsAdded : List ℕ → Type 0) (part old middle new : List ℕ) → middle ≡ old ++ part → Adds IsAdded middle new
    → Adds (λ text. (outputs : List ℕ) × IsAdded outputs × (text ≡ part ++ outputs)) old new
added_behind IsAdded part old middle new grown added = (
  part ++ added.0,
  (added.0, added.1, refl),
  added.2 ∙ ap (λ (t : List ℕ). t ++ added.0) grown ∙ append_assoc old part added.0,
)

-- outputs behind two parts
pub added_last : (IsAdded : List ℕ → Type 0) (part next old middle after new : List ℕ) → middle ≡ old ++ part → after ≡ middle ++ next → Adds IsAdded after new
    → Adds (λ text. (outputs : List ℕ) × IsAdded outputs × (text ≡ part ++ (next ++ outputs))) old new
added_last IsAdded part next old middle after new first second added = (
  part ++ (next ++ added.0),
  (added.0, added.1, refl),
  added.2 ∙ ap (λ (t : List ℕ). t ++ added.0) (second ∙ ap (λ (t : List ℕ). t ++ next) first)
      ∙ append_assoc (old ++ part) next added.0 ∙ append_assoc old part (next ++ added.0),
)
