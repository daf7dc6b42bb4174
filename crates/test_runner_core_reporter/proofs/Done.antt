-- Tests that a step finished, reported one after another.
use Rattle.std.proofs.Common.{◌≡◌, ℕ, zero, suc, ◌+◌, ◌-◌, ◌≤◌, Bool, true, false, cond, List, [], ◌∷◌, ◌++◌, length, Option, refl, sym, ap, ◌∙◌, subst, inl, inr, arith, append_assoc, append-nil}
use Rattle.std.specs.Option.{option_map_or}
use Rattle.std.proofs.lemmas.Bool.{cases_lt}
use Rattle.std.proofs.lemmas.Option.{slice_get_past}
use Rattle.test_runner_core_plan.specs.declared.plan.Plan.{Plan}
use Rattle.test_runner_core_run_model.proofs.Finishing.{places_more}
use Rattle.test_runner_core_run_model.specs.Finishing.{is_stopped_at, is_stopped_mark, places_among, stopped_places}
use Rattle.test_runner_core_run_model.specs.State.{State, TestState}
use Rattle.test_runner_core_reporter.specs.Parts.{Part}
use Rattle.test_runner_core_reporter.specs.Steps.{all_done, done, done_at}
use Rattle.test_runner_core_reporter.specs.Writes.{WritesAll, WritesPrefix}
use Rattle.test_runner_core_reporter.specs.declared.final_text.ShownTest.{ShownTest}
use Rattle.test_runner_core_reporter.proofs.Named.{no_test}
use Rattle.test_runner_core_reporter.proofs.Told.{all_then, front_more, front_then}

pub done_append : (plan : Plan) (state : State) (places more : List ℕ) → all_done plan state (places ++ more) ≡ all_done plan state places ++ all_done plan state more
done_append plan state [] more = refl
done_append plan state (place ∷ places) more =
    ap (λ (t : List Part). done_at plan state place ++ t) (done_append plan state places more) ∙ sym (append_assoc (done_at plan state place) (all_done plan state places) (all_done plan state more))

-- one place more
pub done_next : (plan : Plan) (state : State) (passes : ℕ → Bool) (place : ℕ)
    → all_done plan state (places_among passes (place + 1)) ≡ all_done plan state (places_among passes place) ++ all_done plan state (cond (passes place) (place ∷ []) [])
done_next plan state passes place =
    ap (all_done plan state) (places_more passes place) ∙ done_append plan state (places_among passes place) (cond (passes place) (place ∷ []) [])

pub done_here : (plan : Plan) (state : State) (passes : ℕ → Bool) (place : ℕ) (before now after : Option (List ℕ)) (waited mid waits : List ℕ)
    → WritesAll (all_done plan state (places_among passes place)) before waited now mid → WritesAll (all_done plan state (cond (passes place) (place ∷ []) [])) now mid after waits
    → WritesAll (all_done plan state (places_among passes (place + 1))) before waited after waits
done_here plan state passes place before now after waited mid waits told here =
    subst (λ (parts : List Part). WritesAll parts before waited after waits) (sym (done_next plan state passes place))
    (all_then (all_done plan state (places_among passes place)) (all_done plan state (cond (passes place) (place ∷ []) [])) before now after waited mid waits told here)

-- the places among more of the first ones begin with those among fewer
pub places_begin : (passes : ℕ → Bool) (few more : ℕ) → (rest : List ℕ) × (places_among passes (more + few) ≡ places_among passes few ++ rest)
places_begin passes few zero =
    let none : 0 + few ≡ few = omega arith in
    ([], ap (places_among passes) none ∙ sym (append-nil (places_among passes few)))
places_begin passes few (suc more) =
    let begun = places_begin passes few more in
    let next : suc more + few ≡ (more + few) + 1 = omega arith in (
      begun.0 ++ cond (passes (more + few)) ((more + few) ∷ []) [],
      ap (places_among passes) next ∙ places_more passes (more + few) ∙ ap (λ (t : List ℕ). t ++ cond (passes (more + few)) ((more + few) ∷ []) []) begun.1
          ∙ append_assoc (places_among passes few) begun.0 (cond (passes (more + few)) ((more + few) ∷ []) []),
    )

pub front_here : (plan : Plan) (state : State) (passes : ℕ → Bool) (place count : ℕ) (before now after : Option (List ℕ)) (waited mid : List ℕ) → place + 1 ≤ count
    → WritesAll (all_done plan state (places_among passes place)) before waited now mid → WritesPrefix (all_done plan state (cond (passes place) (place ∷ []) [])) now mid after
    → WritesPrefix (all_done plan state (places_among passes count)) before waited after
front_here plan state passes place count before now after waited mid within told here =
    let more : ℕ = count - (place + 1) in
    let size : more + (place + 1) ≡ count = omega arith in
    let begun = places_begin passes (place + 1) more in
    let whole : all_done plan state (places_among passes count) ≡ (all_done plan state (places_among passes place) ++ all_done plan state (cond (passes place) (place ∷ []) [])) ++ all_done plan state begun.0 =
    ap (λ (n : ℕ). all_done plan state (places_among passes n)) (sym size) ∙ ap (all_done plan state) begun.1
    ∙ done_append plan state (places_among passes (place + 1)) begun.0 ∙ ap (λ (t : List Part). t ++ all_done plan state begun.0) (done_next plan state passes place) in
    subst (λ (parts : List Part). WritesPrefix parts before waited after) (sym whole)
    (front_more (all_done plan state (places_among passes place) ++ all_done plan state (cond (passes place) (place ∷ []) [])) (all_done plan state begun.0) before after waited
    (front_then (all_done plan state (places_among passes place)) (all_done plan state (cond (passes place) (place ∷ []) [])) before now after waited mid told here))

-- places of which nothing is reported, behind others
none_behind : (plan : Plan) (state : State) (passes : ℕ → Bool) (few more : ℕ)
    → ((place : ℕ) → few ≤ place → all_done plan state (cond (passes place) (place ∷ []) []) ≡ [])
    → all_done plan state (places_among passes (more + few)) ≡ all_done plan state (places_among passes few)
none_behind plan state passes few zero none =
    let same : 0 + few ≡ few = omega arith in ap (λ (n : ℕ). all_done plan state (places_among passes n)) same
none_behind plan state passes few (suc more) none =
    let next : suc more + few ≡ (more + few) + 1 = omega arith in
    let behind : few ≤ more + few = omega arith in
    ap (λ (n : ℕ). all_done plan state (places_among passes n)) next
    ∙ done_next plan state passes (more + few)
    ∙ ap (λ (t : List Part). all_done plan state (places_among passes (more + few)) ++ t) (none (more + few) behind)
    ∙ append-nil (all_done plan state (places_among passes (more + few)))
    ∙ none_behind plan state passes few more none

-- nothing is reported of a place that the plan doesn't have
past_plan : (plan : Plan) (state : State) (place : ℕ) → length plan.tests ≤ place → (passes : Bool) → all_done plan state (cond passes (place ∷ []) []) ≡ []
past_plan plan state place past true =
    ap (λ (found : Option ShownTest). done found ++ []) (no_test plan plan.tests state.tests place (slice_get_past plan.tests place past))
past_plan plan state place past false = refl

-- no test that a run doesn't have is over under a reason
past_run : (plan : Plan) (state : State) (place : ℕ) → length state.tests ≤ place → all_done plan state (cond (is_stopped_at state.tests place) (place ∷ []) []) ≡ []
past_run plan state place past =
    ap (λ (found : Option TestState). all_done plan state (cond (option_map_or (λ test. is_stopped_mark test.mark) found false) (place ∷ []) []))
    (slice_get_past state.tests place past)

-- so of the tests that are over under a reason as much is reported by the places of the plan as by
-- those of the run
pub stopped_told : (plan : Plan) (state : State) → all_done plan state (places_among (is_stopped_at state.tests) (length plan.tests)) ≡ all_done plan state (stopped_places state)
stopped_told plan state =
    elim (cases_lt (length plan.tests) (length state.tests)) [
      | inl less ↦
          let size : (length state.tests - length plan.tests) + length plan.tests ≡ length state.tests = omega (arith, less) in
          sym (none_behind plan state (is_stopped_at state.tests) (length plan.tests) (length state.tests - length plan.tests)
          (λ place past. past_plan plan state place past (is_stopped_at state.tests place)))
          ∙ ap (λ (n : ℕ). all_done plan state (places_among (is_stopped_at state.tests) n)) size
      | inr most ↦
          let size : (length plan.tests - length state.tests) + length state.tests ≡ length plan.tests = omega (arith, most) in
          ap (λ (n : ℕ). all_done plan state (places_among (is_stopped_at state.tests) n)) (sym size)
          ∙ none_behind plan state (is_stopped_at state.tests) (length state.tests) (length plan.tests - length state.tests) (past_run plan state)
    ]
