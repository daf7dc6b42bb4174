use Rattle.std.proofs.Common.{◌≡◌, ◌++◌, [], ℤ, List, sym, ap, ◌∙◌, not, subst}
use Rattle.std.specs.List.{filter, list_any}
use Rattle.std.specs.Ordering.{int_eq}
use Rattle.std.proofs.lemmas.List.Sorted.{IsPermutation-refl}
use Rattle.test_runner_core_planning.specs.Settled.{is_among, tests_of_all}
use Rattle.test_runner_core_planning.proofs.Turns.{none_yet, turn_more, turns_end}
use Rattle.test_runner_core_planning.proofs.by_priority.tests_in_turns.Goals as goal
use Rattle.test_runner_core_planning.proofs.by_priority.tests_in_turns.Goals.{then-not-contains+in_ok-push_turn+in_ok-push, else-not-contains}

pub loop-priority-init : goal.loop-priority-init
loop-priority-init c = rw (c.new-done.ensures.items, c.in_ok-tests.ensures.items, none_yet (tests_of_all c.args.binaries.now)) (IsPermutation-refl [])

pub loop-priority-preserved : goal.loop-priority-preserved
loop-priority-preserved c = elim c.if-not-contains.branch [
  | then-not-contains+in_ok-push_turn+in_ok-push w ↦ rw (w.done-is, w.tests-is)
      (turn_more c.loop-priority.done.items _ c.priority-item.result (tests_of_all c.args.binaries.now) c.loop-priority.tests.items _
      (ap (list_any (λ other. int_eq other c.priority-item.result)) (sym c.as_slice.ensures.value) ∙ sym c.contains.ensures.value ∙ w.if-not-contains.true)
      w.in_ok-push.ensures.items w.in_ok-push_turn.ensures c.loop-priority.invariant)
  | else-not-contains w ↦ rw (w.done-is, w.tests-is) c.loop-priority.invariant
]

pub returns : goal.returns
returns c =
    turns_end c.loop-priority.done.items (tests_of_all c.args.binaries.now) c.loop-priority.tests.items c.push_turn-2.new.tests.items
    (subst (λ (done : List ℤ). c.push_turn-2.new.tests.items ≡ c.loop-priority.tests.items ++ filter (λ test. not (is_among done test)) (tests_of_all c.args.binaries.now)) c.as_slice-2.ensures.value c.in_ok-push_turn-2.ensures)
    c.loop-priority.invariant
