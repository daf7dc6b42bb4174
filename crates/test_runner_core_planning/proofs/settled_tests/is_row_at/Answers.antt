use Rattle.std.proofs.Common.{ℕ, ◌≤◌, sym, ◌∙◌, subst}
use Rattle.test_runner_core_planning.proofs.Settled.{numbered_row, one_row}
use Rattle.test_runner_core_planning.proofs.settled_tests.is_row_at.Goals as goal

pub returns-then-count-le64 : goal.returns-then-count-le64
returns-then-count-le64 c = λ is long same.
    numbered_row c.args.row.now c.args.place c.args.held.now (subst (λ (n : ℕ). n ≤ 64) c.count.ensures c.if-count-le64.true) long same

pub returns : goal.returns
returns c = λ is long same. one_row c.args.row.now c.as_slice.result.now (sym c.eq.ensures ∙ is) ∙ c.as_slice.ensures.value ∙ c.in_ok-other.ensures
