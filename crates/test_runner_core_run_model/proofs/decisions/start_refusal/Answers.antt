use Rattle.std.proofs.Common.{arith, subst, sym}
use Rattle.test_runner_core_run_model.proofs.Taken.{start_taken, MayStart}
use Rattle.test_runner_core_run_model.proofs.decisions.start_refusal.Goals as goal

pub returns-in-Waiting : goal.returns-in-Waiting
returns-in-Waiting c = λ state place shows shown.
    start_taken state place c.args.mark c.args.planned c.args.ended c.args.is_stopped shows shown c.if-is_stopped.false (omega arith) (subst MayStart (sym c.in-Waiting.is) tt)

pub returns-in-Between : goal.returns-in-Between
returns-in-Between c = λ state place shows shown.
    start_taken state place c.args.mark c.args.planned c.args.ended c.args.is_stopped shows shown c.if-is_stopped.false (omega arith) (subst MayStart (sym c.in-Between.is) tt)
