use Rattle.std.proofs.Common.{[], ◌∷◌, arith}
use Rattle.nextest_filtering_arguments.proofs.Spans.{shorter_token}
use Rattle.test_runner_core_platforms.proofs.Beginnings.{begun_whole, begun_operation}
use Rattle.test_runner_core_platforms.proofs.Lengths.{shorter_condition, shorter_opened}
use Rattle.test_runner_core_platforms.proofs.Waits.{ahead_closed, ahead_whole, ahead_entered}
use Rattle.test_runner_core_platforms.proofs.parser.ahead.Goals as goal

pub returns-in-Some : goal.returns-in-Some
returns-in-Some c = (
  shorter_token (41 ∷ []) c.in-Some.rest.now c.args.text.now c.in-Some.ensures.1 (Prim.omega arith),
  λ whole at. ahead_closed _ _ _ _ _ _ _ at c.in-Some.ensures.0 c.in-Some.ensures.1 c.in_ok-close.ensures,
)

pub returns-in_ok-push-in-Whole : goal.returns-in_ok-push-in-Whole
returns-in_ok-push-in-Whole c =
    let it = begun_whole _ _ _ c.in_ok-start.rest.now c.in-Whole.is c.in_ok-start.ensures in (
      shorter_condition _ it.0 _ it.2,
      λ whole at. ahead_whole _ _ _ _ _ _ it.0 _ _ at c.in_default.ensures it.1 it.2 c.in_ok-push-in-Whole.ensures.0 c.in_ok-push-in-Whole.ensures.1,
    )

pub returns-in_ok-enter-in-Operation : goal.returns-in_ok-enter-in-Operation
returns-in_ok-enter-in-Operation c =
    let it = begun_operation _ _ _ c.in_ok-start.rest.now c.in-Operation.is c.in_ok-start.ensures in (
      shorter_opened _ _ _ _ it.1 it.2,
      λ whole at. ahead_entered c.in-Operation.operation _ _ _ _ _ _ _ at c.in_default.ensures it c.in_ok-enter-in-Operation.ensures.0 c.in_ok-enter-in-Operation.ensures.1,
    )
