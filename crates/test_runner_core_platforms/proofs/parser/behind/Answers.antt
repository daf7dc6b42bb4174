use Rattle.std.proofs.Common.{[], ◌∷◌, arith}
use Rattle.nextest_filtering_arguments.proofs.Spans.{shorter_token}
use Rattle.test_runner_core_platforms.proofs.Waits.{behind_comma, behind_closed_by, behind_none}
use Rattle.test_runner_core_platforms.proofs.parser.behind.Goals as goal

pub returns-in-Some : goal.returns-in-Some
returns-in-Some c = (
  shorter_token (44 ∷ []) c.in-Some.next.now c.args.text.now c.in-Some.ensures.1 (Prim.omega arith),
  λ whole at. behind_comma _ _ _ _ _ at c.in-Some.ensures.0 c.in-Some.ensures.1,
)

pub returns-in_default-token : goal.returns-in_default-token
returns-in_default-token c = λ whole at. behind_none _ _ _ _ at c.requires.some c.in_default.ensures c.in_default-token.ensures.none

pub returns : goal.returns
returns c = (
  shorter_token (41 ∷ []) c.in-Some-token.rest.now c.args.text.now c.in-Some-token.ensures.some (Prim.omega arith),
  λ whole at. behind_closed_by _ _ _ _ _ _ _ at c.requires.some c.in-Some-token.ensures.some c.in_ok-close.ensures,
)
