use Rattle.std.proofs.Common.{arith, ◌∷◌, []}
use Rattle.std.proofs.Math.Path.{sym, ◌∙◌}
use Rattle.nextest_filtering_arguments.proofs.Spans.{shorter_token}
use Rattle.nextest_filtering_syntax.proofs.Single.{not_behind}
use Rattle.nextest_filtering_syntax.proofs.parser.opening.Goals as goal

pub returns-in-Some-clause-shorter : goal.returns-in-Some-clause-shorter
returns-in-Some-clause-shorter c = (not_behind _ _ _ c.in-Some.ensures.some).1

pub returns-in-Some-behind-clause-shorter : goal.returns-in-Some-behind-clause-shorter
returns-in-Some-behind-clause-shorter c = shorter_token (40 ∷ []) _ _ (sym c.skip_blanks.ensures ∙ c.in-Some-behind.ensures.some) (Prim.omega arith)
