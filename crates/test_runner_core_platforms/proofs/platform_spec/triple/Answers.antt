use Rattle.std.proofs.Common.{sym, ◌∙◌}
use Rattle.test_runner_core_platforms.proofs.Whole.{no_empty, no_blank}
use Rattle.test_runner_core_platforms.proofs.platform_spec.triple.Goals as goal

pub returns-then-is_empty : goal.returns-then-is_empty
returns-then-is_empty c = no_empty _ _ _ _ c.skip_blanks.ensures c.split.ensures (sym c.is_empty.ensures ∙ c.if-is_empty.true)

pub returns-then-not-is_empty : goal.returns-then-not-is_empty
returns-then-not-is_empty c = no_blank _ _ _ _ _ c.skip_blanks.ensures c.split.ensures c.skip_blanks-2.ensures (sym c.is_empty-2.ensures ∙ c.if-not-is_empty.true)
