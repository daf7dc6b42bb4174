use Rattle.std.proofs.Common.{sym, ◌∙◌}
use Rattle.test_runner_core_platforms.proofs.Whole.{no_close, no_end}
use Rattle.test_runner_core_platforms.proofs.platform_spec.cfg.Goals as goal

pub returns-in_default : goal.returns-in_default
returns-in_default c = no_close _ _ _ c.in_ok-it.ensures c.in_default.ensures.none

pub returns-then-not-is_empty : goal.returns-then-not-is_empty
returns-then-not-is_empty c = no_end _ _ _ _ _ c.in_ok-it.ensures c.in-Some.ensures.some c.skip_blanks.ensures (sym c.is_empty.ensures ∙ c.if-not-is_empty.true)
