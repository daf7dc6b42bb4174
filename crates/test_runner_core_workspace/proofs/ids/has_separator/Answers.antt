use Rattle.std.proofs.Common.{ap, ◌∙◌}
use Rattle.memchr.specs.Find.{is_byte3}
use Rattle.test_runner_core_workspace.specs.Workspace as refusing
use Rattle.test_runner_core_workspace.proofs.Separators.{found_any}
use Rattle.test_runner_core_workspace.proofs.ids.has_separator.Goals as goal

pub returns : goal.returns
returns c = c.is_some.ensures ∙ found_any (is_byte3 9 10 13) c.as_bytes.result.now c.memchr3.result c.memchr3.ensures ∙ ap refusing.has_separator c.as_bytes.ensures.value
