use Rattle.nextest_run_events_slices.proofs.Splits.{stripped}
use Rattle.nextest_run_events_slices.proofs.heads.behind.Goals as goal

pub returns : goal.returns
returns c = stripped c.args.text.now c.args.part.now c.strip_prefix.result c.strip_prefix.ensures.cases
