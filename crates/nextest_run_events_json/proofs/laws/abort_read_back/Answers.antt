use Rattle.nextest_run_events_json.specs.ReadBack.{abort_back}
use Rattle.nextest_run_events_json.proofs.laws.abort_read_back.Goals as goal

pub returns : goal.returns
returns c = abort_back
