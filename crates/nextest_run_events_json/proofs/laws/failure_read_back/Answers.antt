use Rattle.nextest_run_events_json.specs.ReadBack.{failure_back}
use Rattle.nextest_run_events_json.proofs.laws.failure_read_back.Goals as goal

pub returns : goal.returns
returns c = failure_back
