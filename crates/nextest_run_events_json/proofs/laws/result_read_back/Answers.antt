use Rattle.nextest_run_events_json.specs.ReadBack.{result_back}
use Rattle.nextest_run_events_json.proofs.laws.result_read_back.Goals as goal

pub returns : goal.returns
returns c = result_back
