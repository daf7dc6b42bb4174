use Rattle.nextest_run_events_json.specs.ReadBack.{error_back}
use Rattle.nextest_run_events_json.proofs.laws.error_read_back.Goals as goal

pub returns : goal.returns
returns c = λ error. error_back error tt
