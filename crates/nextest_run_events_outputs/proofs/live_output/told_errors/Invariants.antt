use Rattle.std.proofs.Common.{◌≡◌, take}
use Rattle.std.specs.Prelude.{map}
use Rattle.nextest_run_events_outputs.specs.Live.{described_error}
use Rattle.nextest_run_events_outputs.proofs.live_output.told_errors.Given as goal

abbrev pub invariant-loop-error : goal.invariant-loop-error
invariant-loop-error l = l.told ≡ map described_error (take l.error-index l.error-items)
