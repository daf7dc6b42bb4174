use Rattle.std.proofs.Common.{◌≡◌, map, take}
use Rattle.serde_json.specs.Data.{string}
use Rattle.serde_json.specs.View.{view}
use Rattle.nextest_run_events_json.proofs.errors.causes_to_json.Given as goal

-- the causes so far are written
abbrev pub invariant-loop-cause : goal.invariant-loop-cause
invariant-loop-cause l = map view l.written.items ≡ map string (take l.cause-index l.cause-items)
