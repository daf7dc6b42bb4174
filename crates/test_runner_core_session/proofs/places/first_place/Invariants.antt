use Rattle.std.proofs.Common.{◌≡◌, ◌<◌, ℕ, false, slice_get}
use Rattle.std.specs.Option.{option_map_or}
use Rattle.test_runner_core_session.proofs.ByName.{has}
use Rattle.test_runner_core_session.proofs.places.first_place.Given as goal

-- no test so far has the name
abbrev pub invariant-loop-place : goal.invariant-loop-place
invariant-loop-place l = (j : ℕ) → j < l.place → option_map_or (has l.test.binary_id.now l.test.test_name.now) (slice_get l.tests j) false ≡ false
