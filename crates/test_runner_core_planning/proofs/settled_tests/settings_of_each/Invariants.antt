use Rattle.std.proofs.Common.{◌≡◌, ℕ, IfSome, length, slice_get}
use Rattle.nextest_config_resolution_profiles.specs.HeldRules.{held_row}
use Rattle.test_runner_core_planning.specs.Tests.{AreShared, HasForRow}
use Rattle.test_runner_core_planning.proofs.settled_tests.settings_of_each.Given as goal

abbrev pub invariant-loop-place : goal.invariant-loop-place
invariant-loop-place l = record {
  shared : AreShared l.profile l.mode l.shared;
  count : length l.each.items ≡ l.place;
  each : (place : ℕ) → IfSome (slice_get l.each.items place) (HasForRow l.profile l.mode (held_row place l.held));
}
