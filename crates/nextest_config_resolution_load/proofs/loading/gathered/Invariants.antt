use Rattle.std.proofs.Common.{◌≡◌}
use Rattle.std.specs.List.{flat_map}
use Rattle.nextest_config_resolution_load.proofs.loading.gathered.Given as goal

-- those of the sources so far
abbrev pub invariant-loop-own : goal.invariant-loop-own
invariant-loop-own g l = record {
  overrides : l.overrides.items ≡ flat_map (λ own. own.overrides) l.yielded;
  scripts : l.scripts.items ≡ flat_map (λ own. own.scripts) l.yielded;
}
