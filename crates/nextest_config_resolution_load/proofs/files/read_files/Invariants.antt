use Rattle.std.proofs.Common.{◌≡◌, filter_map, map, take}
use Rattle.std.specs.List.{AllByRecursion, flat_map}
use Rattle.nextest_config_resolution_load.specs.Checks.{file_of, file_with_setup, source_checks}
use Rattle.toml.specs.View.{table_view}
use Rattle.nextest_config_resolution_load.specs.Load.{IsKept}
use Rattle.nextest_config_resolution_load.specs.Reading.{AreRulesOf}
use Rattle.nextest_config_resolution_load.specs.Warn.{AreKept, warnings_for}
use Rattle.nextest_config_resolution_load.proofs.files.read_files.Given as goal

abbrev pub invariant-loop-source : goal.invariant-loop-source
invariant-loop-source g l = record {
  kept : AllByRecursion (IsKept (g.R.Languages.is_filter l.cx) g.R.Languages.is_spec) (flat_map (source_checks l.features) (take l.source-index (map (λ it. it.now) l.sources)));
  files : map table_view l.files.items ≡ map file_with_setup (filter_map file_of (take l.source-index (map (λ it. it.now) l.sources)));
  told : AreKept l.initial.kept l.kept (flat_map warnings_for (take l.source-index (map (λ it. it.now) l.sources)));
  rules : AreRulesOf (g.R.Languages.is_filter l.cx) g.R.Languages.is_spec (take l.source-index (map (λ it. it.now) l.sources)) l.rules.items;
}
