use Rattle.std.proofs.Common.{◌≡◌, map, take}
use Rattle.std.specs.List.{filter}
use Rattle.nextest_config_resolution_sources.specs.Counting.{is_of}
use Rattle.nextest_config_resolution_sources.specs.declared.class.Class.TheVariants as class
use Rattle.nextest_config_resolution_sources.proofs.counting.tools.Given as goal

-- the tools' sources so far
abbrev pub invariant-loop-source : goal.invariant-loop-source
invariant-loop-source l = map (λ it. it.now) l.found.items ≡ filter (is_of class.Tool) (take l.source-index l.sources)
