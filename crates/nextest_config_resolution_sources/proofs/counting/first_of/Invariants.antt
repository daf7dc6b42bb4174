use Rattle.std.proofs.Common.{◌≡◌, drop}
use Rattle.nextest_config_resolution_sources.specs.Counting.{first_of}
use Rattle.nextest_config_resolution_sources.proofs.counting.first_of.Given as goal

-- none was found so far
abbrev pub invariant-loop-source : goal.invariant-loop-source
invariant-loop-source l = first_of l.wanted l.sources ≡ first_of l.wanted (drop l.source-index l.sources)
