use Rattle.std.specs.List.Sorted.{IsStrictlySortedBy}
use Rattle.nextest_config_resolution_load.proofs.reading.read_under.Goals as goal

pub returns-in-None-clause-rises : goal.returns-in-None-clause-rises
unfolding IsStrictlySortedBy
returns-in-None-clause-rises c = rw c.new.ensures tt
