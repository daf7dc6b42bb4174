use Rattle.std.proofs.Common.{◌≡◌, map, take}
use Rattle.test_runner_core_listing.specs.Answers.{asking_of, lent_compiled, query_of}
use Rattle.test_runner_core_listing.proofs.listing.evaluators_of.Given as goal

-- of each filter so far there is one
abbrev pub invariant-loop-filter : goal.invariant-loop-filter
invariant-loop-filter l = l.evaluators.items ≡ map (asking_of l.ecx (query_of l.binary)) (lent_compiled (take l.filter-index l.filters))
