use Rattle.std.proofs.Common.{◌≡◌, false, drop}
use Rattle.nextest_filtering_globs.proofs.Nowhere.{some_there}
use Rattle.nextest_filtering_globs.proofs.places.is_nowhere.Given as goal

abbrev pub invariant-loop-is_there : goal.invariant-loop-is_there
invariant-loop-is_there l = some_there false l.places ≡ some_there l.is_found (drop l.is_there-index l.places)
