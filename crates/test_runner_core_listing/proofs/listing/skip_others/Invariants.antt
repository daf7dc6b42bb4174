use Rattle.std.proofs.Common.{◌≡◌, ◌++◌, ℕ, Bool, List, map, not, drop}
use Rattle.std.specs.List.{filter}
use Rattle.test_runner_core_listing.specs.Listing.{tests_of}
use Rattle.test_runner_core_listing.proofs.listing.skip_others.Given as goal

-- what is left out so far, and of the names that are left, is left out of all
abbrev pub invariant-loop-index : goal.invariant-loop-index
invariant-loop-index l = (on : List ℕ → Bool) → l.selected ≡ map on l.names
    → l.skipped ++ tests_of l.binary (filter (λ name. not (on name)) (drop l.index l.names)) ≡ l.fn.skipped ++ tests_of l.binary (filter (λ name. not (on name)) l.names)
