use Rattle.std.proofs.Common.{subst}
use Rattle.nextest_filtering_globs.specs.Inside.{IsBalanced}
use Rattle.nextest_filtering_globs.proofs.Branches.{front_closes}
use Rattle.nextest_filtering_globs.proofs.matching.is_choice_matched.Goals as goal

pub is_some_matched-requires-clause-balanced : goal.is_some_matched-requires-clause-balanced
is_some_matched-requires-clause-balanced g c =
    let split = c.in-Some in
    front_closes 0 split.front.now split.alternatives.now split.ensures.1 (subst IsBalanced split.ensures.0 c.requires)
