use Rattle.nextest_config_resolution_profiles.specs.ChainRules.{seen_rule}
use Rattle.nextest_config_resolution_profiles.specs.Held.{Holds, group_set}
use Rattle.nextest_config_resolution_profiles.proofs.Leasts.{NoneYet}
use Rattle.nextest_config_resolution_profiles.proofs.held.group_on.Given as goal
use Rattle.nextest_filtering_filters.specs.Query.{test_of}

-- none of the rules so far holds and sets one
abbrev pub invariant-loop-rule : goal.invariant-loop-rule
invariant-loop-rule g l = NoneYet (Holds g.F.Filters.on_test l.default (test_of l.query)) group_set seen_rule l.rules l.rule-index
