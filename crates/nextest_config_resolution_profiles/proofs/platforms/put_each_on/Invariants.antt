use Rattle.std.proofs.Common.{◌≡◌, ◌++◌, map, take, drop}
use Rattle.nextest_config_resolution_profiles.specs.ChainRules.{put_on}
use Rattle.nextest_config_resolution_profiles.specs.Platforms.{built_on, built_for}
use Rattle.nextest_config_resolution_profiles.proofs.platforms.put_each_on.Given as goal

abbrev pub invariant-loop-rule : goal.invariant-loop-rule
invariant-loop-rule g l =
    l.rules ≡ map (put_on g.S.Specs.value_on (built_on l.platforms) (built_for l.platforms)) (take l.rule-index l.initial.rules) ++ drop l.rule-index l.initial.rules
