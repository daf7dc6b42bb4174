use Rattle.std.proofs.Common.{◌≡◌, ◌||◌, ℕ, List, take}
use Rattle.std.specs.List.{list_any}
use Rattle.std.specs.Str.{bytes_eq}
use Rattle.nextest_config_resolution_profiles.specs.Enabled.{has_name}
use Rattle.nextest_config_resolution_profiles.proofs.enabled.EnabledNames.add_all.Given as goal

-- the names of the rules so far are added
abbrev pub invariant-loop-rule : goal.invariant-loop-rule
invariant-loop-rule l = (id : List ℕ) → has_name l.self-inside.names id ≡ (has_name l.fn.self id || list_any (λ rule. list_any (bytes_eq id) rule.now.config.setup) (take l.rule-index l.rules))
