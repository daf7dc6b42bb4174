-- The keys of an override that tell in which order and group a test runs.
use Rattle.std.specs.Prelude.{ℤ, [], ◌∷◌, codes, pos}
use Rattle.nextest_config_elements_deserialize.specs.Names.{test_group_in}
use Rattle.nextest_config_elements_deserialize.specs.Priority.{test_priority_in}
use Rattle.nextest_config_elements_identifiers.specs.declared.test_group.TestGroup.{TestGroup}
use Rattle.nextest_config_elements_identifiers.specs.declared.test_group.TestGroup.TheVariants as group
use Rattle.nextest_config_resolution_keys.specs.Keys.{Key}

-- `priority`: before which tests a test runs
abbrev pub priority : Key ℤ
priority = record { path = codes "priority" ∷ []; reading = test_priority_in }

-- where nothing sets it: 0
abbrev pub priority_fallback : ℤ
priority_fallback = pos 0

-- `test-group`: the group of a test
abbrev pub test_group : Key TestGroup
test_group = record { path = codes "test-group" ∷ []; reading = test_group_in }

-- where nothing sets it: the global one
abbrev pub test_group_fallback : TestGroup
test_group_fallback = group.Global
