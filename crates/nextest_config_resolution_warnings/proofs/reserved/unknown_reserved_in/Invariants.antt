use Rattle.std.proofs.Common.{◌≡◌, ◌++◌, filter, map, string_bytes}
use Rattle.toml.specs.View.{table_view}
use Rattle.nextest_config_resolution_warnings.specs.Reserved.{is_unknown_reserved, names}
use Rattle.nextest_config_resolution_warnings.proofs.reserved.unknown_reserved_in.Given as goal

-- what was found, and what is ahead, are all
abbrev pub invariant-loop-name : goal.invariant-loop-name
invariant-loop-name l =
    l.found ++ filter is_unknown_reserved (map string_bytes l.name-iterator) ≡ filter is_unknown_reserved (names (table_view l.profiles))
