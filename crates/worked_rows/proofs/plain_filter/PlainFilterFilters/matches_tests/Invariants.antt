use Rattle.std.proofs.Common.{◌≡◌, take}
use Rattle.std.specs.List.{AllZip}
use Rattle.worked_rows.specs.PlainFilters.{name_value}
use Rattle.worked_rows.proofs.plain_filter.PlainFilterFilters.matches_tests.Given as goal

-- the tests so far have their values
abbrev pub invariant-loop-name : goal.invariant-loop-name
invariant-loop-name l = AllZip (λ name value. value ≡ name_value l.self name.now) (take l.name-index l.names) l.values.items
