-- What went wrong under one description.
use Rattle.std.specs.Prelude.{◌≡◌, ◌≢◌, ℕ, List, [], codes, Option, Some, None}
use Rattle.nextest_run_events_outcomes.specs.declared.unit_kind.UnitKind.{UnitKind}
use Rattle.nextest_run_events_outcomes.specs.declared.unit_kind.UnitKind.TheVariants as unit
use Rattle.nextest_run_events_errors.specs.Errors.{Described}
use Rattle.nextest_run_events_errors.specs.declared.list.DescribedErrorList.{DescribedErrorList}

-- what was being done
abbrev pub executing : UnitKind → List ℕ
executing unit.Test = codes "executing test"
executing unit.Script = codes "executing script"

-- no list where nothing went wrong; else all that did, in order
abbrev pub IsListOf : UnitKind → List Described → Option DescribedErrorList → Type 0
IsListOf kind errors None = errors ≡ []
IsListOf kind errors (Some list) = (errors ≢ []) × (list.description.now ≡ executing kind) × (list.items ≡ errors)
