-- What the report of a planned run begins with.
use Rattle.std.specs.Prelude.{ℕ, List, [], ◌∷◌, ◌++◌, codes, map}
use Rattle.test_runner_core_plan.specs.declared.plan.Plan.{Plan}
use Rattle.test_runner_core_reporter.specs.Parts.{Part, Said}
use Rattle.test_runner_core_reporter.specs.RunEnd.{LF, TAB}

-- a warning, on a line
abbrev pub warning : List ℕ → Part
warning text = Said (codes "warning" ++ TAB ∷ text ++ LF ∷ [])

-- the warnings of the plan
abbrev pub opening : Plan → List Part
opening plan = map warning plan.warnings
