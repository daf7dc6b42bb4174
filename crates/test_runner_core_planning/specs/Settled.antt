-- Selected tests with their settings, before they stand in the plan's order.
use Rattle.std.specs.Prelude.{ℕ, ℤ, Bool, not, List, map}
use Rattle.std.specs.List.{flat_map, list_any, zip}
use Rattle.std.specs.Ordering.{int_eq}
use Rattle.test_runner_core_plan.specs.declared.plan.PlanTest.{PlanTest}
use Rattle.test_runner_core_plan.specs.declared.plan_settings.PlanSettings.{PlanSettings}
use Rattle.test_runner_core_planning.specs.Plan.{tries_of}
use Rattle.test_runner_core_planning.specs.declared.by_priority.Turn.{Turn}
use Rattle.test_runner_core_planning.specs.declared.by_priority.Turn.TheVariants as turn

-- a test of a binary, with its settings
abbrev pub settled_test : List ℕ → List ℕ → PlanSettings → PlanTest
settled_test id name settings =
    record { instance = record { binary_id = id; test_name = name }; settings = settings; tries = tries_of settings }

-- the tests of a binary that have these names, each with its settings
abbrev pub tests_of_binary : List ℕ → List (List ℕ) → List PlanSettings → List PlanTest
tests_of_binary id names settings = map (λ one. settled_test id one.0 one.1) (zip names settings)

-- the tests of binaries, one after another
abbrev pub tests_of_all : List (List PlanTest) → List PlanTest
tests_of_all binaries = flat_map (λ tests. tests) binaries

-- whether the priority of a test is among these
abbrev pub is_among : List ℤ → PlanTest → Bool
is_among priorities test = list_any (λ priority. int_eq priority test.settings.priority) priorities

-- whether it is its turn
abbrev pub is_in_turn : Turn → PlanTest → Bool
is_in_turn (turn.Of chosen) test = int_eq chosen test.settings.priority
is_in_turn (turn.Left done) test = not (is_among done.now test)
