-- The plan of a run, as far as a run asks for it.
use Rattle.std.specs.Prelude.{◌≡◌, ℕ, ◌<◌, List, [], ⊤}
use Rattle.std.specs.List.{AllByRecursion}
use Rattle.nextest_config_elements_choices.specs.declared.max_fail.MaxFail.{MaxFail}
use Rattle.nextest_config_elements_choices.specs.declared.max_fail.MaxFail.TheVariants as limits
use Rattle.test_runner_core_run_model.specs.declared.run_test.RunTest.{RunTest}

-- how many scripts are to run, the selected tests in their order, at which weight failing tests
-- stop the run, and how many tests were skipped
pub record RunPlan : Type 0 where
  pub scripts : ℕ
  pub tests : List RunTest
  pub limit : MaxFail
  pub skipped : ℕ

-- a limit stops no run in which nothing failed
abbrev pub IsPositiveLimit : MaxFail → Type 0
IsPositiveLimit (limits.Count max_fail terminate) = 0 < max_fail
IsPositiveLimit limits.All = ⊤

-- what each plan keeps: where no test is selected no script is to run, each test has an attempt,
-- the limit is one
pub record IsPlan (plan : RunPlan) : Type 0 where
  pub no_lone_script : plan.tests ≡ [] → plan.scripts ≡ 0
  pub tries : AllByRecursion (λ test. 0 < test.tries) plan.tests
  pub limit : IsPositiveLimit plan.limit
