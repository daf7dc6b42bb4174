-- What the final text of a run reports.
use Rattle.std.specs.Prelude.{ℕ, List, [], ◌∷◌, ◌++◌, map, Option, None, Some}
use Rattle.nextest_run_events_results.specs.declared.record.Record.{Record}
use Rattle.test_runner_core_plan.specs.declared.plan.Plan.{Plan}
use Rattle.test_runner_core_plan.specs.declared.plan.PlanTest.{PlanTest}
use Rattle.test_runner_core_report_lines.specs.Texts.{script_text}
use Rattle.test_runner_core_report_lines.specs.declared.shows.Shows.{Shows}
use Rattle.test_runner_core_run_model.specs.State.{State, TestState}
use Rattle.test_runner_core_reporter.specs.Parts.{Part, Done, Said, Shown}
use Rattle.test_runner_core_reporter.specs.RunEnd.{end_of, end_text}
use Rattle.test_runner_core_reporter.specs.declared.final_text.ShownTest.{ShownTest}

-- what is set of what is shown of a test of a plan
unfoldable pub shows_of : Plan → PlanTest → Shows
shows_of plan test = record {
  levels = plan.levels;
  success_output = test.settings.success_output;
  failure_output = test.settings.failure_output;
}

-- the tests of a plan, as far as its run is, with what is set of what is shown of each
abbrev pub shown_tests : Plan → List PlanTest → List TestState → List ShownTest
shown_tests plan [] states = []
shown_tests plan (test ∷ tests) [] = []
shown_tests plan (test ∷ tests) (state ∷ states) =
    record { shows = shows_of plan test; test = record { name = test.instance; state = state } } ∷ shown_tests plan tests states

-- what is reported of such a test as it finishes, and in the final text
abbrev pub done_part : ShownTest → Part
done_part named = Done named.shows named.test

abbrev pub shown_part : ShownTest → Part
shown_part named = Shown named.shows named.test

-- the part of a test in the final text, where there is one
abbrev pub part_of_shown : Option ShownTest → List Part
part_of_shown None = []
part_of_shown (Some named) = shown_part named ∷ []

-- the texts of scripts with these ids, in their order: of those that ended with these records, and
-- behind them of those that didn't end
abbrev pub script_texts : List (List ℕ) → List Record → List (List ℕ)
script_texts [] records = []
script_texts (id ∷ ids) [] = script_text id None ∷ script_texts ids []
script_texts (id ∷ ids) (ending ∷ records) = script_text id (Some ending) ∷ script_texts ids records

-- the scripts of a plan in the final text, as far as its run is
abbrev pub script_parts : Plan → State → List Part
script_parts plan state = map Said (script_texts plan.scripts state.scripts)

-- and its tests
abbrev pub test_parts : Plan → State → List Part
test_parts plan state = map shown_part (shown_tests plan plan.tests state.tests)

-- the final text: where the run ended, then the scripts and the tests in the plan's order
abbrev pub final_parts : Plan → State → List Part
final_parts plan state = Said (end_text (end_of state)) ∷ (script_parts plan state ++ test_parts plan state)
