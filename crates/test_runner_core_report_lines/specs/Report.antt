-- What a report says of a test: as it finishes, and in the final text.
use Rattle.std.specs.Prelude.{◌≡◌, ℕ, Bool, true, false, ◌||◌, List, [], ◌++◌, Option, Some, None, codes, if◌then◌else◌}
use Rattle.nextest_run_events_results.specs.declared.record.Record.{Record}
use Rattle.nextest_run_events_visibility.specs.declared.visibility.OutputOnTestFinished.{OutputOnTestFinished}
use Rattle.nextest_run_events_visibility.specs.declared.visibility.OutputStoreFinal.{OutputStoreFinal}
use Rattle.nextest_run_events_visibility.specs.declared.visibility.OutputStoreFinal.TheVariants as kept
use Rattle.test_runner_core_run_model.specs.State.{last_record}
use Rattle.test_runner_core_report_lines.specs.Due.{due_of}
use Rattle.test_runner_core_report_lines.specs.Texts.{NamedTest, IsOutputs, test_line, try_lines}
use Rattle.test_runner_core_report_lines.specs.declared.shows.Shows.{Shows}

-- those of a last attempt, if there is one, where they are shown
abbrev pub IsShownOutputs : Bool → Option Record → List ℕ → Type 0
IsShownOutputs true (Some ending) text = IsOutputs ending text
IsShownOutputs _ _ text = text ≡ []

-- what is written as a test finishes, by what is due then
abbrev pub IsDoneBy : Option OutputOnTestFinished → NamedTest → List ℕ → Type 0
IsDoneBy None test text = text ≡ []
IsDoneBy (Some due) test text =
    (outputs : List ℕ) × IsShownOutputs due.show_immediate (last_record test.state.records) outputs
    × (text ≡ (if due.write_status_line || due.show_immediate then test_line (codes "done") test else []) ++ outputs)

-- what is written as a test finishes: nothing where nothing is due
abbrev pub IsDone : Shows → NamedTest → List ℕ → Type 0
IsDone shows test text = IsDoneBy (due_of shows test.state) test text

-- what of a test the final text has: of a finished one what is kept, and of any other its lines
abbrev pub kept_of : Option OutputOnTestFinished → OutputStoreFinal
kept_of None = kept.Yes false
kept_of (Some due) = due.store_final

-- the part of a test in the final text, by what it has of it
abbrev pub IsShownBy : OutputStoreFinal → NamedTest → List ℕ → Type 0
IsShownBy kept.No test text = text ≡ []
IsShownBy (kept.Yes display_output) test text =
    (outputs : List ℕ) × IsShownOutputs display_output (last_record test.state.records) outputs
    × (text ≡ test_line (codes "test") test ++ (try_lines 1 test.state.records ++ outputs))

-- the part of a test in the final text
abbrev pub IsShown : Shows → NamedTest → List ℕ → Type 0
IsShown shows test text = IsShownBy (kept_of (due_of shows test.state)) test text
