-- What the laws say.
use Rattle.std.specs.Prelude.{◌≡◌, ℕ, List, [], ◌∷◌, Some}
use Rattle.nextest_run_events_counters.specs.Attempts.{Attempts, last}
use Rattle.nextest_run_events_counters.specs.Counting.{finished_as}
use Rattle.nextest_run_events_counters.specs.Description.{Description, description_of, level_of, final_level_of, ends_in_success}
use Rattle.nextest_run_events_outputs.specs.declared.output.ChildOutputDescription.{ChildOutputDescription}
use Rattle.nextest_run_events_outputs.specs.declared.output.LiveSpec.{LiveSpec}
use Rattle.nextest_run_events_results.specs.Result.{is_success}
use Rattle.nextest_run_events_results.specs.declared.record.Record.{Record}
use Rattle.nextest_run_events_results.specs.declared.result.ExecutionResultDescription.{ExecutionResultDescription}
use Rattle.test_runner_core_line_syntax.specs.Spelling.{SpellsResult, SpellsRecord, line_of_fields}
use Rattle.test_runner_core_run_state.specs.Statuses.{Status}
use Rattle.test_runner_core_report_lines.specs.Due.{level_of_test, final_level_of_test}
use Rattle.test_runner_core_report_lines.specs.Report.{IsDone, IsShown}
use Rattle.test_runner_core_report_lines.specs.Texts.{NamedTest, result_text, end_text}
use Rattle.test_runner_core_report_lines.specs.declared.shows.Shows.{Shows}

-- a result that a log line spells is reported by a text that spells it
abbrev pub ResultIsSpelled : Type 0
ResultIsSpelled = (result : ExecutionResultDescription) (field : List ℕ) → SpellsResult result field → SpellsResult result (result_text result)

-- the end of an attempt is reported by the fields that a log line spells it by
abbrev pub EndIsSpelled : Type 0
EndIsSpelled = (ending : Record) (result slow nanos out err : List ℕ) → SpellsRecord ending (result ∷ slow ∷ nanos ∷ out ∷ err ∷ []) → end_text ending ≡ line_of_fields (result ∷ slow ∷ nanos ∷ [])

-- the levels of a finished test, and whether its last attempt is a success, by the description of
-- its attempts
pub record IsDescribed (attempts : Attempts Status) (final : Status) (description : Description LiveSpec ChildOutputDescription) : Type 0 where
  pub level : level_of description ≡ level_of_test (finished_as attempts final)
  pub final_level : final_level_of description ≡ final_level_of_test (finished_as attempts final)
  pub success : ends_in_success description ≡ is_success final.result

-- the levels of a finished test are those of what its attempts come to
abbrev pub HasLevels : Type 0
HasLevels =
    (attempts : Attempts Status) (final : Status) (description : Description LiveSpec ChildOutputDescription) →
    last attempts.statuses ≡ Some final → description_of attempts.statuses attempts.flaky_result ≡ Some description → IsDescribed attempts final description

-- what is written as a test finishes is one text
abbrev pub HasOneDone : Type 0
HasOneDone = (shows : Shows) (test : NamedTest) (one other : List ℕ) → IsDone shows test one → IsDone shows test other → one ≡ other

-- so is its part in the final text
abbrev pub HasOneShown : Type 0
HasOneShown = (shows : Shows) (test : NamedTest) (one other : List ℕ) → IsShown shows test one → IsShown shows test other → one ≡ other

-- it can't be that either has no text
abbrev pub HasSomeDone : Type 0
HasSomeDone = (shows : Shows) (test : NamedTest) → ¬ ¬ ((text : List ℕ) × IsDone shows test text)

abbrev pub HasSomeShown : Type 0
HasSomeShown = (shows : Shows) (test : NamedTest) → ¬ ¬ ((text : List ℕ) × IsShown shows test text)
