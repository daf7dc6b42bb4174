-- The ended attempts of a test, as they are kept, and the room of the one that runs.
use Rattle.std.specs.Prelude.{◌≡◌, ℕ, ◌-◌, ◌<◌, List, [], ◌∷◌, length, map, Option, None, Some, ⊤, vec_len, vec_capacity}
use Rattle.nextest_config_elements_choices.specs.declared.timeouts.FlakyResult.{FlakyResult}
use Rattle.nextest_run_events_results.specs.declared.record.Record.{Record}
use Rattle.test_runner_core_run_model.specs.declared.run_test.RunTest.{RunTest}
use Rattle.test_runner_core_run_state.specs.Statuses.{Status, AreStatusesFrom, record_of}
use Rattle.test_runner_core_run_state.specs.declared.kept_records.RecordsSlot.{RecordsSlot}
use Rattle.test_runner_core_run_state.specs.declared.kept_records.RecordsSlot.TheVariants as held
use Rattle.test_runner_core_run_state.specs.declared.kept_statuses.SlotAttempts.{SlotAttempts}
use Rattle.test_runner_core_run_state.specs.declared.kept_statuses.SlotAttempts.TheVariants as slots

-- as statuses: the attempts, for how many there is room, and the flaky rule, once there is an
-- attempt
pub record StatusesState : Type 0 where
  pub statuses : List Status
  pub room : ℕ
  pub rule : Option FlakyResult

-- the statuses in a slot
abbrev pub statuses_in : SlotAttempts → List Status
statuses_in slots.Empty = []
statuses_in (slots.Reserved first) = first.items
statuses_in (slots.Ended ended) = ended.statuses

-- for how many more of them a slot has room
abbrev pub room_in : SlotAttempts → ℕ
room_in slots.Empty = 0
room_in (slots.Reserved first) = vec_capacity first - vec_len first
room_in (slots.Ended ended) = ended.room

-- the flaky rule in a slot
abbrev pub rule_in : SlotAttempts → Option FlakyResult
rule_in slots.Empty = None
rule_in (slots.Reserved first) = None
rule_in (slots.Ended ended) = Some ended.flaky_result

-- room alone holds no attempt, and what ended is one at least
abbrev pub KeepsAttempts : SlotAttempts → Type 0
KeepsAttempts slots.Empty = ⊤
KeepsAttempts (slots.Reserved first) = first.items ≡ []
KeepsAttempts (slots.Ended ended) = 0 < length ended.statuses

-- the rule is this one, where there is one
abbrev pub KeepsRule : FlakyResult → Option FlakyResult → Type 0
KeepsRule flaky None = ⊤
KeepsRule flaky (Some rule) = rule ≡ flaky

-- the records that statuses are made of
abbrev pub records_in : StatusesState → List Record
records_in kept = map record_of kept.statuses

-- they are the statuses of a test with this plan
pub record AreKept (plan : RunTest) (kept : StatusesState) : Type 0 where
  pub made : AreStatusesFrom 1 plan.tries (records_in kept) kept.statuses
  pub rule : KeepsRule plan.flaky kept.rule

-- as records: those, and for how many more there is room
pub record RecordsState : Type 0 where
  pub records : List Record
  pub room : ℕ

-- the records in a slot
abbrev pub records_of : RecordsSlot → List Record
records_of held.Empty = []
records_of (held.One only) = only ∷ []
records_of (held.Several records) = records.items

-- for how many more of them a slot has room
abbrev pub record_room : RecordsSlot → ℕ
record_room held.Empty = 1
record_room (held.One only) = 0
record_room (held.Several records) = vec_capacity records - vec_len records
