-- Statuses keep the records that they were made of.
use Rattle.std.proofs.Common.{◌≡◌, ℕ, ◌+◌, ◌≤◌, suc, Bool, Bor, true, false, List, [], ◌∷◌, ◌++◌, Option, None, Some, length, map, refl, sym, ap, subst, ◌∙◌, arith}
use Rattle.std.specs.Prelude.{◌<◌, ◌-◌, zero, slice_get, is_some, nat_lt}
use Rattle.std.specs.Option.{option_map, option_map_or}
use Rattle.std.specs.Duration.{as_nanos}
use Rattle.std.specs.Slice.{IsItemAt}
use Rattle.nextest_config_elements_choices.specs.declared.timeouts.FlakyResult.{FlakyResult}
use Rattle.nextest_run_events_counters.specs.Attempts.{Attempts, last}
use Rattle.nextest_run_events_counters.specs.Counting.{with_test, with_attempts}
use Rattle.nextest_run_events_counters.specs.declared.run_stats.RunStats.{RunStats}
use Rattle.test_runner_core_run_model.specs.declared.run_test.RunTest.{RunTest}
use Rattle.test_runner_core_run_model.specs.State.{TestState, finished_as, is_finished, last_record}
use Rattle.test_runner_core_run_model.specs.declared.mark.Mark.{Mark}
use Rattle.std.specs.Prelude.{cond, ◌||◌, nat_le}
use Rattle.std.proofs.lemmas.List.{length-append}
use Rattle.std.proofs.lemmas.Option.{slice_get_read}
use Rattle.std.proofs.lemmas.Bool.Decides.{nat_tests}
use Rattle.nextest_run_events_results.specs.Result.{is_success}
use Rattle.nextest_run_events_results.specs.declared.cancel_reason.CancelReason.{CancelReason}
use Rattle.test_runner_core_run_model.specs.State.{is_finished_mark, is_running_mark}
use Rattle.test_runner_core_run_model.specs.declared.mark.Mark.TheVariants as marks
use Rattle.test_runner_core_run_state.specs.Parts.{KeepsTest}
use Rattle.test_runner_core_run_state.specs.Counted.{with_finished, with_last_record}
use Rattle.test_runner_core_run_state.proofs.Tallies.{finished_adds}
use Rattle.nextest_run_events_results.specs.declared.result.ExecutionResultDescription.{ExecutionResultDescription}
use Rattle.nextest_run_events_results.specs.declared.record.Record.{Record}
use Rattle.nextest_run_events_results.specs.declared.record.RecordOutput.{RecordOutput}
use Rattle.nextest_run_events_results.specs.declared.record.RecordOutput.TheVariants as wrote
use Rattle.test_runner_core_run_state.specs.Statuses.{Output, Status, ScriptStatus, IsStatusOf, IsScriptStatus, IsScriptStatusOf, AreStatusesFrom, AreScriptStatuses, output_of, record_output_of, record_of, script_record_of, script_record_in}

told_back : (ending : RecordOutput) → record_output_of (output_of ending) ≡ ending
told_back (wrote.Streams out err) = refl
told_back (wrote.Message message) = refl

abbrev made_of : ExecutionResultDescription → Bool → ℕ → RecordOutput → Record
made_of result slow nanos output = record { result = result; slow = slow; nanos = nanos; output = output }

-- what is kept of a record makes it up again
made_again : (ending : Record) (result : ExecutionResultDescription) (slow : Bool) (nanos : ℕ) (output : Output)
    → result ≡ ending.result → slow ≡ ending.slow → nanos ≡ ending.nanos → output ≡ output_of ending.output → made_of result slow nanos (record_output_of output) ≡ ending
made_again ending result slow nanos output same_result same_slow same_nanos same_output =
    ap (λ (r : ExecutionResultDescription). made_of r slow nanos (record_output_of output)) same_result
    ∙ ap (λ (s : Bool). made_of ending.result s nanos (record_output_of output)) same_slow
    ∙ ap (λ (n : ℕ). made_of ending.result ending.slow n (record_output_of output)) same_nanos
    ∙ ap (λ (o : RecordOutput). made_of ending.result ending.slow ending.nanos o) (ap record_output_of same_output ∙ told_back ending.output)

-- a status tells the record that it was made of
pub record_back : (attempt total : ℕ) (ending : Record) (status : Status) → IsStatusOf attempt total ending status → record_of status ≡ ending
record_back attempt total ending status made =
    made_again ending status.result status.is_slow (as_nanos status.time_taken) status.output made.result made.is_slow made.time_taken made.output

-- and so does a script's
pub script_record_back : (ending : Record) (status : ScriptStatus) → IsScriptStatusOf ending status → script_record_of status ≡ ending
script_record_back ending status made =
    made_again ending status.result status.is_slow (as_nanos status.time_taken) status.output made.result made.is_slow made.time_taken made.output

-- the record that the status of a script tells is the script's
pub script_told_back : (ending : Option Record) (status : Option (Bor ScriptStatus)) → IsScriptStatus ending status → script_record_in status ≡ ending
script_told_back None None is = refl
script_told_back None (Some status) is = absurd is
script_told_back (Some ending) None is = absurd is
script_told_back (Some ending) (Some status) is = ap (λ (t : Record). Some t) (script_record_back ending status.now is)

pub length_map : {X Y : Type 0} (f : X → Y) (xs : List X) → length (map f xs) ≡ length xs
length_map f [] = refl
length_map f (x ∷ xs) = ap suc (length_map f xs)

-- one more attempt
pub status_more : (attempt total : ℕ) (statuses : List Status) (ending : Record) (status : Status)
    → AreStatusesFrom attempt total (map record_of statuses) statuses → IsStatusOf (attempt + length statuses) total ending status
    → AreStatusesFrom attempt total (map record_of (statuses ++ status ∷ [])) (statuses ++ status ∷ [])
status_more attempt total [] ending status made now =
    let number : attempt + 0 ≡ attempt = omega arith in (
      subst (λ (n : ℕ). IsStatusOf n total (record_of status) status) number
          (subst (λ (t : Record). IsStatusOf (attempt + 0) total t status) (sym (record_back (attempt + 0) total ending status now)) now),
      tt,
    )
status_more attempt total (first ∷ statuses) ending status made now =
    let number : attempt + suc (length statuses) ≡ attempt + 1 + length statuses = omega arith in
    (made.0, status_more (attempt + 1) total statuses ending status made.1 (subst (λ (n : ℕ). IsStatusOf n total ending status) number now))

pub script_status_more : (statuses : List ScriptStatus) (status : ScriptStatus)
    → AreScriptStatuses (map script_record_of statuses) statuses → IsScriptStatusOf (script_record_of status) status
    → AreScriptStatuses (map script_record_of (statuses ++ status ∷ [])) (statuses ++ status ∷ [])
script_status_more [] status made now = (now, tt)
script_status_more (first ∷ statuses) status made now = (made.0, script_status_more statuses status made.1 now)

get_within : {X : Type 0} (xs : List X) (i : ℕ) → i < length xs → (x : X) × (slice_get xs i ≡ Some x)
get_within [] i within = absurd (omega (arith, within))
get_within (x ∷ xs) zero within = (x, refl)
get_within (x ∷ xs) (suc i) within = get_within xs i (omega (arith, within))

get_map : {X Y : Type 0} (f : X → Y) (xs : List X) (i : ℕ) → slice_get (map f xs) i ≡ option_map f (slice_get xs i)
get_map f [] i = refl
get_map f (x ∷ xs) zero = refl
get_map f (x ∷ xs) (suc i) = get_map f xs i

-- the last record is that of the last status
last_told : (statuses : List Status) → last_record (map record_of statuses) ≡ option_map record_of (last statuses)
last_told statuses =
    ap (λ (n : ℕ). slice_get (map record_of statuses) (n - 1)) (length_map record_of statuses)
    ∙ get_map record_of statuses (length statuses - 1)

-- a finished test counts by its attempts as by their records
pub counted_last : (plan : RunTest) (attempts : Attempts Status) (stats : RunStats) → attempts.flaky_result ≡ plan.flaky
    → with_attempts attempts plan.weight stats ≡ with_last_record plan (map record_of attempts.statuses) stats
counted_last plan attempts stats rule =
    ap (λ (f : FlakyResult). option_map_or (λ (final : Status). with_test (record { result = final.result; slow = final.is_slow; late = nat_lt 1 (length attempts.statuses); flaky = f }) plan.weight stats) (last attempts.statuses) stats) rule
    ∙ ap (λ (n : ℕ). option_map_or (λ (final : Status). with_test (record { result = final.result; slow = final.is_slow; late = nat_lt 1 n; flaky = plan.flaky }) plan.weight stats) (last attempts.statuses) stats) (sym (length_map record_of attempts.statuses))
    ∙ by_last (last attempts.statuses)
    ∙ ap (λ (o : Option Record). option_map_or by_record o stats) (sym (last_told attempts.statuses))
  where
    by_record : Record → RunStats
    by_record ending = with_test (record { result = ending.result; slow = ending.slow; late = nat_lt 1 (length (map record_of attempts.statuses)); flaky = plan.flaky }) plan.weight stats

    by_last : (o : Option Status)
        → option_map_or (λ (final : Status). with_test (record { result = final.result; slow = final.is_slow; late = nat_lt 1 (length (map record_of attempts.statuses)); flaky = plan.flaky }) plan.weight stats) o stats
        ≡ option_map_or by_record (option_map record_of o) stats
    by_last None = refl
    by_last (Some final) = refl

-- a finished test with a record counts by its last one
pub counted_once : (test : TestState) (stats : RunStats) → is_finished test ≡ true → 0 < length test.records → with_last_record test.plan test.records stats ≡ with_finished test stats
counted_once test stats over some =
    let final = get_within test.records (length test.records - 1) (omega (arith, some)) in
    ap (λ (o : Option Record). option_map_or (λ (ending : Record). with_test (finished_as test ending) test.plan.weight stats) o stats) final.1
    ∙ sym (finished_adds test final.0 stats over final.1)

-- what a test keeps after one more attempt
pub test_more : {Kept : Type 0} (are_of : RunTest → Kept → Type 0) (records : Kept → List Record) (room : Kept → ℕ) (plan : RunTest) (old new : Kept) (before after : Mark) (ending : Record)
    (reason : Option CancelReason) (finished : Bool) (many : ℕ)
    → KeepsTest are_of records room plan old before → many ≡ length (records old)
    → are_of plan new → records new ≡ records old ++ ending ∷ []
    → finished ≡ (is_success ending.result || nat_le plan.tries (many + 1) || is_some reason)
    → after ≡ cond finished (marks.Finished reason) marks.Between
    → KeepsTest are_of records room plan new after
test_more are_of records room plan old new before after ending reason finished many kept count of more finishes marked =
    let size : length (records new) ≡ length (records old) + 1 = ap length more ∙ length-append (records old) (ending ∷ []) in
    record {
      of = of;
      room_left = λ runs. absurd (none_runs finished (sym (ap is_running_mark marked) ∙ runs));
      ended = λ over. omega (arith, size);
      tries_left = λ open_still. tries_left size (none_finished finished (sym (ap is_finished_mark marked) ∙ open_still));
    }
  where
    none_runs : (b : Bool) → is_running_mark (cond b (marks.Finished reason) marks.Between) ≡ true → ⊥
    none_runs true h = cc
    none_runs false h = cc

    none_finished : (b : Bool) → is_finished_mark (cond b (marks.Finished reason) marks.Between) ≡ false → b ≡ false
    none_finished true h = cc
    none_finished false h = refl

    middle : (a b c : Bool) → (a || b || c) ≡ false → b ≡ false
    middle true b c h = cc
    middle false true c h = cc
    middle false false c h = refl

    tries_left : length (records new) ≡ length (records old) + 1 → finished ≡ false → length (records new) ≤ plan.tries - 1
    tries_left size open_still =
        let more = middle (is_success ending.result) (nat_le plan.tries (many + 1)) (is_some reason) (sym finishes ∙ open_still) in
        grind (arith, nat_tests, more, size, count)

-- the status at a place tells the record there, and past the end there is none
pub script_status_at : (statuses : List ScriptStatus) (place : ℕ) (found : Option (Bor ScriptStatus))
    → AreScriptStatuses (map script_record_of statuses) statuses → IsItemAt statuses place found
    → IsScriptStatus (slice_get (map script_record_of statuses) place) found
script_status_at statuses place None made is =
    subst (λ (ending : Option Record). IsScriptStatus ending None) (sym (past statuses place is.3)) tt
  where
    past : (statuses : List ScriptStatus) (place : ℕ) → length statuses ≤ place → slice_get (map script_record_of statuses) place ≡ None
    past [] place over = refl
    past (first ∷ statuses) zero over = absurd (omega (arith, over))
    past (first ∷ statuses) (suc place) over = past statuses place (omega (arith, over))
script_status_at statuses place (Some status) made is =
    here statuses place made (slice_get_read statuses (length statuses) place status.now refl is.3.0 is.1)
  where
    here : (statuses : List ScriptStatus) (place : ℕ) → AreScriptStatuses (map script_record_of statuses) statuses
        → slice_get statuses place ≡ Some status.now → IsScriptStatus (slice_get (map script_record_of statuses) place) (Some status)
    here [] place made found = absurd (let e = found in cc)
    here (first ∷ statuses) zero made found = subst (IsScriptStatusOf (script_record_of first)) (let e = found in cc) made.0
    here (first ∷ statuses) (suc place) made found = here statuses place made.1 found
