-- What is reported of a run is reported of what is kept of it.
use Rattle.std.proofs.Common.{◌≡◌, ℕ, zero, suc, ◌+◌, Bool, true, false, ◌&&◌, ◌||◌, List, [], ◌∷◌, ◌++◌, map, codes, decimal, Option, Some, None, refl, sym, ap, ◌∙◌, subst, inl, inr}
use Rattle.std.specs.Prelude.{◌⊎◌, ◌==◌, cond, length, not, slice_get, if◌then◌else◌, Result, Ok, Err}
use Rattle.std.specs.List.{filter, range_with_len}
use Rattle.std.specs.Option.{option_map, option_map_or}
use Rattle.std.proofs.lemmas.Bool.{true≢false}
use Rattle.std.proofs.lemmas.List.{length-map}
use Rattle.nextest_config_elements_choices.specs.Display.{shown_at_end, shown_at_once}
use Rattle.nextest_config_elements_choices.specs.declared.output_display.TestOutputDisplay.{TestOutputDisplay}
use Rattle.nextest_run_events_counters.specs.Rows.{Finished}
use Rattle.nextest_run_events_counters.specs.Summary.{summary_of}
use Rattle.nextest_run_events_counters.specs.declared.run_stats.RunStats.{RunStats}
use Rattle.nextest_run_events_results.specs.Result.{is_success}
use Rattle.nextest_run_events_results.specs.declared.cancel_reason.CancelReason.{CancelReason}
use Rattle.nextest_run_events_results.specs.declared.record.Record.{Record}
use Rattle.nextest_run_events_visibility.specs.Visibility.{is_at_most_signal, is_signal, is_stored, shows_at_once, shows_output_at_end, was_ended_by_run}
use Rattle.nextest_run_events_visibility.specs.declared.visibility.OutputOnTestFinished.{OutputOnTestFinished}
use Rattle.nextest_run_events_visibility.specs.declared.visibility.OutputStoreFinal.{OutputStoreFinal}
use Rattle.nextest_run_events_visibility.specs.declared.visibility.OutputStoreFinal.TheVariants as stored
use Rattle.test_runner_core_plan.specs.declared.plan.Plan.{Plan}
use Rattle.test_runner_core_plan.specs.declared.plan.PlanTest.{PlanTest}
use Rattle.test_runner_core_report_lines.specs.Due.{display_of, due_after, due_by, due_of, final_level_of_test}
use Rattle.test_runner_core_report_lines.specs.Report.{IsDoneBy, IsShownBy, IsShownOutputs, kept_of}
use Rattle.test_runner_core_report_lines.specs.Texts.{NamedTest, end_by, fate_after, fate_by, fate_of, fate_word, line, test_line, try_lines}
use Rattle.test_runner_core_report_lines.specs.declared.fate.ReportedFate.TheVariants as fates
use Rattle.test_runner_core_report_lines.specs.declared.shows.Shows.{Shows}
use Rattle.test_runner_core_run_model.specs.Counters.{status, status_of}
use Rattle.test_runner_core_run_model.proofs.Finishing.{finished_stays}
use Rattle.test_runner_core_run_model.specs.Finishing.{KeepsReasons, finished_at, finishing, newly_finished, newly_finished_at}
use Rattle.test_runner_core_run_model.specs.Step.{attempt_ended, end_from, step}
use Rattle.test_runner_core_run_model.specs.State.{State, TestState, finished_as, initial, is_finished, is_finished_mark, last_record}
use Rattle.test_runner_core_run_model.specs.declared.event.Event.{Event}
use Rattle.test_runner_core_run_model.specs.declared.event.Event.TheVariants as events
use Rattle.test_runner_core_run_model.specs.declared.step_refusal.StepRefusal.{StepRefusal}
use Rattle.test_runner_core_run_model.specs.declared.step_refusal.StepRefusal.TheVariants as refused
use Rattle.test_runner_core_run_state.specs.Records.{event_with, is_place, state_with, tests_with, unwritten, unwritten_at, with_records}
use Rattle.test_runner_core_session.specs.Session.{run_plan}
use Rattle.test_runner_core_run_model.specs.declared.mark.Mark.{Mark}
use Rattle.test_runner_core_run_model.specs.declared.mark.Mark.TheVariants as marks
use Rattle.test_runner_core_reporter.specs.Final.{final_parts, script_parts, shown_part, shown_tests, shows_of}
use Rattle.test_runner_core_reporter.specs.Keeping.{AllSettled, IsKeptOf, event_to_keep, has_outputs, hides_success, is_never_shown, is_settled, is_settled_by, record_left, record_to_keep}
use Rattle.test_runner_core_reporter.specs.declared.final_text.ShownTest.{ShownTest}
use Rattle.test_runner_core_reporter.specs.Parts.{Done, IsPart, IsTextOf, Part, Shown}
use Rattle.test_runner_core_reporter.specs.RunEnd.{end_text}
use Rattle.test_runner_core_reporter.specs.Steps.{all_done, done, done_at, step_parts}
use Rattle.test_runner_core_reporter.specs.Writes.{WritesAll, WritesPrefix}
use Rattle.test_runner_core_run_state.proofs.OtherRecords.{KeepEnds, KeepsEnd, counters_with, finished_at_with, finished_with, finishing_with, get_with, initial_with, last_with, reasons_with, refused_with, taken_with}
use Rattle.test_runner_core_reporter.proofs.Named.{no_state, no_test, shown_here}

-- ---- lists of parts that have the same texts

-- each text of the one is a text of the other
abbrev SaysAs : Part → Part → Type 0
SaysAs one other = (text : List ℕ) → IsPart one text → IsPart other text

abbrev pub SayAs : List Part → List Part → Type 0
SayAs [] [] = Unit {0}
SayAs [] (other ∷ others) = ⊥
SayAs (one ∷ ones) [] = ⊥
SayAs (one ∷ ones) (other ∷ others) = SaysAs one other × SayAs ones others

pub text_as : (ones others : List Part) (text : List ℕ) → SayAs ones others → IsTextOf ones text → IsTextOf others text
text_as [] [] text alike is = is
text_as [] (other ∷ others) text alike is = absurd alike
text_as (one ∷ ones) [] text alike is = absurd alike
text_as (one ∷ ones) (other ∷ others) text (here, more) (first, (rest, (is, are, whole))) = (first, (rest, (here first is, text_as ones others rest more are, whole)))

pub self_as : (parts : List Part) → SayAs parts parts
self_as [] = tt
self_as (part ∷ parts) = (λ text is. is, self_as parts)

then_as : (one other more most : List Part) → SayAs one other → SayAs more most → SayAs (one ++ more) (other ++ most)
then_as [] [] more most first second = second
then_as [] (q ∷ other) more most first second = absurd first
then_as (p ∷ one) [] more most first second = absurd first
then_as (p ∷ one) (q ∷ other) more most (here, first) second = (here, then_as one other more most first second)

-- the first parts of the one beside those of the other
record Divided (front others : List Part) : Type 0 where
  first : List Part
  behind : List Part
  whole : others ≡ first ++ behind
  alike : SayAs front first

divided : (front rest others : List Part) → SayAs (front ++ rest) others → Divided front others
divided [] rest others alike = record { first = []; behind = others; whole = refl; alike = tt }
divided (part ∷ front) rest [] alike = absurd alike
divided (part ∷ front) rest (other ∷ others) (here, more) =
    let it = divided front rest others more in
    record { first = other ∷ it.first; behind = it.behind; whole = ap (λ (l : List Part). other ∷ l) it.whole; alike = (here, it.alike) }

pub all_as : (ones others : List Part) (before : Option (List ℕ)) (waited : List ℕ) (after : Option (List ℕ)) (waits : List ℕ)
    → SayAs ones others → WritesAll ones before waited after waits → WritesAll others before waited after waits
all_as ones others before waited after waits alike all = record { told = all.told; text = text_as ones others all.told alike all.text; moved = all.moved }

pub front_as : (ones others : List Part) (before : Option (List ℕ)) (waited : List ℕ) (after : Option (List ℕ))
    → SayAs ones others → WritesPrefix ones before waited after → WritesPrefix others before waited after
front_as ones others before waited after alike failed =
    let it = divided failed.front failed.rest others (subst (λ (l : List Part). SayAs l others) failed.whole alike) in
    record {
      front = it.first;
      rest = it.behind;
      whole = it.whole;
      told = failed.told;
      text = text_as failed.front it.first failed.told it.alike failed.text;
      lost = failed.lost;
      moved = failed.moved;
    }

-- ---- one test

-- a record is kept as it is, but for a success whose output isn't shown
abbrev pub Hides : (Record → Record) → TestOutputDisplay → Type 0
Hides kept success_output = (told : Record) → (kept told ≡ told) ⊎ ((is_success told.result ≡ true) × (shown_at_once success_output ≡ false) × (shown_at_end success_output ≡ false))

fate_with : (kept : Record → Record) → KeepsEnd kept → (test : TestState) → fate_of (with_records kept test) ≡ fate_of test
fate_with kept ends test = ap (fate_by (with_records kept test)) (last_with kept test.records) ∙ by_last (last_record test.records)
  where
    by_last : (last : Option Record) → fate_by (with_records kept test) (option_map kept last) ≡ fate_by test last
    by_last None = refl
    by_last (Some told) = ap (λ (it : Finished). if is_finished test then fate_after it else fates.Unfinished) (finished_with kept ends test told)

line_with : (kept : Record → Record) → KeepsEnd kept → (kind : List ℕ) (test : NamedTest) → test_line kind (record test { state = with_records kept test.state }) ≡ test_line kind test
line_with kept ends kind test = λ i.
    line (kind ∷ test.name.binary_id ∷ test.name.test_name ∷ fate_word (fate_with kept ends test.state i)
    ∷ (decimal (length-map test.state.records kept i) ++ (codes "/" ++ decimal test.state.plan.tries)) ∷ [])

tries_with : (kept : Record → Record) → KeepsEnd kept → (number : ℕ) (records : List Record) → try_lines number (map kept records) ≡ try_lines number records
tries_with kept ends number [] = refl
tries_with kept ends number (told ∷ records) = λ i.
    line (codes "try" ∷ decimal number ∷ end_by ((ends told).0 i) ((ends told).1 i) ((ends told).2 i) ∷ []) ++ tries_with kept ends (number + 1) records i

due_with : (kept : Record → Record) → KeepsEnd kept → (shows : Shows) (test : TestState) → due_of shows (with_records kept test) ≡ due_of shows test
due_with kept ends shows test = ap (due_by shows (with_records kept test) test.mark) (last_with kept test.records) ∙ by_mark test.mark (last_record test.records)
  where
    by_mark : (mark : Mark) (last : Option Record) → due_by shows (with_records kept test) mark (option_map kept last) ≡ due_by shows test mark last
    by_mark marks.Waiting None = refl
    by_mark marks.Waiting (Some told) = refl
    by_mark marks.Running None = refl
    by_mark marks.Running (Some told) = refl
    by_mark marks.Between None = refl
    by_mark marks.Between (Some told) = refl
    by_mark (marks.Finished reason) None = refl
    by_mark (marks.Finished reason) (Some told) = ap (λ (it : Finished). Some (due_after shows reason it)) (finished_with kept ends test told)

-- how a success that isn't shown is displayed
display_hidden : (shows : Shows) (it : Finished) → is_success it.result ≡ true → display_of shows it ≡ shows.success_output
display_hidden shows it success = ap (λ (b : Bool). if b then shows.success_output else shows.failure_output) success

never_at_once : (shows : Shows) (reason : Option CancelReason) (it : Finished) → is_success it.result ≡ true → shown_at_once shows.success_output ≡ false
    → (due_after shows reason it).show_immediate ≡ false
never_at_once shows reason it success hidden =
    ap (λ (d : TestOutputDisplay). shows_at_once d reason it.result) (display_hidden shows it success)
    ∙ ap (λ (b : Bool). b && is_at_most_signal reason && not (was_ended_by_run reason it.result)) hidden

never_at_end : (shows : Shows) (reason : Option CancelReason) (it : Finished) → is_success it.result ≡ true → shown_at_end shows.success_output ≡ false
    → shows_output_at_end (display_of shows it) reason ≡ false
never_at_end shows reason it success hidden =
    ap (λ (d : TestOutputDisplay). shows_output_at_end d reason) (display_hidden shows it success)
    ∙ ap (λ (b : Bool). b && not (shown_at_once shows.success_output && is_signal reason)) hidden

-- outputs of the last record, which is kept where they are shown
outputs_as : (kept : Record → Record) (shown : Bool) (last : Option Record) (text : List ℕ) → ((told : Record) → last ≡ Some told → (kept told ≡ told) ⊎ (shown ≡ false))
    → IsShownOutputs shown (option_map kept last) text → IsShownOutputs shown last text
outputs_as kept true None text keeps is = is
outputs_as kept false None text keeps is = is
outputs_as kept false (Some told) text keeps is = is
outputs_as kept true (Some told) text keeps is = by_kept (keeps told refl)
  where
    by_kept : (kept told ≡ told) ⊎ (true ≡ false) → IsShownOutputs true (Some told) text
    by_kept (inl same) = subst (λ (it : Record). IsShownOutputs true (Some it) text) same is
    by_kept (inr never) = absurd (true≢false never)

-- as it finishes
hidden_at_once : (kept : Record → Record) (shows : Shows) (test : TestState) → Hides kept shows.success_output
    → (mark : Mark) (last : Option Record) (due : OutputOnTestFinished) (told : Record) → due_by shows test mark last ≡ Some due → last ≡ Some told
    → (kept told ≡ told) ⊎ (due.show_immediate ≡ false)
hidden_at_once kept shows test hides mark None due told is_due is_last = absurd (let h = is_last in cc)
hidden_at_once kept shows test hides marks.Waiting (Some last) due told is_due is_last = absurd (let h = is_due in cc)
hidden_at_once kept shows test hides marks.Running (Some last) due told is_due is_last = absurd (let h = is_due in cc)
hidden_at_once kept shows test hides marks.Between (Some last) due told is_due is_last = absurd (let h = is_due in cc)
hidden_at_once kept shows test hides (marks.Finished reason) (Some last) due told is_due is_last = by_hides (hides last)
  where
    by_hides : (kept last ≡ last) ⊎ ((is_success last.result ≡ true) × (shown_at_once shows.success_output ≡ false) × (shown_at_end shows.success_output ≡ false))
        → (kept told ≡ told) ⊎ (due.show_immediate ≡ false)
    by_hides (inl same) = inl (let h : last ≡ told = (let e = is_last in cc) in subst (λ (it : Record). kept it ≡ it) h same)
    by_hides (inr (success, at_once, at_end)) =
        inr (let h : due_after shows reason (finished_as test last) ≡ due = (let e = is_due in cc) in
        sym (ap (λ (it : OutputOnTestFinished). it.show_immediate) h) ∙ never_at_once shows reason (finished_as test last) success at_once)

done_as : (kept : Record → Record) → KeepsEnd kept → (shows : Shows) (test : NamedTest) → Hides kept shows.success_output
    → SaysAs (Done shows (record test { state = with_records kept test.state })) (Done shows test)
done_as kept ends shows test hides text is =
    by_due (due_of shows test.state) refl (subst (λ (due : Option OutputOnTestFinished). IsDoneBy due (record test { state = with_records kept test.state }) text) (due_with kept ends shows test.state) is)
  where
    by_due : (due : Option OutputOnTestFinished) → due_of shows test.state ≡ due → IsDoneBy due (record test { state = with_records kept test.state }) text → IsDoneBy due test text
    by_due None is_due are = are
    by_due (Some due) is_due (outputs, shown, whole) = (
      outputs,
      outputs_as kept due.show_immediate (last_record test.state.records) outputs
          (λ told is_last. hidden_at_once kept shows test.state hides test.state.mark (last_record test.state.records) due told is_due is_last)
          (subst (λ (last : Option Record). IsShownOutputs due.show_immediate last outputs) (last_with kept test.state.records) shown),
      whole ∙ ap (λ (l : List ℕ). (if due.write_status_line || due.show_immediate then l else []) ++ outputs) (line_with kept ends (codes "done") test),
    )

-- in the final text
hidden_at_end : (kept : Record → Record) (shows : Shows) (test : TestState) → Hides kept shows.success_output
    → (mark : Mark) (last : Option Record) (shown : Bool) (told : Record) → kept_of (due_by shows test mark last) ≡ stored.Yes shown → last ≡ Some told
    → (kept told ≡ told) ⊎ (shown ≡ false)
hidden_at_end kept shows test hides mark None shown told is_kept is_last = absurd (let h = is_last in cc)
hidden_at_end kept shows test hides marks.Waiting (Some last) shown told is_kept is_last = inr (let h = is_kept in cc)
hidden_at_end kept shows test hides marks.Running (Some last) shown told is_kept is_last = inr (let h = is_kept in cc)
hidden_at_end kept shows test hides marks.Between (Some last) shown told is_kept is_last = inr (let h = is_kept in cc)
hidden_at_end kept shows test hides (marks.Finished reason) (Some last) shown told is_kept is_last = by_hides (hides last)
  where
    by_stored : (b : Bool) → shows_output_at_end (display_of shows (finished_as test last)) reason ≡ false
        → (if b then stored.Yes (shows_output_at_end (display_of shows (finished_as test last)) reason) else stored.No) ≡ stored.Yes shown → shown ≡ false
    by_stored true none same = let h = same in cc
    by_stored false none same = absurd (let h = same in cc)

    by_hides : (kept last ≡ last) ⊎ ((is_success last.result ≡ true) × (shown_at_once shows.success_output ≡ false) × (shown_at_end shows.success_output ≡ false))
        → (kept told ≡ told) ⊎ (shown ≡ false)
    by_hides (inl same) = inl (let h : last ≡ told = (let e = is_last in cc) in subst (λ (it : Record). kept it ≡ it) h same)
    by_hides (inr (success, at_once, at_end)) =
        inr (by_stored
        (is_stored (display_of shows (finished_as test last)) reason shows.levels.final_status_level (final_level_of_test (finished_as test last)) (finished_as test last).result)
        (never_at_end shows reason (finished_as test last) success at_end) is_kept)

-- the final text doesn't have what isn't kept
abbrev KeepsShown : (Record → Record) → Shows → TestState → Type 0
KeepsShown kept shows test =
    (shown : Bool) (told : Record) → kept_of (due_of shows test) ≡ stored.Yes shown → last_record test.records ≡ Some told → (kept told ≡ told) ⊎ (shown ≡ false)

keeps_hiding : (kept : Record → Record) (shows : Shows) (test : TestState) → Hides kept shows.success_output → KeepsShown kept shows test
keeps_hiding kept shows test hides shown told is_kept is_last = hidden_at_end kept shows test hides test.mark (last_record test.records) shown told is_kept is_last

keeps_settled : (kept : Record → Record) (shows : Shows) (test : TestState) → is_settled_by (due_of shows test) ≡ true → KeepsShown kept shows test
keeps_settled kept shows test over shown told is_kept is_last = inr (by_due (due_of shows test) over is_kept)
  where
    not_shown : (b : Bool) → not b ≡ true → b ≡ false
    not_shown true h = cc
    not_shown false h = refl

    by_due : (due : Option OutputOnTestFinished) → is_settled_by due ≡ true → kept_of due ≡ stored.Yes shown → shown ≡ false
    by_due None h same = absurd (let e = h in cc)
    by_due (Some due) h same = not_shown shown (sym (ap (λ (store : OutputStoreFinal). not (has_outputs store)) same) ∙ h)

shown_as : (kept : Record → Record) → KeepsEnd kept → (shows : Shows) (test : NamedTest) → KeepsShown kept shows test.state
    → SaysAs (Shown shows (record test { state = with_records kept test.state })) (Shown shows test)
shown_as kept ends shows test keeps text is =
    by_kept (kept_of (due_of shows test.state)) refl
    (subst (λ (due : Option OutputOnTestFinished). IsShownBy (kept_of due) (record test { state = with_records kept test.state }) text) (due_with kept ends shows test.state) is)
  where
    by_kept : (store : OutputStoreFinal) → kept_of (due_of shows test.state) ≡ store → IsShownBy store (record test { state = with_records kept test.state }) text → IsShownBy store test text
    by_kept stored.No is_kept are = are
    by_kept (stored.Yes shown) is_kept (outputs, has, whole) = (
      outputs,
      outputs_as kept shown (last_record test.state.records) outputs
          (λ told is_last. keeps shown told is_kept is_last)
          (subst (λ (last : Option Record). IsShownOutputs shown last outputs) (last_with kept test.state.records) has),
      whole ∙ (λ i. line_with kept ends (codes "test") test i ++ (tries_with kept ends 1 test.state.records i ++ outputs)),
    )

-- ---- all tests

-- what is kept at a place hides no more than what a success never shows
abbrev HidesAt : (ℕ → Record → Record) → List PlanTest → ℕ → Type 0
HidesAt kept tests place = (test : PlanTest) → slice_get tests place ≡ Some test → Hides (kept place) test.settings.success_output

done_at_as : (plan : Plan) (kept : ℕ → Record → Record) → KeepEnds kept → (tests : List PlanTest) (states : List TestState) (place : ℕ) → HidesAt kept tests place
    → SayAs (done (slice_get (shown_tests plan tests (tests_with kept states)) place)) (done (slice_get (shown_tests plan tests states) place))
unfolding shows_of
done_at_as plan kept ends [] states place hides = tt
done_at_as plan kept ends (test ∷ tests) [] place hides = tt
done_at_as plan kept ends (test ∷ tests) (state ∷ states) zero hides =
    (done_as (kept zero) (ends zero) (shows_of plan test) (record { name = test.instance; state = state }) (hides test refl), tt)
done_at_as plan kept ends (test ∷ tests) (state ∷ states) (suc place) hides = done_at_as plan (λ p. kept (suc p)) (λ p. ends (suc p)) tests states place hides

-- each of these places is such
abbrev AllPlaces : (ℕ → Type 0) → List ℕ → Type 0
AllPlaces Is [] = Unit {0}
AllPlaces Is (place ∷ places) = Is place × AllPlaces Is places

all_passing : (Is : ℕ → Type 0) (passes : ℕ → Bool) → ((place : ℕ) → passes place ≡ true → Is place) → (places : List ℕ) → AllPlaces Is (filter passes places)
all_passing Is passes met [] = tt
all_passing Is passes met (place ∷ places) = by_test (passes place) refl (all_passing Is passes met places)
  where
    by_test : (b : Bool) → passes place ≡ b → AllPlaces Is (filter passes places) → AllPlaces Is (cond b (place ∷ filter passes places) (filter passes places))
    by_test true e more = (met place e, more)
    by_test false e more = more

all_fewer : (Is : ℕ → Type 0) (passes : ℕ → Bool) (places : List ℕ) → AllPlaces Is places → AllPlaces Is (filter passes places)
all_fewer Is passes [] all = tt
all_fewer Is passes (place ∷ places) (here, more) = by_test (passes place) (all_fewer Is passes places more)
  where
    by_test : (b : Bool) → AllPlaces Is (filter passes places) → AllPlaces Is (cond b (place ∷ filter passes places) (filter passes places))
    by_test true rest = (here, rest)
    by_test false rest = rest

all_joined : (Is : ℕ → Type 0) (one other : List ℕ) → AllPlaces Is one → AllPlaces Is other → AllPlaces Is (one ++ other)
all_joined Is [] other first second = second
all_joined Is (place ∷ one) other (here, more) second = (here, all_joined Is one other more second)

-- what a step finishes wasn't finished before
all_finishing : (Is : ℕ → Type 0) (event : Event) (old new : State) → ((place : ℕ) → finished_at old.tests place ≡ false → Is place) → AllPlaces Is (finishing event old new)
all_finishing Is event old new met = by_event event
  where
    not_before : (a b : Bool) → (a && not b) ≡ true → b ≡ false
    not_before true true h = cc
    not_before true false h = refl
    not_before false b h = cc

    newly : AllPlaces Is (newly_finished old new)
    newly =
        all_passing Is (newly_finished_at old.tests new.tests)
        (λ place is. met place (not_before (finished_at new.tests place) (finished_at old.tests place) is)) (range_with_len 0 (length new.tests))

    by_event : (event : Event) → AllPlaces Is (finishing event old new)
    by_event (events.ScriptEnded script told) = newly
    by_event (events.Started test) = newly
    by_event (events.Ended test told) =
        all_joined Is (filter (λ place. place == test) (newly_finished old new)) (filter (λ place. not (place == test)) (newly_finished old new))
        (all_fewer Is (λ place. place == test) (newly_finished old new) newly) (all_fewer Is (λ place. not (place == test)) (newly_finished old new) newly)
    by_event (events.Stopped reason) = newly

all_done_as : (plan : Plan) (kept : ℕ → Record → Record) → KeepEnds kept → (state : State) (places : List ℕ) → AllPlaces (HidesAt kept plan.tests) places
    → SayAs (all_done plan (state_with kept state) places) (all_done plan state places)
all_done_as plan kept ends state [] hide = tt
all_done_as plan kept ends state (place ∷ places) (hides, hide) =
    then_as (done_at plan (state_with kept state) place) (done_at plan state place) (all_done plan (state_with kept state) places) (all_done plan state places)
    (done_at_as plan kept ends plan.tests state.tests place hides) (all_done_as plan kept ends state places hide)

-- what is kept at each place is enough for the final text
abbrev KeepsAll : Plan → (ℕ → Record → Record) → List PlanTest → List TestState → Type 0
KeepsAll plan kept tests states =
    (place : ℕ) (test : PlanTest) (state : TestState) → slice_get tests place ≡ Some test → slice_get states place ≡ Some state → KeepsShown (kept place) (shows_of plan test) state

shown_tests_as : (plan : Plan) (kept : ℕ → Record → Record) → KeepEnds kept → (tests : List PlanTest) (states : List TestState) → KeepsAll plan kept tests states
    → SayAs (map shown_part (shown_tests plan tests (tests_with kept states))) (map shown_part (shown_tests plan tests states))
shown_tests_as plan kept ends [] states keeps = tt
shown_tests_as plan kept ends (test ∷ tests) [] keeps = tt
shown_tests_as plan kept ends (test ∷ tests) (state ∷ states) keeps = (
  shown_as (kept zero) (ends zero) (shows_of plan test) (record { name = test.instance; state = state }) (keeps zero test state refl refl),
  shown_tests_as plan (λ p. kept (suc p)) (λ p. ends (suc p)) tests states (λ place planned so_far here there. keeps (suc place) planned so_far here there),
)

-- ---- what is kept of the records of a run

keeps_ends : (tests : List PlanTest) → KeepEnds (record_to_keep tests)
keeps_ends tests place told = by_test (is_success told.result && hides_success tests place)
  where
    by_test : (b : Bool) →
        ((if b then unwritten told else told).result ≡ told.result)
        × ((if b then unwritten told else told).slow ≡ told.slow)
        × ((if b then unwritten told else told).nanos ≡ told.nanos)
    by_test true = (refl, refl, refl)
    by_test false = (refl, refl, refl)

left_ends : (forgotten : ℕ → Bool) (tests : List PlanTest) → KeepEnds (record_left forgotten tests)
left_ends forgotten tests place told = by_test (forgotten place)
  where
    by_test : (b : Bool) →
        ((if b then unwritten told else record_to_keep tests place told).result ≡ told.result)
        × ((if b then unwritten told else record_to_keep tests place told).slow ≡ told.slow)
        × ((if b then unwritten told else record_to_keep tests place told).nanos ≡ told.nanos)
    by_test true = (refl, refl, refl)
    by_test false = keeps_ends tests place told

hides_to_keep : (success_output : TestOutputDisplay) →
    Hides (λ told. if is_success told.result && is_never_shown success_output then unwritten told else told) success_output
hides_to_keep success_output told = by_tests (is_success told.result) (shown_at_once success_output) (shown_at_end success_output) refl refl refl
  where
    by_tests : (success at_once at_end : Bool) → is_success told.result ≡ success → shown_at_once success_output ≡ at_once → shown_at_end success_output ≡ at_end →
        ((if success && (not at_once && not at_end) then unwritten told else told) ≡ told)
        ⊎ ((is_success told.result ≡ true) × (shown_at_once success_output ≡ false) × (shown_at_end success_output ≡ false))
    by_tests false at_once at_end a b c = inl refl
    by_tests true true at_end a b c = inl refl
    by_tests true false true a b c = inl refl
    by_tests true false false a b c = inr (a, b, c)

-- at a place that isn't forgotten
left_there : (forgotten : ℕ → Bool) (tests : List PlanTest) (place : ℕ) (told : Record) → forgotten place ≡ false → record_left forgotten tests place told ≡ record_to_keep tests place told
left_there forgotten tests place told there = ap (λ (b : Bool). if b then unwritten told else record_to_keep tests place told) there

left_hides : (forgotten : ℕ → Bool) (tests : List PlanTest) (place : ℕ) → forgotten place ≡ false → HidesAt (record_left forgotten tests) tests place
left_hides forgotten tests place there test found told = by_hides (hides told)
  where
    hides : Hides (record_to_keep tests place) test.settings.success_output
    hides =
        subst (λ (o : Option PlanTest). Hides (λ told. if is_success told.result && option_map_or (λ t. is_never_shown t.settings.success_output) o false then unwritten told else told) test.settings.success_output)
        (sym found) (hides_to_keep test.settings.success_output)

    by_hides : (record_to_keep tests place told ≡ told) ⊎ ((is_success told.result ≡ true) × (shown_at_once test.settings.success_output ≡ false) × (shown_at_end test.settings.success_output ≡ false))
        → (record_left forgotten tests place told ≡ told) ⊎ ((is_success told.result ≡ true) × (shown_at_once test.settings.success_output ≡ false) × (shown_at_end test.settings.success_output ≡ false))
    by_hides (inl same) = inl (left_there forgotten tests place told there ∙ same)
    by_hides (inr never) = inr never

-- ---- tests that are settled

settled_there : (plan : Plan) (state : State) (place : ℕ) (test : PlanTest) (so_far : TestState) → slice_get plan.tests place ≡ Some test → slice_get state.tests place ≡ Some so_far
    → is_settled plan state place ≡ is_settled_by (due_of (shows_of plan test) so_far)
settled_there plan state place test so_far here there =
    ap (λ (o : Option ShownTest). option_map_or (λ (named : ShownTest). is_settled_by (due_of named.shows named.test.state)) o false) (shown_here plan plan.tests state.tests place test so_far here there)

-- such a test is finished
over_by : (shows : Shows) (test : TestState) → is_settled_by (due_of shows test) ≡ true → is_finished test ≡ true
over_by shows test over = by_mark test.mark (last_record test.records) over
  where
    by_mark : (mark : Mark) (last : Option Record) → is_settled_by (due_by shows test mark last) ≡ true → is_finished_mark mark ≡ true
    by_mark marks.Waiting None h = cc
    by_mark marks.Waiting (Some told) h = cc
    by_mark marks.Running None h = cc
    by_mark marks.Running (Some told) h = cc
    by_mark marks.Between None h = cc
    by_mark marks.Between (Some told) h = cc
    by_mark (marks.Finished reason) last h = refl

settled_finished : (plan : Plan) (state : State) (place : ℕ) → is_settled plan state place ≡ true → finished_at state.tests place ≡ true
settled_finished plan state place over = by_state (slice_get state.tests place) refl
  where
    not_settled : slice_get (shown_tests plan plan.tests state.tests) place ≡ None → finished_at state.tests place ≡ true
    not_settled none =
        absurd (let never : false ≡ true =
        sym (ap (λ (o : Option ShownTest). option_map_or (λ (named : ShownTest). is_settled_by (due_of named.shows named.test.state)) o false) none) ∙ over in cc)

    by_test : (so_far : TestState) → slice_get state.tests place ≡ Some so_far → (found : Option PlanTest) → slice_get plan.tests place ≡ found → finished_at state.tests place ≡ true
    by_test so_far there None none = not_settled (no_test plan plan.tests state.tests place none)
    by_test so_far there (Some test) here =
        ap (λ (o : Option TestState). option_map_or is_finished o false) there ∙ over_by (shows_of plan test) so_far (sym (settled_there plan state place test so_far here there) ∙ over)

    by_state : (found : Option TestState) → slice_get state.tests place ≡ found → finished_at state.tests place ≡ true
    by_state None none = not_settled (no_state plan plan.tests state.tests place none)
    by_state (Some so_far) there = by_test so_far there (slice_get plan.tests place) refl

-- where a test is as it was, it is shown as it was
shown_same : (plan : Plan) (one other : List TestState) (place : ℕ) → slice_get one place ≡ slice_get other place
    → slice_get (shown_tests plan plan.tests one) place ≡ slice_get (shown_tests plan plan.tests other) place
shown_same plan one other place same = by_state (slice_get one place) refl
  where
    by_test : (so_far : TestState) → slice_get one place ≡ Some so_far → (found : Option PlanTest) → slice_get plan.tests place ≡ found
        → slice_get (shown_tests plan plan.tests one) place ≡ slice_get (shown_tests plan plan.tests other) place
    by_test so_far there None none = no_test plan plan.tests one place none ∙ sym (no_test plan plan.tests other place none)
    by_test so_far there (Some test) here =
        shown_here plan plan.tests one place test so_far here there ∙ sym (shown_here plan plan.tests other place test so_far here (sym same ∙ there))

    by_state : (found : Option TestState) → slice_get one place ≡ found → slice_get (shown_tests plan plan.tests one) place ≡ slice_get (shown_tests plan plan.tests other) place
    by_state None none = no_state plan plan.tests one place none ∙ sym (no_state plan plan.tests other place (sym same ∙ none))
    by_state (Some so_far) there = by_test so_far there (slice_get plan.tests place) refl

-- settled tests stay so
settled_on : (plan : Plan) (forgotten : ℕ → Bool) (real next : State) (event : Event) → AllSettled forgotten plan real → step real event ≡ Ok next → AllSettled forgotten plan next
settled_on plan forgotten real next event settled taken place is =
    ap (λ (o : Option ShownTest). option_map_or (λ (named : ShownTest). is_settled_by (due_of named.shows named.test.state)) o false)
    (shown_same plan next.tests real.tests place (finished_stays real next event place taken (settled_finished plan real place (settled place is))))
    ∙ settled place is

unforgotten : (plan : Plan) (forgotten : ℕ → Bool) (real : State) → AllSettled forgotten plan real → (place : ℕ) → finished_at real.tests place ≡ false → forgotten place ≡ false
unforgotten plan forgotten real settled place unfinished = by_test (forgotten place) refl
  where
    by_test : (b : Bool) → forgotten place ≡ b → forgotten place ≡ false
    by_test true e = absurd (let never : true ≡ false = sym (settled_finished plan real place (settled place e)) ∙ unfinished in cc)
    by_test false e = e

-- ---- what is kept of a run

-- whatever is said of the end of a test that is over, it is refused
over_refuses : (state : State) (place : ℕ) (one other : Record) → finished_at state.tests place ≡ true → attempt_ended state place one ≡ attempt_ended state place other
over_refuses state place one other over = by_found (slice_get state.tests place) over
  where
    by_mark : (test : TestState) (mark : Mark) → is_finished_mark mark ≡ true → end_from state place one test mark ≡ end_from state place other test mark
    by_mark test marks.Waiting h = refl
    by_mark test marks.Running h = cc
    by_mark test marks.Between h = refl
    by_mark test (marks.Finished kept) h = refl

    by_found : (found : Option TestState) → option_map_or is_finished found false ≡ true
        → option_map_or (λ test. end_from state place one test test.mark) found (Err refused.UnknownTest) ≡ option_map_or (λ test. end_from state place other test test.mark) found (Err refused.UnknownTest)
    by_found None h = refl
    by_found (Some test) h = by_mark test test.mark h

step_same : (plan : Plan) (forgotten : ℕ → Bool) (real : State) (event : Event) → AllSettled forgotten plan real
    → step (state_with (record_left forgotten plan.tests) real) (event_to_keep plan event) ≡ step (state_with (record_left forgotten plan.tests) real) (event_with (record_left forgotten plan.tests) event)
step_same plan forgotten real (events.ScriptEnded script told) settled = refl
step_same plan forgotten real (events.Started test) settled = refl
step_same plan forgotten real (events.Ended test told) settled = by_test (forgotten test) refl
  where
    kept : State
    kept = state_with (record_left forgotten plan.tests) real

    by_test : (b : Bool) → forgotten test ≡ b → attempt_ended kept test (record_to_keep plan.tests test told) ≡ attempt_ended kept test (record_left forgotten plan.tests test told)
    by_test true e =
        over_refuses kept test (record_to_keep plan.tests test told) (record_left forgotten plan.tests test told)
        (finished_at_with (record_left forgotten plan.tests) real.tests test ∙ settled_finished plan real test (settled test e))
    by_test false e = ap (attempt_ended kept test) (sym (left_there forgotten plan.tests test told e))
step_same plan forgotten real (events.Stopped reason) settled = refl

as_taken : (plan : Plan) (forgotten : ℕ → Bool) (real old : State) (event : Event) (came : Result State StepRefusal) → AllSettled forgotten plan real → old ≡ state_with (record_left forgotten plan.tests) real
    → step old (event_to_keep plan event) ≡ came → step old (event_with (record_left forgotten plan.tests) event) ≡ came
as_taken plan forgotten real old event came settled is taken =
    ap (λ (s : State). step s (event_with (record_left forgotten plan.tests) event)) is ∙ sym (step_same plan forgotten real event settled)
    ∙ ap (λ (s : State). step s (event_to_keep plan event)) (sym is) ∙ taken

same_finishing : (plan : Plan) (kept : ℕ → Record → Record) (event : Event) (old new : State) → finishing (event_to_keep plan event) old new ≡ finishing (event_with kept event) old new
same_finishing plan kept (events.ScriptEnded script told) old new = refl
same_finishing plan kept (events.Started test) old new = refl
same_finishing plan kept (events.Ended test told) old new = refl
same_finishing plan kept (events.Stopped reason) old new = refl

step_as : (plan : Plan) (forgotten : ℕ → Bool) (event : Event) (real old next now : State) → AllSettled forgotten plan real
    → old ≡ state_with (record_left forgotten plan.tests) real → now ≡ state_with (record_left forgotten plan.tests) next
    → SayAs (step_parts plan (event_to_keep plan event) old now) (step_parts plan event real next)
step_as plan forgotten event real old next now settled was is =
    let kept = record_left forgotten plan.tests in
    let places : finishing (event_to_keep plan event) old now ≡ finishing event real next =
    same_finishing plan kept event old now
    ∙ ap (λ (s : State). finishing (event_with kept event) s now) was
    ∙ ap (finishing (event_with kept event) (state_with kept real)) is
    ∙ finishing_with kept event real next
    in
    subst (λ (ps : List ℕ). SayAs (all_done plan now ps) (step_parts plan event real next)) (sym places)
    (subst (λ (s : State). SayAs (all_done plan s (finishing event real next)) (step_parts plan event real next)) (sym is)
    (all_done_as plan kept (left_ends forgotten plan.tests) next (finishing event real next)
    (all_finishing (HidesAt kept plan.tests) event real next (λ place unfinished. left_hides forgotten plan.tests place (unforgotten plan forgotten real settled place unfinished)))))

-- a step of what is kept, as the run takes it
pub record KeptStep (plan : Plan) (event : Event) (real old now : State) : Type 0 where
  pub next : State
  pub taken : step real event ≡ Ok next
  pub kept : IsKeptOf plan next now
  pub says : SayAs (step_parts plan (event_to_keep plan event) old now) (step_parts plan event real next)

pub kept_begin : (plan : Plan) → IsKeptOf plan (initial (run_plan plan)) (initial (run_plan plan))
kept_begin plan = (λ place. false, λ place is. absurd (let e = is in cc), initial_with (record_left (λ place. false) plan.tests) (run_plan plan))

pub kept_step : (plan : Plan) (event : Event) (real old now : State) → IsKeptOf plan real old → step old (event_to_keep plan event) ≡ Ok now → KeptStep plan event real old now
kept_step plan event real old now (forgotten, settled, is) taken =
    let kept = record_left forgotten plan.tests in
    let here = taken_with kept (left_ends forgotten plan.tests) real old now event is (as_taken plan forgotten real old event (Ok now) settled is taken) in
    record {
      next = here.0;
      taken = here.1;
      kept = (forgotten, settled_on plan forgotten real here.0 event settled here.1, here.2);
      says = step_as plan forgotten event real old here.0 now settled is here.2;
    }

pub kept_refuses : (plan : Plan) (event : Event) (real old : State) (refusal : StepRefusal) → IsKeptOf plan real old → step old (event_to_keep plan event) ≡ Err refusal → step real event ≡ Err refusal
kept_refuses plan event real old refusal (forgotten, settled, is) never =
    refused_with (record_left forgotten plan.tests) (left_ends forgotten plan.tests) real old event refusal is (as_taken plan forgotten real old event (Err refusal) settled is never)

-- forgetting one more
twice_records : (second first whole : Record → Record) → ((told : Record) → second (first told) ≡ whole told) → (records : List Record) → map second (map first records) ≡ map whole records
twice_records second first whole same [] = refl
twice_records second first whole same (told ∷ records) = λ i. same told i ∷ twice_records second first whole same records i

twice_tests : (second first whole : ℕ → Record → Record) → ((place : ℕ) (told : Record) → second place (first place told) ≡ whole place told) → (tests : List TestState)
    → tests_with second (tests_with first tests) ≡ tests_with whole tests
twice_tests second first whole same [] = refl
twice_tests second first whole same (test ∷ tests) = λ i.
    record test { records = twice_records (second zero) (first zero) (whole zero) (same zero) test.records i }
    ∷ twice_tests (λ p. second (suc p)) (λ p. first (suc p)) (λ p. whole (suc p)) (λ p. same (suc p)) tests i

one_place : (place other : ℕ) → is_place place other ≡ true → other ≡ place
one_place zero zero is = refl
one_place zero (suc other) is = cc
one_place (suc place) zero is = cc
one_place (suc place) (suc other) is = ap suc (one_place place other is)

-- a test is settled in what is kept as in the run
settled_with : (plan : Plan) (kept : ℕ → Record → Record) → KeepEnds kept → (state : State) (place : ℕ) → is_settled plan (state_with kept state) place ≡ is_settled plan state place
settled_with plan kept ends state place = by_state (slice_get state.tests place) refl
  where
    settled_by : Option ShownTest → Bool
    settled_by shown = option_map_or (λ (named : ShownTest). is_settled_by (due_of named.shows named.test.state)) shown false

    by_test : (so_far : TestState) → slice_get state.tests place ≡ Some so_far → (found : Option PlanTest) → slice_get plan.tests place ≡ found
        → is_settled plan (state_with kept state) place ≡ is_settled plan state place
    by_test so_far there None none =
        ap settled_by (no_test plan plan.tests (tests_with kept state.tests) place none ∙ sym (no_test plan plan.tests state.tests place none))
    by_test so_far there (Some test) here =
        settled_there plan (state_with kept state) place test (with_records (kept place) so_far) here (get_with kept state.tests place ∙ ap (option_map (with_records (kept place))) there)
        ∙ ap is_settled_by (due_with (kept place) (ends place) (shows_of plan test) so_far)
        ∙ sym (settled_there plan state place test so_far here there)

    by_state : (found : Option TestState) → slice_get state.tests place ≡ found → is_settled plan (state_with kept state) place ≡ is_settled plan state place
    by_state None none =
        ap settled_by (no_state plan plan.tests (tests_with kept state.tests) place (get_with kept state.tests place ∙ ap (option_map (with_records (kept place))) none)
        ∙ sym (no_state plan plan.tests state.tests place none))
    by_state (Some so_far) there = by_test so_far there (slice_get plan.tests place) refl

pub kept_forgets : (plan : Plan) (real kept : State) (place : ℕ) → IsKeptOf plan real kept → is_settled plan kept place ≡ true → IsKeptOf plan real (state_with (unwritten_at place) kept)
kept_forgets plan real kept place (forgotten, settled, is) over = (
  more,
  λ other e. by_place other (is_place place other) refl e,
  ap (state_with (unwritten_at place)) is
      ∙ ap (λ (tests : List TestState). record real { tests = tests }) (twice_tests (unwritten_at place) (record_left forgotten plan.tests) (record_left more plan.tests) same real.tests),
)
  where
    more : ℕ → Bool
    more other = is_place place other || forgotten other

    here_too : is_settled plan real place ≡ true
    here_too = sym (settled_with plan (record_left forgotten plan.tests) (left_ends forgotten plan.tests) real place) ∙ ap (λ (s : State). is_settled plan s place) (sym is) ∙ over

    by_place : (other : ℕ) (b : Bool) → is_place place other ≡ b → (b || forgotten other) ≡ true → is_settled plan real other ≡ true
    by_place other true e h = ap (is_settled plan real) (one_place place other e) ∙ here_too
    by_place other false e h = settled other h

    by_tests : (told : Record) (here gone hidden : Bool) →
        (if here then unwritten (if gone then unwritten told else if hidden then unwritten told else told) else if gone then unwritten told else if hidden then unwritten told else told)
        ≡ (if here || gone then unwritten told else if hidden then unwritten told else told)
    by_tests told true true hidden = refl
    by_tests told true false true = refl
    by_tests told true false false = refl
    by_tests told false gone hidden = refl

    same : (other : ℕ) (told : Record) → unwritten_at place other (record_left forgotten plan.tests other told) ≡ record_left more plan.tests other told
    same other told = by_tests told (is_place place other) (forgotten other) (is_success told.result && hides_success plan.tests other)

keeps_all : (plan : Plan) (forgotten : ℕ → Bool) (real : State) → AllSettled forgotten plan real → KeepsAll plan (record_left forgotten plan.tests) plan.tests real.tests
unfolding shows_of
keeps_all plan forgotten real settled place test so_far here there = by_test (forgotten place) refl
  where
    by_test : (b : Bool) → forgotten place ≡ b → KeepsShown (record_left forgotten plan.tests place) (shows_of plan test) so_far
    by_test true e = keeps_settled (record_left forgotten plan.tests place) (shows_of plan test) so_far (sym (settled_there plan real place test so_far here there) ∙ settled place e)
    by_test false e = keeps_hiding (record_left forgotten plan.tests place) (shows_of plan test) so_far (left_hides forgotten plan.tests place e test here)

pub kept_final : (plan : Plan) (real kept : State) → IsKeptOf plan real kept → SayAs (final_parts plan kept) (final_parts plan real)
kept_final plan real kept (forgotten, settled, is) =
    subst (λ (s : State). SayAs (final_parts plan s) (final_parts plan real)) (sym is) (
      λ text said. said ∙ ap (λ (stats : RunStats). end_text (record { outcome = summary_of stats; stats = stats })) (counters_with left (left_ends forgotten plan.tests) real),
      then_as (script_parts plan real) (script_parts plan real)
          (map shown_part (shown_tests plan plan.tests (tests_with left real.tests))) (map shown_part (shown_tests plan plan.tests real.tests))
          (self_as (script_parts plan real)) (shown_tests_as plan left (left_ends forgotten plan.tests) plan.tests real.tests (keeps_all plan forgotten real settled)),
    )
  where
    left : ℕ → Record → Record
    left = record_left forgotten plan.tests

pub kept_status : (plan : Plan) (real kept : State) → IsKeptOf plan real kept → status kept ≡ status real
kept_status plan real kept (forgotten, settled, is) =
    ap status is ∙ ap (λ (stats : RunStats). status_of (summary_of stats)) (counters_with (record_left forgotten plan.tests) (left_ends forgotten plan.tests) real)

pub kept_reasons : (plan : Plan) (real kept : State) → IsKeptOf plan real kept → KeepsReasons real → KeepsReasons kept
kept_reasons plan real kept (forgotten, settled, is) keeps = subst KeepsReasons (sym is) (reasons_with (record_left forgotten plan.tests) real keeps)
