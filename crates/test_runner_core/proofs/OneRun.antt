-- Inputs have one plan, and lines lead its run one way.
use Rattle.std.proofs.Common.{◌≡◌, ℕ, ◌+◌, List, [], ◌∷◌, ◌++◌, map, length, Option, Some, Result, Ok, Err, refl, sym, ap, ◌∙◌, subst, inl, inr, arith, append_assoc, append-nil}
use Rattle.std.proofs.lemmas.List.{length-append}
use Rattle.std.proofs.lemmas.Str.{IsUtf8-nil}
use Rattle.std.specs.Str.{IsUtf8}
use Rattle.test_runner_core_log_reader.specs.Items.{Item, Line, Refused}
use Rattle.test_runner_core_line_syntax.proofs.Lines.{nothing_empty, one_event}
use Rattle.test_runner_core_line_syntax.specs.Spelling.{Spells}
use Rattle.test_runner_core_line_syntax.specs.declared.log_line.LogLine.{LogLine}
use Rattle.test_runner_core_plan.specs.declared.plan.Plan.{Plan}
use Rattle.test_runner_core_run_model.specs.Runs.{Run}
use Rattle.test_runner_core_run_model.specs.State.{State, initial}
use Rattle.test_runner_core_run_model.specs.Step.{step}
use Rattle.test_runner_core_run_model.specs.declared.event.Event.{Event}
use Rattle.test_runner_core_run_model.specs.declared.step_refusal.StepRefusal.{StepRefusal}
use Rattle.test_runner_core_session.specs.Session.{run_plan}
use Rattle.test_runner_core_reporter.specs.Opening.{opening}
use Rattle.test_runner_core_reporter.specs.Parts.{Part}
use Rattle.test_runner_core_reporter.specs.Steps.{parts_after, progress}
use Rattle.test_runner_core.specs.Judging.{Finds, Leads, Refuses, SpellEvents, event_of}
use Rattle.test_runner_core.specs.Report.{SoFar}
use Rattle.test_runner_core.specs.declared.refused_line.LineRefusal.{LineRefusal}
use Rattle.test_runner_core.specs.declared.refused_line.LineRefusal.TheVariants as refused
use Rattle.test_runner_core.specs.declared.refused_line.RefusedLine.{RefusedLine}

-- an answer is one
ok_once : {A E : Type 0} {result : Result A E} {x y : A} → result ≡ Ok x → result ≡ Ok y → x ≡ y
ok_once to_x to_y = let e = sym to_x ∙ to_y in cc

err_once : {A E : Type 0} {result : Result A E} {x y : E} → result ≡ Err x → result ≡ Err y → x ≡ y
err_once to_x to_y = let e = sym to_x ∙ to_y in cc

never_ok_and_err : {A E : Type 0} {result : Result A E} {x : A} {y : E} → result ≡ Ok x → result ≡ Err y → ⊥
never_ok_and_err to_x to_y = absurd (let e = sym to_x ∙ to_y in cc)

-- ---- lines

-- lines report one list of events
pub tells_once : (plan : Plan) (front : List (List ℕ)) (one other : List Event) → SpellEvents plan front one → SpellEvents plan front other → one ≡ other
tells_once plan [] [] [] first second = refl
tells_once plan [] [] (event ∷ told) first second = absurd second
tells_once plan [] (event ∷ told) other first second = absurd first
tells_once plan (bytes ∷ more) one other (inl (empty, first)) (inl (also, second)) = tells_once plan more one other first second
tells_once plan (bytes ∷ more) one other (inl (empty, first)) (inr (line, spells, second)) = absurd (nothing_empty line bytes empty spells)
tells_once plan (bytes ∷ more) one other (inr (line, spells, first)) (inl (empty, second)) = absurd (nothing_empty line bytes empty spells)
tells_once plan (bytes ∷ more) one other (inr (line, spells, (rest, is, first))) (inr (same, spells_same, (behind, also, second))) =
    is ∙ ap (λ (l : LogLine). event_of plan l ∷ rest) (one_event line same bytes spells spells_same)
    ∙ ap (λ (events : List Event). event_of plan same ∷ events) (tells_once plan more rest behind first second) ∙ sym also

-- events lead to one state
pub run_once : (old a b : State) (told : List Event) → Run old told a → Run old told b → a ≡ b
run_once old a b [] first second = first ∙ sym second
run_once old a b (event ∷ more) (mid, step_one, first) (same, step_other, second) =
    run_once mid a b more first (subst (λ (s : State). Run s more b) (ok_once step_other step_one) second)

pub leads_once : (plan : Plan) (front : List (List ℕ)) (one other : List Event) (a b : State) → Leads plan front one a → Leads plan front other b
    → (one ≡ other) × (a ≡ b)
leads_once plan front one other a b first second =
    let same : one ≡ other = tells_once plan front one other first.events second.events in (
      same,
      run_once (initial (run_plan plan)) a b one first.run (subst (λ (told : List Event). Run (initial (run_plan plan)) told b) (sym same) second.run),
    )

-- so lines report one progress
pub so_far_once : (plan : Plan) (front : List (List ℕ)) (a b : State) (one other : List Part) → SoFar plan front a one → SoFar plan front b other
    → (a ≡ b) × (one ≡ other)
so_far_once plan front a b one other first second =
    let same = leads_once plan front first.events second.events a b first.leads second.leads in (
      same.1,
      first.told ∙ ap (λ (told : List Event). opening plan ++ progress plan (Ok (initial (run_plan plan))) told) same.0 ∙ sym second.told,
    )

-- ---- refused lines

-- an empty line isn't refused
pub refuses_some : (plan : Plan) (state : State) (bytes : List ℕ) (refusal : LineRefusal) → Refuses plan state bytes refusal → bytes ≡ [] → ⊥
refuses_some plan state bytes refused.LineTooLong refuses empty = refuses
refuses_some plan state bytes refused.LogTooLong refuses empty = refuses
refuses_some plan state bytes refused.NoLineEnd refuses empty = refuses
refuses_some plan state bytes refused.NotUtf8 refuses empty = refuses (subst IsUtf8 (sym empty) IsUtf8-nil)
refuses_some plan state bytes refused.BadLine refuses empty = refuses.1 empty
refuses_some plan state bytes (refused.Step refusal) (line, spells, stepped) empty = nothing_empty line bytes empty spells

-- nor is one whose event takes its step
pub never_both : (plan : Plan) (state mid : State) (bytes : List ℕ) (line : LogLine) (refusal : LineRefusal) → Refuses plan state bytes refusal
    → Spells line bytes → step state (event_of plan line) ≡ Ok mid → ⊥
never_both plan state mid bytes line refused.LineTooLong refuses spells taken = refuses
never_both plan state mid bytes line refused.LogTooLong refuses spells taken = refuses
never_both plan state mid bytes line refused.NoLineEnd refuses spells taken = refuses
never_both plan state mid bytes line refused.NotUtf8 refuses spells taken = refuses spells.utf8
never_both plan state mid bytes line refused.BadLine refuses spells taken = refuses.2 line spells
never_both plan state mid bytes line (refused.Step refusal) (other, spells_other, stepped) spells taken =
    never_ok_and_err (ap (λ (l : LogLine). step state (event_of plan l)) (one_event other line bytes spells_other spells) ∙ taken) stepped

-- a line is refused for one reason
pub refuses_once : (plan : Plan) (state : State) (bytes : List ℕ) (one other : LineRefusal) → Refuses plan state bytes one → Refuses plan state bytes other → one ≡ other
refuses_once plan state bytes refused.LineTooLong other first second = absurd first
refuses_once plan state bytes refused.LogTooLong other first second = absurd first
refuses_once plan state bytes refused.NoLineEnd other first second = absurd first
refuses_once plan state bytes refused.NotUtf8 refused.LineTooLong first second = absurd second
refuses_once plan state bytes refused.NotUtf8 refused.LogTooLong first second = absurd second
refuses_once plan state bytes refused.NotUtf8 refused.NoLineEnd first second = absurd second
refuses_once plan state bytes refused.NotUtf8 refused.NotUtf8 first second = refl
refuses_once plan state bytes refused.NotUtf8 refused.BadLine first second = absurd (first second.0)
refuses_once plan state bytes refused.NotUtf8 (refused.Step refusal) first (line, spells, stepped) = absurd (first spells.utf8)
refuses_once plan state bytes refused.BadLine refused.LineTooLong first second = absurd second
refuses_once plan state bytes refused.BadLine refused.LogTooLong first second = absurd second
refuses_once plan state bytes refused.BadLine refused.NoLineEnd first second = absurd second
refuses_once plan state bytes refused.BadLine refused.NotUtf8 first second = absurd (second first.0)
refuses_once plan state bytes refused.BadLine refused.BadLine first second = refl
refuses_once plan state bytes refused.BadLine (refused.Step refusal) first (line, spells, stepped) = absurd (first.2 line spells)
refuses_once plan state bytes (refused.Step refusal) refused.LineTooLong first second = absurd second
refuses_once plan state bytes (refused.Step refusal) refused.LogTooLong first second = absurd second
refuses_once plan state bytes (refused.Step refusal) refused.NoLineEnd first second = absurd second
refuses_once plan state bytes (refused.Step refusal) refused.NotUtf8 (line, spells, stepped) second = absurd (second spells.utf8)
refuses_once plan state bytes (refused.Step refusal) refused.BadLine (line, spells, stepped) second = absurd (second.2 line spells)
refuses_once plan state bytes (refused.Step refusal) (refused.Step again) (line, spells, stepped) (same, spells_same, stepped_same) =
    ap refused.Step (err_once stepped (ap (λ (l : LogLine). step state (event_of plan l)) (one_event line same bytes spells spells_same) ∙ stepped_same))

-- one refused line is found
pub finds_once : (plan : Plan) (state : State) (number : ℕ) (rest : List Item) (one other : Option RefusedLine) → Finds plan state number rest one → Finds plan state number rest other
    → one ≡ other
finds_once plan state number [] one other first second = first ∙ sym second
finds_once plan state number (Line bytes ∷ more) one other (refusal, refuses, is) (again, refuses_again, also) =
    is ∙ ap (λ (r : LineRefusal). Some (record { line = number; refusal = r })) (refuses_once plan state bytes refusal again refuses refuses_again) ∙ sym also
finds_once plan state number (Refused fault ∷ more) one other first second = first ∙ sym second

-- ---- divisions of a log

-- what stands behind lines of a log is one
pub same_rest : (front : List (List ℕ)) (one other : List Item) → map Line front ++ one ≡ map Line front ++ other → one ≡ other
same_rest [] one other whole = whole
same_rest (bytes ∷ front) one other whole = same_rest front one other (let e = whole in cc)

-- no line is taken that is the first refused one
not_taken : (plan : Plan) (state b : State) (number : ℕ) (rest : List Item) (found : Option RefusedLine) (bytes : List ℕ) (more : List (List ℕ)) (behind : List Item) (told : List Event)
    → rest ≡ Line bytes ∷ behind → Finds plan state number rest found → SpellEvents plan (bytes ∷ more) told → Run state told b → ⊥
not_taken plan state b number rest found bytes more behind told is finds writes run =
    by_line writes run (subst (λ (items : List Item). Finds plan state number items found) is finds)
  where
    by_line : SpellEvents plan (bytes ∷ more) told → Run state told b → Finds plan state number (Line bytes ∷ behind) found → ⊥
    by_line (inl (empty, writes)) run (refusal, refuses, is) = refuses_some plan state bytes refusal refuses empty
    by_line (inr (line, spells, (late, is_told, writes))) run (refusal, refuses, is) =
        let run_late = subst (λ (events : List Event). Run state events b) is_told run in
        never_both plan state run_late.0 bytes line refusal refuses spells run_late.1

-- two courses of a run that begin with one line go on from one state
record GoOn (plan : Plan) (a b : State) (front early : List (List ℕ)) : Type 0 where
  mid : State
  late : List Event
  writes : SpellEvents plan front late
  run : Run mid late a
  late_other : List Event
  tells_other : SpellEvents plan early late_other
  run_other : Run mid late_other b

go_on : (plan : Plan) (state a b : State) (line : List ℕ) (front early : List (List ℕ)) (one other : List Event)
    → SpellEvents plan (line ∷ front) one → Run state one a → SpellEvents plan (line ∷ early) other → Run state other b → GoOn plan a b front early
go_on plan state a b line front early one other (inl (empty, writes)) run (inl (also, tells_other)) run_other =
    record { mid = state; late = one; writes = writes; run = run; late_other = other; tells_other = tells_other; run_other = run_other }
go_on plan state a b line front early one other (inl (empty, writes)) run (inr (spelled, spells, tells_other)) run_other = absurd (nothing_empty spelled line empty spells)
go_on plan state a b line front early one other (inr (spelled, spells, writes)) run (inl (empty, tells_other)) run_other = absurd (nothing_empty spelled line empty spells)
go_on plan state a b line front early one other (inr (spelled, spells, (late, is, writes))) run (inr (again, spells_again, (late_other, also, tells_other))) run_other =
    let run_late = subst (λ (events : List Event). Run state events a) is run in
    let run_again = subst (λ (events : List Event). Run state events b) also run_other in
    let taken : step state (event_of plan spelled) ≡ Ok run_again.0 =
    ap (λ (l : LogLine). step state (event_of plan l)) (one_event spelled again line spells spells_again) ∙ run_again.1 in
    record {
      mid = run_late.0;
      late = late;
      writes = writes;
      run = run_late.2;
      late_other = late_other;
      tells_other = tells_other;
      run_other = subst (λ (s : State). Run s late_other b) (ok_once taken run_late.1) run_again.2;
    }

one_more : (line bytes : List ℕ) (front lines : List (List ℕ)) → bytes ≡ line → front ≡ lines → line ∷ front ≡ bytes ∷ lines
one_more line bytes front lines same rest = ap (λ (l : List ℕ). l ∷ front) (sym same) ∙ ap (λ (more : List (List ℕ)). bytes ∷ more) rest

-- lines that lead a run on stand before the first refused line
pub stands_before : (plan : Plan) (state a b : State) (number : ℕ) (rest behind : List Item) (found : Option RefusedLine) (front early : List (List ℕ)) (one other : List Event)
    → map Line front ++ rest ≡ map Line early ++ behind → SpellEvents plan front one → Run state one a → Finds plan a number rest found
    → SpellEvents plan early other → Run state other b → (more : List (List ℕ)) × (front ≡ early ++ more)
stands_before plan state a b number rest behind found front [] one other whole writes run finds tells_other run_other = (front, refl)
stands_before plan state a b number rest behind found [] (bytes ∷ early) [] other whole writes run finds tells_other run_other =
    absurd (not_taken plan state b number rest found bytes early (map Line early ++ behind) other whole (subst (λ (s : State). Finds plan s number rest found) run finds) tells_other run_other)
stands_before plan state a b number rest behind found [] (bytes ∷ early) (event ∷ told) other whole writes run finds tells_other run_other = absurd writes
stands_before plan state a b number rest behind found (line ∷ front) (bytes ∷ early) one other whole writes run finds tells_other run_other =
    let same : bytes ≡ line = (let e = whole in cc) in
    let rests : map Line front ++ rest ≡ map Line early ++ behind = (let e = whole in cc) in
    let on = go_on plan state a b line front early one other writes run (subst (λ (l : List ℕ). SpellEvents plan (l ∷ early) other) same tells_other) run_other in
    let there = stands_before plan on.mid a b number rest behind found front early on.late on.late_other rests on.writes on.run finds on.tells_other on.run_other in
    (there.0, one_more line bytes front (early ++ there.0) same there.1)

-- where each of two fronts has the other in front of it, they are the same
pub fronts_same : (one other more behind : List (List ℕ)) → one ≡ other ++ more → other ≡ one ++ behind → one ≡ other
fronts_same one other more behind first second =
    let longer : length one ≡ length other + length more = ap length first ∙ length-append other more in
    let shorter : length other ≡ length one + length behind = ap length second ∙ length-append one behind in
    let none : length more ≡ 0 = omega (arith, longer, shorter) in
    first ∙ ap (λ (lines : List (List ℕ)). other ++ lines) (no_lines more none) ∙ append-nil other
  where
    no_lines : (lines : List (List ℕ)) → length lines ≡ 0 → lines ≡ []
    no_lines [] none = refl
    no_lines (line ∷ lines) none = absurd (omega (arith, none))

-- ---- fronts of a run

-- the events that the first of these lines report come first
record TellsEarly (plan : Plan) (front : List (List ℕ)) (told : List Event) : Type 0 where
  early : List Event
  late : List Event
  whole : told ≡ early ++ late
  writes : SpellEvents plan front early

early_events : (plan : Plan) (front more : List (List ℕ)) (told : List Event) → SpellEvents plan (front ++ more) told → TellsEarly plan front told
early_events plan [] more told writes = record { early = []; late = told; whole = refl; writes = tt }
early_events plan (bytes ∷ front) more told (inl (empty, writes)) =
    let there = early_events plan front more told writes in
    record { early = there.early; late = there.late; whole = there.whole; writes = inl (empty, there.writes) }
early_events plan (bytes ∷ front) more told (inr (line, spells, (rest, is, writes))) =
    let there = early_events plan front more rest writes in
    record {
      early = event_of plan line ∷ there.early;
      late = there.late;
      whole = is ∙ ap (λ (events : List Event). event_of plan line ∷ events) there.whole;
      writes = inr (line, spells, (there.early, refl, there.writes));
    }

-- what the first events report comes first
early_progress : (plan : Plan) (early late : List Event) (state : Result State StepRefusal)
    → (more : List Part) × (progress plan state (early ++ late) ≡ progress plan state early ++ more)
early_progress plan early late (Err refusal) = ([], refl)
early_progress plan [] late (Ok state) = (progress plan (Ok state) late, refl)
early_progress plan (event ∷ early) late (Ok state) =
    let there = early_progress plan early late (step state event) in (
      there.0,
      ap (λ (parts : List Part). parts_after plan event state (step state event) ++ parts) there.1
          ∙ sym (append_assoc (parts_after plan event state (step state event)) (progress plan (step state event) early) there.0),
    )

-- what the first lines report comes first
pub early_parts : (plan : Plan) (front more : List (List ℕ)) (a b : State) (parts whole : List Part) → SoFar plan front a parts → SoFar plan (front ++ more) b whole
    → (behind : List Part) × (whole ≡ parts ++ behind)
early_parts plan front more a b parts whole so_far to_end =
    let early = early_events plan front more to_end.events to_end.leads.events in
    let same : early.early ≡ so_far.events = tells_once plan front early.early so_far.events early.writes so_far.leads.events in
    let begin : Result State StepRefusal = Ok (initial (run_plan plan)) in
    let behind = early_progress plan early.early early.late begin in (
      behind.0,
      to_end.told ∙ ap (λ (events : List Event). opening plan ++ progress plan begin events) early.whole ∙ ap (λ (parts : List Part). opening plan ++ parts) behind.1
          ∙ ap (λ (events : List Event). opening plan ++ (progress plan begin events ++ behind.0)) same
          ∙ sym (append_assoc (opening plan) (progress plan begin so_far.events) behind.0) ∙ ap (λ (told : List Part). told ++ behind.0) (sym so_far.told),
    )
