-- That a plan has a log that runs it to its end as it is assigned, and so have inputs.
use Rattle.std.proofs.Common.{◌≡◌, ◌≢◌, ℕ, zero, suc, ◌+◌, ◌<◌, ◌≤◌, Bool, true, false, cond, ltb, leb, eqb, ◌&&◌, ◌||◌, List, [], ◌∷◌, ◌++◌, length, map, get_or, Option, Some, None, refl, sym, ap, ◌∙◌, subst, arith, inr, length-append}
use Rattle.std.specs.Prelude.{slice_get}
use Rattle.std.specs.Bool.{Decides}
use Rattle.std.specs.List.{AllByRecursion, AllPairs, position_from}
use Rattle.std.specs.Option.{IsSomeAnd, option_map, option_map_or, unwrap_or}
use Rattle.std.specs.Str.{bytes_eq}
use Rattle.std.proofs.lemmas.Bool.{false_from_ne_true, le-ltb}
use Rattle.std.proofs.lemmas.Bool.Decides.{Decides-and, Decides-like}
use Rattle.std.proofs.lemmas.List.{length-map}
use Rattle.std.proofs.lemmas.Map.Made.{AllPairs-from_IsDistinct}
use Rattle.std.proofs.lemmas.Option.{get_or_from_slice_get, slice_get-map, slice_get_within}
use Rattle.std.proofs.lemmas.Slice.Eq.{bytes_eq-Decides}
use Rattle.nextest_run_events_results.specs.declared.instance.OwnedTestInstanceId.{OwnedTestInstanceId}
use Rattle.test_runner_core_line_syntax.specs.declared.log_line.LogLine.{LogLine}
use Rattle.test_runner_core_line_syntax.specs.declared.log_line.LogLine.TheVariants.{Script, Start, End}
use Rattle.test_runner_core_line_syntax.proofs.Lines.{no_feed_spelled}
use Rattle.test_runner_core_listing.proofs.Differing.{rising_differ}
use Rattle.test_runner_core_log_reader.specs.Feeds.{IsPlain}
use Rattle.test_runner_core_log_reader.specs.Items.{Item, Line, Refused, items, line_fault}
use Rattle.test_runner_core_log_reader.specs.declared.fault.LineFault.{LineFault}
use Rattle.test_runner_core_log_reader.specs.declared.fault.LineFault.TheVariants as faults
use Rattle.test_runner_core_log_reader.specs.declared.limits.TheConstants.{LINE_LIMIT, LOG_LIMIT}
use Rattle.test_runner_core_log_reader.proofs.Items.{items_end, items_line}
use Rattle.test_runner_core_plan.specs.declared.plan.Plan.{Plan}
use Rattle.test_runner_core_plan.specs.declared.plan.PlanTest.{PlanTest}
use Rattle.test_runner_core_planning.proofs.NoneTwice.{has_none_twice}
use Rattle.test_runner_core_run_model.specs.Assignment.{Assignment}
use Rattle.test_runner_core_run_model.specs.Laws.{IsAssigned}
use Rattle.test_runner_core_run_model.specs.RunPlan.{RunPlan}
use Rattle.test_runner_core_run_model.specs.Runs.{IsNoStop}
use Rattle.test_runner_core_run_model.specs.declared.event.Event.{Event}
use Rattle.test_runner_core_run_model.specs.declared.event.Event.TheVariants as events
use Rattle.test_runner_core_run_model.specs.declared.run_test.RunTest.{RunTest}
use Rattle.test_runner_core_run_model.proofs.GoingOn.{reaches_an_assigned_end}
use Rattle.test_runner_core_session.specs.Names.{is_named, script_place}
use Rattle.test_runner_core_session.specs.Session.{names_of, place_in, run_plan, run_test}
use Rattle.test_runner_core.specs.Judging.{SpellEvents, event_of}
use Rattle.test_runner_core.specs.SomeLog.{EndsSomeLog, HasLine, HasLines, NoneRepeated, RunsSomeLog, bytes_of}
use Rattle.test_runner_core.proofs.Built.{built_is_plan}

-- ---- places by names

-- where no two elements are the same, the one of which alone a test holds stands at its place
first_at : {X : Type 0} (test : X → Bool) (xs : List X) (start place : ℕ) (x : X) → slice_get xs place ≡ Some x → test x ≡ true → ((y : X) → y ≢ x → test y ≡ false)
    → AllPairs (λ one other. one ≢ other) xs → position_from test start xs ≡ Some (start + place)
first_at test [] start place x found it others apart = cc
first_at test (y ∷ xs) start zero x found it others apart =
    let same : y ≡ x = cc in
    let sum : start ≡ start + 0 = omega arith in
    ap (λ (b : Bool). cond b (Some start) (position_from test (start + 1) xs)) (ap test same ∙ it) ∙ ap (λ (n : ℕ). Some n) sum
first_at test (y ∷ xs) start (suc place) x found it others apart =
    let within : place < length xs = slice_get_within xs place x found in
    let at : get_or xs place x ≡ x = get_or_from_slice_get xs place x x found in
    let sum : start + 1 + place ≡ start + suc place = omega arith in
    ap (λ (b : Bool). cond b (Some start) (position_from test (start + 1) xs)) (others y (λ same. apart 0 (suc place) x (omega arith) (omega (arith, within)) (same ∙ sym at)))
    ∙ first_at test xs (start + 1) place x found it others (λ i j d below inside. apart (suc i) (suc j) d (omega (arith, below)) (omega (arith, inside)))
    ∙ ap (λ (n : ℕ). Some n) sum

-- a test that decides whether two are the same finds the place
place_is : {X : Type 0} (test : X → Bool) (xs : List X) (place : ℕ) (x : X) → ((y : X) → Decides (test y) (y ≡ x)) → AllPairs (λ one other. one ≢ other) xs → slice_get xs place ≡ Some x
    → place ≡ unwrap_or (position_from test 0 xs) (length xs)
place_is test xs place x decides apart found =
    let first = first_at test xs 0 place x found ((decides x).1 refl) (λ y other. false_from_ne_true (test y) (λ is. other ((decides y).0 is))) apart in
    let zero_more : 0 + place ≡ place = omega arith in
    sym (ap (λ (o : Option ℕ). unwrap_or o (length xs)) (first ∙ ap (λ (n : ℕ). Some n) zero_more))

script_is : (scripts : List (List ℕ)) (place : ℕ) (id : List ℕ) → AllPairs (λ one other. one ≢ other) scripts → slice_get scripts place ≡ Some id → place ≡ script_place scripts id
script_is scripts place id = place_is (λ (script : List ℕ). bytes_eq script id) scripts place id (λ script. bytes_eq-Decides script id)

named_decides : (x y : OwnedTestInstanceId) → Decides (is_named x.binary_id x.test_name y) (y ≡ x)
named_decides x y =
    Decides-like (is_named x.binary_id x.test_name y)
    (λ (both : (x.binary_id ≡ y.binary_id) × (x.test_name ≡ y.test_name)). sym (λ i. record { binary_id = both.0 i; test_name = both.1 i }))
    (λ (same : y ≡ x). (sym (ap (λ (t : OwnedTestInstanceId). t.binary_id) same), sym (ap (λ (t : OwnedTestInstanceId). t.test_name) same)))
    (Decides-and (bytes_eq x.binary_id y.binary_id) (bytes_eq x.test_name y.test_name) (bytes_eq-Decides x.binary_id y.binary_id) (bytes_eq-Decides x.test_name y.test_name))

test_is : (plan : Plan) (place : ℕ) (test : PlanTest) → AllPairs (λ one other. one ≢ other) (names_of plan) → slice_get plan.tests place ≡ Some test
    → place ≡ place_in plan test.instance.binary_id test.instance.test_name
test_is plan place test apart found =
    place_is (is_named test.instance.binary_id test.instance.test_name) (names_of plan) place test.instance (named_decides test.instance) apart
    (slice_get-map (λ (t : PlanTest). t.instance) plan.tests place ∙ ap (option_map (λ (t : PlanTest). t.instance)) found)

-- ---- the line of an event

record LineOf (plan : Plan) (event : Event) : Type 0 where
  line : LogLine
  is : event ≡ event_of plan line
  has : HasLine line

-- something stands at a place within a list
stands : {X : Type 0} (xs : List X) (place : ℕ) → place < length xs → (x : X) × (slice_get xs place ≡ Some x)
stands [] place within = absurd (omega (arith, within))
stands (x ∷ xs) zero within = (x, refl)
stands (x ∷ xs) (suc place) within = stands xs place (omega (arith, within))

module _ (plan : Plan) (assigned : Assignment) (apart : NoneRepeated plan) (has : HasLines plan assigned) where
  -- an event as it is assigned has a line
  line_of : (event : Event) → IsAssigned (run_plan plan) assigned event → LineOf plan event
  line_of (events.ScriptEnded script ending) (within, same) =
      let (id, found) = stands plan.scripts script within in
      let at : script ≡ script_place plan.scripts id = script_is plan.scripts script id apart.scripts found in
      record {
        line = Script id (assigned.script script);
        is = λ i. events.ScriptEnded (at i) (same i);
        has = has.scripts script id found;
      }
  line_of (events.Started place) within =
      let count : length (map run_test plan.tests) ≡ length plan.tests = length-map plan.tests run_test in
      let (test, found) = stands plan.tests place (omega (arith, within, count)) in
      let at : place ≡ place_in plan test.instance.binary_id test.instance.test_name = test_is plan place test apart.tests found in
      record {
        line = Start test.instance.binary_id test.instance.test_name;
        is = ap events.Started at;
        has = has.starts place test found;
      }
  line_of (events.Ended place ending) (number, a_try, same) =
      by_test (slice_get plan.tests place) refl
      (subst (λ (o : Option RunTest). IsSomeAnd o (λ it. number ≤ it.tries)) (slice_get-map run_test plan.tests place) a_try.1)
    where
      by_test : (o : Option PlanTest) → slice_get plan.tests place ≡ o → IsSomeAnd (option_map run_test o) (λ (it : RunTest). number ≤ it.tries) → LineOf plan (events.Ended place ending)
      by_test None found within = absurd within
      by_test (Some test) found within =
          let at : place ≡ place_in plan test.instance.binary_id test.instance.test_name = test_is plan place test apart.tests found in
          record {
            line = End test.instance.binary_id test.instance.test_name (assigned.attempt place number);
            is = λ i. events.Ended (at i) (same i);
            has = has.ends place number test found a_try.0 within;
          }
  line_of (events.Stopped reason) is = absurd is

  -- events, and their lines
  record Written (happened : List Event) : Type 0 where
    lines : List (List ℕ)
    spell : SpellEvents plan lines happened
    each : length happened ≡ length lines
    plain : AllByRecursion IsPlain lines
    short : AllByRecursion (λ line. length line ≤ LINE_LIMIT) lines

  written : (happened : List Event) → AllByRecursion (IsAssigned (run_plan plan) assigned) happened → Written happened
  written [] all = record { lines = []; spell = tt; each = refl; plain = tt; short = tt }
  written (event ∷ happened) all =
      let it = line_of event all.0 in
      let (bytes, spells, short) = it.has in
      let more = written happened all.1 in
      record {
        lines = bytes ∷ more.lines;
        spell = inr (it.line, spells, (happened, ap (λ (e : Event). e ∷ happened) it.is, more.spell));
        each = ap suc more.each;
        plain = (no_feed_spelled it.line bytes spells, more.plain);
        short = (short, more.short);
      }

no_stop : (plan : RunPlan) (assigned : Assignment) (event : Event) → IsAssigned plan assigned event → IsNoStop event
no_stop plan assigned (events.ScriptEnded script ending) is = tt
no_stop plan assigned (events.Started test) is = tt
no_stop plan assigned (events.Ended test ending) is = tt
no_stop plan assigned (events.Stopped reason) is = absurd is

no_stops : (plan : RunPlan) (assigned : Assignment) (happened : List Event) → AllByRecursion (IsAssigned plan assigned) happened → AllByRecursion IsNoStop happened
no_stops plan assigned [] all = tt
no_stops plan assigned (event ∷ happened) all = (no_stop plan assigned event all.0, no_stops plan assigned happened all.1)

-- ---- the items of lines

-- within the limits there is no fault
no_fault : (before size : ℕ) (ended : Bool) → size ≤ LINE_LIMIT → before + size + cond ended 1 0 ≤ LOG_LIMIT → (ended || eqb size 0) ≡ true → line_fault before size ended ≡ None
no_fault before size ended short within whole =
    ap (λ (t : Bool). cond (t && leb (before + LINE_LIMIT) LOG_LIMIT) (Some faults.LineTooLong) (behind (ltb LOG_LIMIT (before + size + cond ended 1 0)) (ended || eqb size 0))) (le-ltb LINE_LIMIT size short)
    ∙ ap (λ (t : Bool). behind t (ended || eqb size 0)) (le-ltb LOG_LIMIT (before + size + cond ended 1 0) within)
    ∙ ap (λ (t : Bool). cond t None (Some faults.NoLineEnd)) whole
  where
    behind : Bool → Bool → Option LineFault
    behind too_long done = cond too_long (Some faults.LogTooLong) (cond done None (Some faults.NoLineEnd))

-- the bytes of lines within the limits are cut into these lines
cut_into : (before : ℕ) (lines : List (List ℕ)) → AllByRecursion IsPlain lines → AllByRecursion (λ line. length line ≤ LINE_LIMIT) lines
    → before + length (bytes_of lines) ≤ LOG_LIMIT → items before (bytes_of lines) ≡ map Line lines
cut_into before [] plain short within =
    items_end before [] tt
    ∙ ap (λ (o : Option LineFault). option_map_or (λ fault. Refused fault ∷ []) o []) (no_fault before 0 false (omega arith) (omega (arith, within)) refl)
cut_into before (line ∷ lines) plain short within =
    let size : length (line ++ 10 ∷ bytes_of lines) ≡ length line + length (10 ∷ bytes_of lines) = length-append line (10 ∷ bytes_of lines) in
    items_line before line (bytes_of lines) plain.0
    ∙ ap (λ (o : Option LineFault). option_map_or (λ fault. Refused fault ∷ []) o (Line line ∷ items (before + length line + 1) (bytes_of lines)))
    (no_fault before (length line) true short.0 (omega (arith, within, size)) refl)
    ∙ ap (λ (more : List Item). Line line ∷ more) (cut_into (before + length line + 1) lines plain.1 short.1 (omega (arith, within, size)))

-- ---- the laws

pub ends_some_log : EndsSomeLog
ends_some_log plan assigned ok apart has =
    let run = reaches_an_assigned_end (run_plan plan) assigned ok in
    let told = written plan assigned apart has run.0 run.5 in (
      told.lines,
      record {
        events = run.0;
        last = run.1;
        leads = record { events = told.spell; run = run.2 };
        each = told.each;
        agrees = run.3;
        complete = run.4;
        no_stop = no_stops (run_plan plan) assigned run.0 run.5;
      },
      λ within. cut_into 0 told.lines told.plain told.short (omega (arith, within)),
    )

pub runs_some_log : RunsSomeLog
runs_some_log answer inputs plan assigned built has =
    let ok = built_is_plan answer inputs built.0 plan built.1 built.2 in
    let scripts = built.2.scripts in
    let apart : NoneRepeated plan =
    record {
      scripts = AllPairs-from_IsDistinct bytes_eq-Decides plan.scripts (rising_differ plan.scripts scripts.rise);
      tests = has_none_twice answer inputs plan built;
    } in
    let log = ends_some_log plan assigned ok apart has in
    let ends = log.1 in (
      log.0,
      ends,
      λ within. record {
        run = record { plan = plan; built = built; lines = log.0; whole = log.2 within; events = ends.events; last = ends.last; leads = ends.leads };
        agrees = ends.agrees;
        complete = ends.complete;
        no_stop = ends.no_stop;
      },
    )
