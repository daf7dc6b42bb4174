-- What stays true while the lines of a log are judged.
use Rattle.std.proofs.Common.{◌≡◌, ℕ, ◌+◌, ◌≤◌, List, [], ◌∷◌, ◌++◌, length, map, Option, Some, None, Result, Ok, Err, refl, sym, ap, ◌∙◌, subst, inl, inr, append_assoc, append-nil, arith}
use Rattle.std.specs.Prelude.{◌⊎◌}
use Rattle.std.specs.Io.KnownBytes.{Appends}
use Rattle.std.specs.Result.{IsErrAnd}
use Rattle.std.proofs.lemmas.Result.{err_from_is_err_and}
use Rattle.std.proofs.lemmas.List.{map-append, length-append}
use Rattle.test_runner_core_streams.specs.Left.{WhateverFollows}
use Rattle.test_runner_core_log_reader.proofs.Left.{gives_some}
use Rattle.test_runner_core_log_reader.proofs.WholeLines.{TakesLines, got_lines, takes_kept, takes_line}
use Rattle.test_runner_core_log_reader.specs.Calls.{Hands, HandsAhead, KeepsAhead}
use Rattle.test_runner_core_log_reader.specs.Cursor.{Cursor, bytes_received, items_ahead}
use Rattle.test_runner_core_log_reader.specs.Feeds.{IsPlain}
use Rattle.test_runner_core_log_reader.specs.Items.{Item, Line, Refused}
use Rattle.test_runner_core_log_reader.specs.declared.limits.TheConstants.{LOG_LIMIT}
use Rattle.test_runner_core_log_reader.specs.declared.fault.LineFault.{LineFault}
use Rattle.test_runner_core_log_reader.specs.declared.next.Next.TheVariants as found_is
use Rattle.test_runner_core_plan.specs.declared.plan.Plan.{Plan}
use Rattle.test_runner_core_run_model.specs.State.{State, initial}
use Rattle.test_runner_core_session.specs.Session.{SessionState, run_plan}
use Rattle.test_runner_core_reporter.specs.Keeping.{IsKeptOf}
use Rattle.test_runner_core_reporter.specs.Opening.{opening}
use Rattle.test_runner_core_reporter.specs.Parts.{Part}
use Rattle.test_runner_core_reporter.specs.Steps.{step_parts}
use Rattle.test_runner_core_reporter.specs.Writes.{MovesOn, WritesAll, WritesPrefix}
use Rattle.test_runner_core_reporter.specs.declared.fault.ReportFault.{ReportFault}
use Rattle.test_runner_core_reporter.specs.declared.fault.ReportFault.TheVariants as untold
use Rattle.test_runner_core_reporter.proofs.KeptReports.{all_as, front_as}
use Rattle.test_runner_core_reporter.proofs.Told.{all_then, front_then, moves_then}
use Rattle.test_runner_core.specs.Faults.{fault_of_reporting}
use Rattle.test_runner_core.specs.Inside.{BegunLines, GotLines, HandsNext, IsLogOf, JudgesLine, JudgesLines, KeepsJudged, kept_event}
use Rattle.test_runner_core.specs.Near.{BeginsWith, NearAhead}
use Rattle.test_runner_core.specs.declared.judge_fault.JudgeFault.{JudgeFault}
use Rattle.test_runner_core.specs.declared.judge_fault.JudgeFault.TheVariants as fault
use Rattle.test_runner_core.specs.declared.refused_line.RefusedLine.{RefusedLine}
use Rattle.test_runner_core.specs.Judging.{event_of, line_refusal_of}
use Rattle.test_runner_core.specs.Report.{SoFar}
use Rattle.test_runner_core.specs.declared.refused_line.LineRefusal.{LineRefusal}
use Rattle.test_runner_core.proofs.Course.{so_far_more, so_far_none, so_far_same}
use Rattle.test_runner_core.proofs.Kept.{forgets_as, refuses_as, steps_as}

-- the items ahead are what these lines leave of the log
abbrev pub LeavesAhead : Cursor → Option (List ℕ) → List (List ℕ) → Cursor → Option (List ℕ) → Type 0
LeavesAhead begin known front cursor left = WhateverFollows known left (λ log behind. items_ahead begin log ≡ map Line front ++ items_ahead cursor behind)

pub nothing_ahead : (begin : Cursor) (known : Option (List ℕ)) → LeavesAhead begin known [] begin known
nothing_ahead begin known = λ behind gives. (behind, gives, refl)

-- where the judging of a log is: these lines are judged, what they report is reported, and what a
-- report needs is kept of their run
pub record Where (plan : Plan) (begin : Cursor) (known before : Option (List ℕ)) (session : SessionState) (cursor : Cursor) (left after : Option (List ℕ)) (waits : List ℕ) (number : ℕ) : Type 0 where
  pub front : List (List ℕ)
  pub parts : List Part
  pub planned : session.plan ≡ plan
  pub real : State
  pub kept : IsKeptOf plan real session.run
  pub so_far : SoFar plan front real parts
  pub told : WritesAll parts before [] after waits
  pub items : LeavesAhead begin known front cursor left
  pub bytes : TakesLines begin known front cursor left
  pub numbered : number ≡ length front + 1

-- the line is near behind some whose report was written whole
pub record ReportsNear (plan : Plan) (log : List Item) (before after : Option (List ℕ)) (Near : ℕ → Type 0) : Type 0 where
  pub front : List (List ℕ)
  pub rest : List Item
  pub whole : log ≡ map Line front ++ rest
  pub last : State
  pub parts : List Part
  pub so_far : SoFar plan front last parts
  pub written : BeginsWith parts before after
  pub near : Near (length front + 1)

-- how far the log was read: nothing was taken of it, or such a line is near
abbrev pub ReadNear : Plan → Cursor → Option (List ℕ) → Option (List ℕ) → Option (List ℕ) → Option (List ℕ) → Type 0
ReadNear plan begin known before left after = (left ≡ known) ⊎ NearAhead begin known left (λ log. ReportsNear plan log before after)

-- and how often reader and writer were called for it
pub record Walking (plan : Plan) (begin : Cursor) (known before : Option (List ℕ)) (first_calls first_failures first_write_failures : ℕ) (session : SessionState) (cursor : Cursor) (left after : Option (List ℕ)) (waits : List ℕ) (number calls failures write_failures : ℕ) : Type 0 where
  pub here : Where plan begin known before session cursor left after waits number
  pub near : ReadNear plan begin known before left after
  pub reads : calls + bytes_received begin ≤ first_calls + bytes_received cursor
  pub within : calls ≤ first_calls + LOG_LIMIT + 1
  pub unfailed : failures ≡ first_failures
  pub unfailed_writes : write_failures ≡ first_write_failures
  pub counted : number ≤ cursor.handed + 1

-- what the log may go on with
pub rest_behind : Cursor → Option (List ℕ) → List Item
rest_behind cursor left = items_ahead cursor (gives_some left).0

pub log_at_line : (begin old new : Cursor) (known left rest : Option (List ℕ)) (front : List (List ℕ)) → LeavesAhead begin known front old left → Hands old left new rest (Ok found_is.Line)
    → IsLogOf begin known front (Line new.line ∷ rest_behind new rest)
unfolding rest_behind
log_at_line begin old new known left rest front ahead hands =
    let some = gives_some rest in
    let at = hands some.0 some.1 in
    let log = ahead at.0 at.1 in
    (log.0, log.1, log.2 ∙ ap (λ (t : List Item). map Line front ++ t) at.2)

log_past_line : (begin old new : Cursor) (known left rest : Option (List ℕ)) (front : List (List ℕ)) → LeavesAhead begin known front old left → Hands old left new rest (Ok found_is.Line)
    → LeavesAhead begin known (front ++ new.line ∷ []) new rest
log_past_line begin old new known left rest front ahead hands = λ behind gives.
    let at = hands behind gives in
    let log = ahead at.0 at.1 in (
      log.0,
      log.1,
      log.2 ∙ ap (λ (t : List Item). map Line front ++ t) at.2
          ∙ sym (append_assoc (map Line front) (Line new.line ∷ []) (items_ahead new behind))
          ∙ ap (λ (t : List Item). t ++ items_ahead new behind) (sym (map-append Line front (new.line ∷ []))),
    )

-- the same with that line among those before
log_behind_line : (begin old new : Cursor) (known left rest : Option (List ℕ)) (front : List (List ℕ)) → LeavesAhead begin known front old left → Hands old left new rest (Ok found_is.Line)
    → IsLogOf begin known (front ++ new.line ∷ []) (rest_behind new rest)
unfolding rest_behind
log_behind_line begin old new known left rest front ahead hands =
    let some = gives_some rest in log_past_line begin old new known left rest front ahead hands some.0 some.1

pub log_at_fault : (begin old new : Cursor) (known left rest : Option (List ℕ)) (front : List (List ℕ)) (fault : LineFault) → LeavesAhead begin known front old left
    → Hands old left new rest (Ok (found_is.Refused fault)) → IsLogOf begin known front (Refused fault ∷ [])
log_at_fault begin old new known left rest front fault ahead hands =
    let at = hands.2 in
    let log = ahead at.0 at.1 in
    (log.0, log.1, log.2 ∙ ap (λ (t : List Item). map Line front ++ t) at.2.0)

pub log_at_end : (begin old new : Cursor) (known left rest : Option (List ℕ)) (front : List (List ℕ)) → LeavesAhead begin known front old left
    → Hands old left new rest (Ok found_is.End) → IsLogOf begin known front []
log_at_end begin old new known left rest front ahead hands =
    let at = hands.2 in
    let log = ahead at.0 at.1 in
    (log.0, log.1, log.2 ∙ ap (λ (t : List Item). map Line front ++ t) at.2.0)

pub log_somewhere : (begin cursor : Cursor) (known left : Option (List ℕ)) (front : List (List ℕ)) → LeavesAhead begin known front cursor left → IsLogOf begin known front (rest_behind cursor left)
unfolding rest_behind
log_somewhere begin cursor known left front ahead = let some = gives_some left in ahead some.0 some.1

-- the opening of a plan is reported, where nothing waited before
pub told_from_nothing : (plan lent : Plan) (before after : Option (List ℕ)) (waited waits : List ℕ) → lent ≡ plan → waited ≡ [] → WritesAll (opening lent) before waited after waits
    → WritesAll (opening plan) before [] after waits
told_from_nothing plan lent before after waited waits same none told =
    subst (λ (p : Plan). WritesAll (opening p) before [] after waits) same (subst (λ (w : List ℕ). WritesAll (opening lent) before w after waits) none told)

-- or it fails to be reported
pub opening_failed : (plan lent : Plan) (begin : Cursor) (known before after : Option (List ℕ)) (waited : List ℕ) → lent ≡ plan → waited ≡ [] → WritesPrefix (opening lent) before waited after
    → BegunLines plan begin known before after
opening_failed plan lent begin known before after waited same none failed =
    record {
      front = [];
      rest = rest_behind begin known;
      whole = log_somewhere begin begin known known [] (nothing_ahead begin known);
      last = initial (run_plan plan);
      parts = opening plan;
      so_far = so_far_none plan;
      told = subst (λ (p : Plan). WritesPrefix (opening p) before [] after) same (subst (λ (w : List ℕ). WritesPrefix (opening lent) before w after) none failed);
    }

-- reported so far, and nothing more
pub told_still : (parts : List Part) (before middle after : Option (List ℕ)) (mid waits : List ℕ) → WritesAll parts before [] middle mid → WritesAll [] middle mid after waits → WritesAll parts before [] after waits
told_still parts before middle after mid waits first second =
    subst (λ (p : List Part). WritesAll p before [] after waits) (append-nil parts) (all_then parts [] before middle after [] mid waits first second)

-- behind a line that is accepted
pub line_accepted : (plan : Plan) (begin : Cursor) (known before : Option (List ℕ)) (old new : SessionState) (cursor next : Cursor) (left rest middle later after : Option (List ℕ)) (mid later_waits waits : List ℕ) (number : ℕ)
    → Where plan begin known before old cursor left middle mid number → Hands cursor left next rest (Ok found_is.Line) → HandsAhead cursor left next rest (Ok found_is.Line)
    → WritesAll [] middle mid later later_waits → JudgesLine (Ok None) old next.line new later later_waits after waits
    → Where plan begin known before new next rest after waits (number + 1)
line_accepted plan begin known before old new cursor next left rest middle later after mid later_waits waits number here hands ahead still (inl (empty, same, nothing)) =
    record {
      front = here.front ++ next.line ∷ [];
      parts = here.parts;
      planned = ap (λ (s : SessionState). s.plan) same ∙ here.planned;
      real = here.real;
      kept = subst (λ (s : SessionState). IsKeptOf plan here.real s.run) (sym same) here.kept;
      so_far = so_far_same plan here.front here.real here.parts next.line here.so_far empty;
      told = told_still here.parts before later after later_waits waits (told_still here.parts before middle later mid later_waits here.told still) nothing;
      items = log_past_line begin cursor next known left rest here.front here.items hands;
      bytes = takes_line begin cursor next known left rest here.front here.bytes ahead;
      numbered = let size = length-append here.front (next.line ∷ []) in let numbered = here.numbered in omega (arith, size, numbered);
    }
line_accepted plan begin known before old new cursor next left rest middle later after mid later_waits waits number here hands ahead still (inr (line, spells, (same, (state, taken, forgets, told)))) =
    let it = steps_as plan old.plan here.real old.run state line here.planned here.kept taken in
    record {
      front = here.front ++ next.line ∷ [];
      parts = here.parts ++ step_parts plan (event_of plan line) here.real it.next;
      planned = same ∙ here.planned;
      real = it.next;
      kept = forgets_as plan old.plan it.next state new.run here.planned it.kept forgets;
      so_far = so_far_more plan here.front here.real it.next here.parts next.line line here.so_far spells it.taken;
      told = all_then here.parts (step_parts plan (event_of plan line) here.real it.next) before later after [] later_waits waits
          (told_still here.parts before middle later mid later_waits here.told still)
          (all_as (step_parts old.plan (kept_event old.plan line) old.run state) (step_parts plan (event_of plan line) here.real it.next) later later_waits after waits it.says told);
      items = log_past_line begin cursor next known left rest here.front here.items hands;
      bytes = takes_line begin cursor next known left rest here.front here.bytes ahead;
      numbered = let size = length-append here.front (next.line ∷ []) in let numbered = here.numbered in omega (arith, size, numbered);
    }

-- at a line that is refused
pub line_refused : (plan : Plan) (begin : Cursor) (known before : Option (List ℕ)) (old new : SessionState) (cursor next : Cursor) (left rest middle later after : Option (List ℕ)) (mid later_waits waits : List ℕ) (number : ℕ) (refusal : LineRefusal)
    → Where plan begin known before old cursor left middle mid number → Hands cursor left next rest (Ok found_is.Line)
    → WritesAll [] middle mid later later_waits → JudgesLine (Ok (Some refusal)) old next.line new later later_waits after waits
    → KeepsJudged plan new.run (Some (record { line = number; refusal = refusal })) begin known before after waits
line_refused plan begin known before old new cursor next left rest middle later after mid later_waits waits number refusal here hands still (refuses, same, nothing) = (
  here.real,
  subst (λ (s : SessionState). IsKeptOf plan here.real s.run) (sym same) here.kept,
  record {
    front = here.front;
    rest = Line next.line ∷ rest_behind next rest;
    whole = log_at_line begin cursor next known left rest here.front here.items hands;
    parts = here.parts;
    so_far = here.so_far;
    finds = (
      refusal,
      refuses_as plan old.plan here.real old.run next.line refusal here.planned here.kept refuses,
      ap (λ (n : ℕ). Some (record { line = n; refusal = refusal })) here.numbered,
    );
    told = told_still here.parts before later after later_waits waits (told_still here.parts before middle later mid later_waits here.told still) nothing;
  },
)

-- at the log's end, or where it is too long or cut
pub log_faulty : (plan : Plan) (begin : Cursor) (known before : Option (List ℕ)) (session : SessionState) (cursor next : Cursor) (left rest middle after : Option (List ℕ)) (mid waits : List ℕ) (number : ℕ) (fault : LineFault)
    → Where plan begin known before session cursor left middle mid number → Hands cursor left next rest (Ok (found_is.Refused fault)) → WritesAll [] middle mid after waits
    → KeepsJudged plan session.run (Some (record { line = number; refusal = line_refusal_of fault })) begin known before after waits
log_faulty plan begin known before session cursor next left rest middle after mid waits number fault here hands still = (
  here.real,
  here.kept,
  record {
    front = here.front;
    rest = Refused fault ∷ [];
    whole = log_at_fault begin cursor next known left rest here.front fault here.items hands;
    parts = here.parts;
    so_far = here.so_far;
    finds = ap (λ (n : ℕ). Some (record { line = n; refusal = line_refusal_of fault })) here.numbered;
    told = told_still here.parts before middle after mid waits here.told still;
  },
)

pub log_over : (plan : Plan) (begin : Cursor) (known before : Option (List ℕ)) (session : SessionState) (cursor next : Cursor) (left rest middle after : Option (List ℕ)) (mid waits : List ℕ) (number : ℕ)
    → Where plan begin known before session cursor left middle mid number → Hands cursor left next rest (Ok found_is.End) → WritesAll [] middle mid after waits
    → KeepsJudged plan session.run None begin known before after waits
log_over plan begin known before session cursor next left rest middle after mid waits number here hands still = (
  here.real,
  here.kept,
  record {
    front = here.front;
    rest = [];
    whole = log_at_end begin cursor next known left rest here.front here.items hands;
    parts = here.parts;
    so_far = here.so_far;
    finds = refl;
    told = told_still here.parts before middle after mid waits here.told still;
  },
)

-- where a read fails
pub read_failed : (plan : Plan) (begin : Cursor) (known before : Option (List ℕ)) (session : SessionState) (cursor next : Cursor) (left rest middle after : Option (List ℕ)) (mid : List ℕ) (number : ℕ)
    → Where plan begin known before session cursor left middle mid number → KeepsAhead cursor left next rest → IsPlain next.waiting → MovesOn middle mid after [] []
    → GotLines plan begin known rest before after
read_failed plan begin known before session cursor next left rest middle after mid number here kept plain written =
    record {
      front = here.front;
      rest = rest_behind cursor left;
      whole = log_somewhere begin cursor known left here.front here.items;
      got = got_lines begin next known rest here.front (takes_kept begin cursor next known left rest here.front here.bytes kept) plain;
      last = here.real;
      parts = here.parts;
      so_far = here.so_far;
      written =
          let all = moves_then before middle after [] mid [] here.told.told [] here.told.moved written in
          let whole = sym (append-nil all.written) ∙ all.whole ∙ append-nil here.told.told in
          (here.told.told, here.told.text, subst (λ (t : List ℕ). Appends before after t) whole all.taken);
    }

-- where a write fails, or there is no memory
pub next_failed : (plan : Plan) (begin : Cursor) (known before : Option (List ℕ)) (session : SessionState) (cursor : Cursor) (left middle after : Option (List ℕ)) (mid : List ℕ) (number : ℕ)
    → Where plan begin known before session cursor left middle mid number → WritesPrefix [] middle mid after → BegunLines plan begin known before after
next_failed plan begin known before session cursor left middle after mid number here front =
    record {
      front = here.front;
      rest = rest_behind cursor left;
      whole = log_somewhere begin cursor known left here.front here.items;
      last = here.real;
      parts = here.parts;
      so_far = here.so_far;
      told = subst (λ (p : List Part). WritesPrefix p before [] after) (append-nil here.parts) (front_then here.parts [] before middle after [] mid here.told front);
    }

pub line_failed : (plan : Plan) (begin : Cursor) (known before : Option (List ℕ)) (old new : SessionState) (cursor next : Cursor) (left rest middle later after : Option (List ℕ)) (mid later_waits waits : List ℕ) (number : ℕ) (fault : ReportFault)
    → Where plan begin known before old cursor left middle mid number → Hands cursor left next rest (Ok found_is.Line)
    → WritesAll [] middle mid later later_waits → JudgesLine (Err fault) old next.line new later later_waits after waits
    → BegunLines plan begin known before after
line_failed plan begin known before old new cursor next left rest middle later after mid later_waits waits number fault here hands still (line, spells, inl front) =
    record {
      front = here.front;
      rest = rest_behind cursor left;
      whole = log_somewhere begin cursor known left here.front here.items;
      last = here.real;
      parts = here.parts;
      so_far = here.so_far;
      told = subst (λ (p : List Part). WritesPrefix p before [] after) (append-nil here.parts)
          (front_then here.parts [] before later after [] later_waits (told_still here.parts before middle later mid later_waits here.told still) front);
    }
line_failed plan begin known before old new cursor next left rest middle later after mid later_waits waits number fault here hands still (line, spells, inr (state, taken, front)) =
    let it = steps_as plan old.plan here.real old.run state line here.planned here.kept taken in
    record {
      front = here.front ++ next.line ∷ [];
      rest = rest_behind next rest;
      whole = log_behind_line begin cursor next known left rest here.front here.items hands;
      last = it.next;
      parts = here.parts ++ step_parts plan (event_of plan line) here.real it.next;
      so_far = so_far_more plan here.front here.real it.next here.parts next.line line here.so_far spells it.taken;
      told = front_then here.parts (step_parts plan (event_of plan line) here.real it.next) before later after [] later_waits
          (told_still here.parts before middle later mid later_waits here.told still)
          (front_as (step_parts old.plan (kept_event old.plan line) old.run state) (step_parts plan (event_of plan line) here.real it.next) later later_waits after it.says front);
    }

-- what fails, by an exit of `?`
pub judges_next_fails : (result : Result (Option RefusedLine) JudgeFault) (cause : JudgeFault) (plan : Plan) (last : State) (begin : Cursor) (known before : Option (List ℕ)) (session : SessionState) (cursor next : Cursor)
    (left rest middle after : Option (List ℕ)) (mid waits later : List ℕ) (number : ℕ)
    → IsErrAnd result (λ gives. gives ≡ cause) → Where plan begin known before session cursor left middle mid number
    → HandsNext (Err cause) cursor left next rest middle mid after waits → JudgesLines result plan last begin known rest before after later
judges_next_fails result cause plan last begin known before session cursor next left rest middle after mid waits later number is here hands =
    let gives = err_from_is_err_and result is in
    subst (λ (r : Result (Option RefusedLine) JudgeFault). JudgesLines r plan last begin known rest before after later) (sym gives.1)
    (subst (λ (f : JudgeFault). JudgesLines (Err f) plan last begin known rest before after later) (sym gives.2) (by_cause cause hands))
  where
    by_cause : (c : JudgeFault) → HandsNext (Err c) cursor left next rest middle mid after waits → JudgesLines (Err c) plan last begin known rest before after later
    by_cause (fault.Read error) h = read_failed plan begin known before session cursor next left rest middle after mid number here h.0 h.1 h.2
    by_cause (fault.Write error) h = next_failed plan begin known before session cursor left middle after mid number here h
    by_cause fault.Memory h = next_failed plan begin known before session cursor left middle after mid number here h

pub judges_line_fails : (result : Result (Option RefusedLine) JudgeFault) (cause : ReportFault) (plan : Plan) (last : State) (begin : Cursor) (known before rest after : Option (List ℕ)) (later : List ℕ)
    → IsErrAnd result (λ gives. gives ≡ fault_of_reporting cause) → BegunLines plan begin known before after → JudgesLines result plan last begin known rest before after later
judges_line_fails result cause plan last begin known before rest after later is begun =
    let gives = err_from_is_err_and result is in
    subst (λ (r : Result (Option RefusedLine) JudgeFault). JudgesLines r plan last begin known rest before after later) (sym gives.1)
    (subst (λ (f : JudgeFault). JudgesLines (Err f) plan last begin known rest before after later) (sym gives.2) (by_cause cause))
  where
    by_cause : (c : ReportFault) → JudgesLines (Err (fault_of_reporting c)) plan last begin known rest before after later
    by_cause (untold.Write error) = begun
    by_cause untold.Memory = begun
