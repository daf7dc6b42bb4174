-- How near to the line with which a call ends a log is read.
use Rattle.std.proofs.Common.{◌≡◌, ℕ, zero, suc, ◌+◌, ◌<◌, List, [], ◌∷◌, ◌++◌, length, map, Option, Some, None, Result, Ok, Err, refl, sym, ap, ◌∙◌, subst, inl, inr, arith, append_assoc, append-nil, unwrap_or}
use Rattle.std.specs.Prelude.{◌⊎◌}
use Rattle.std.specs.Io.KnownBytes.{Appends}
use Rattle.std.proofs.lemmas.List.{length-append}
use Rattle.test_runner_core_streams.specs.declared.traits.TheConstants.{READ_LIMIT}
use Rattle.test_runner_core_log_reader.proofs.FirstLine.{behind_line, behind_plain, divides}
use Rattle.test_runner_core_log_reader.proofs.WholeLines.{ArePlain, TakesLines, takes_kept, takes_line, with_feeds}
use Rattle.test_runner_core_log_reader.specs.Cursor.{Cursor, IsNear, items_ahead}
use Rattle.test_runner_core_log_reader.specs.Feeds.{IsPlain, before_feed, behind_feed}
use Rattle.test_runner_core_log_reader.specs.Items.{Item, Line}
use Rattle.test_runner_core_log_reader.specs.declared.next.Next.{Next}
use Rattle.test_runner_core_log_reader.specs.declared.next.Next.TheVariants as found_is
use Rattle.test_runner_core_plan.specs.declared.plan.Plan.{Plan}
use Rattle.test_runner_core_run_model.specs.State.{State, initial}
use Rattle.test_runner_core_session.specs.Session.{SessionState, run_plan}
use Rattle.test_runner_core_reporter.specs.Parts.{Part}
use Rattle.test_runner_core_reporter.specs.Writes.{WritesAll}
use Rattle.test_runner_core_reporter.specs.declared.fault.ReportFault.{ReportFault}
use Rattle.test_runner_core_reporter.proofs.Told.{appends_then}
use Rattle.test_runner_core.specs.Inside.{HandsNext, IsLogOf, JudgesLine}
use Rattle.test_runner_core.specs.Near.{BeginsWith, Decides, EndsNear, IsTakenNear, IsUnwritten, LinesNear, LooksNear, NearAhead, behind_feeds}
use Rattle.test_runner_core.specs.Report.{SoFar}
use Rattle.test_runner_core.specs.declared.judge_fault.JudgeFault.{JudgeFault}
use Rattle.test_runner_core.specs.declared.judge_fault.JudgeFault.TheVariants as fault
use Rattle.test_runner_core.specs.declared.refused_line.LineRefusal.{LineRefusal}
use Rattle.test_runner_core.proofs.OneReport.{parted}
use Rattle.test_runner_core.proofs.OneRun.{early_parts, stands_before}
use Rattle.test_runner_core.proofs.Walk.{ReadNear, ReportsNear, Where, log_somewhere, rest_behind, told_still}

-- the first of so many line feeds may be gone behind first
pub feeds_first : (count : ℕ) (bytes : List ℕ) → behind_feeds (suc count) bytes ≡ behind_feeds count (behind_feed bytes)
feeds_first zero bytes = refl
feeds_first (suc count) bytes = ap behind_feed (feeds_first count bytes)

-- behind the line feeds of lines stands what follows them
pub feeds_lines : (front : List (List ℕ)) (past : List ℕ) → ArePlain front → behind_feeds (length front) (with_feeds front ++ past) ≡ past
feeds_lines [] past plain = refl
feeds_lines (line ∷ front) past plain =
    feeds_first (length front) (with_feeds (line ∷ front) ++ past)
    ∙ ap (λ (bytes : List ℕ). behind_feeds (length front) (behind_feed bytes)) (append_assoc line (10 ∷ with_feeds front) past)
    ∙ ap (behind_feeds (length front)) (behind_line line (with_feeds front ++ past) plain.0)
    ∙ feeds_lines front past plain.1

-- few bytes behind lines, or behind the line after them
pub taken_behind : (front : List (List ℕ)) (past bytes rest : List ℕ) → ArePlain front → bytes ≡ with_feeds front ++ (past ++ rest) → length past < READ_LIMIT → IsTakenNear (length front) bytes rest
taken_behind front past bytes rest plain is few =
    record {
      taken = with_feeds front ++ past;
      whole = is ∙ sym (append_assoc (with_feeds front) past rest);
      near = subst (λ (ys : List ℕ). length ys < READ_LIMIT) (sym (feeds_lines front past plain)) few;
    }

pub taken_past : (front : List (List ℕ)) (past bytes rest : List ℕ) → ArePlain front → bytes ≡ with_feeds front ++ (past ++ rest) → length (behind_feed past) < READ_LIMIT
    → IsTakenNear (length front + 1) bytes rest
taken_past front past bytes rest plain is few =
    let next : suc (length front) ≡ length front + 1 = omega arith in
    subst (λ (n : ℕ). IsTakenNear n bytes rest) next
    (record {
      taken = with_feeds front ++ past;
      whole = is ∙ sym (append_assoc (with_feeds front) past rest);
      near = subst (λ (ys : List ℕ). length (behind_feed ys) < READ_LIMIT) (sym (feeds_lines front past plain)) few;
    })

-- the same of what a reader of lines took
Past : Cursor → Option (List ℕ) → Option (List ℕ) → ℕ → Type 0
Past begin known left count = NearAhead begin known left (λ log near_to. near_to count)

past_lines : (begin cursor : Cursor) (known left : Option (List ℕ)) (front : List (List ℕ)) → TakesLines begin known front cursor left → IsNear cursor → Past begin known left (length front + 1)
unfolding Past
past_lines begin cursor None left front taken near = tt
past_lines begin cursor (Some bytes) None front taken near = tt
past_lines begin cursor (Some bytes) (Some behind) front taken near =
    let was = taken.0 behind refl in
    taken_past front cursor.waiting (begin.waiting ++ bytes) behind taken.1 (ap (λ (ys : List ℕ). begin.waiting ++ ys) (sym was.1) ∙ was.2) near

behind_lines : (begin cursor : Cursor) (known left : Option (List ℕ)) (front : List (List ℕ)) (line : List ℕ) → TakesLines begin known (front ++ line ∷ []) cursor left → length cursor.waiting < READ_LIMIT
    → Past begin known left (length front + 1)
unfolding Past
behind_lines begin cursor None left front line taken few = tt
behind_lines begin cursor (Some bytes) None front line taken few = tt
behind_lines begin cursor (Some bytes) (Some behind) front line taken few =
    let was = taken.0 behind refl in
    subst (λ (n : ℕ). IsTakenNear n (begin.waiting ++ bytes) behind) (length-append front (line ∷ []))
    (taken_behind (front ++ line ∷ []) cursor.waiting (begin.waiting ++ bytes) behind taken.1 (ap (λ (ys : List ℕ). begin.waiting ++ ys) (sym was.1) ∙ was.2) few)

-- what was written goes on
begins_on : (parts : List Part) (before middle after : Option (List ℕ)) (more : List ℕ) → BeginsWith parts before middle → Appends middle after more → BeginsWith parts before after
begins_on parts before middle after more (told, text, (further, appends)) then =
    (told, text, (further ++ more, subst (Appends before after) (append_assoc told further more) (appends_then before middle after (told ++ further) more appends then)))

-- all was written
begins_all : (parts : List Part) (before after : Option (List ℕ)) → WritesAll parts before [] after [] → BeginsWith parts before after
begins_all parts before after told =
    (told.told, told.text, ([], subst (Appends before after) (sym (append-nil told.moved.written) ∙ told.moved.whole ∙ sym (append-nil told.told)) told.moved.taken))

reports_on : (plan : Plan) (begin : Cursor) (known before left middle after : Option (List ℕ)) (more : List ℕ) → Appends middle after more
    → NearAhead begin known left (λ log. ReportsNear plan log before middle) → NearAhead begin known left (λ log. ReportsNear plan log before after)
reports_on plan begin None before left middle after more then near = tt
reports_on plan begin (Some bytes) before None middle after more then near = tt
reports_on plan begin (Some bytes) before (Some behind) middle after more then near =
    record {
      front = near.front;
      rest = near.rest;
      whole = near.whole;
      last = near.last;
      parts = near.parts;
      so_far = near.so_far;
      written = begins_on near.parts before middle after more near.written then;
      near = near.near;
    }

pub read_on : (plan : Plan) (begin : Cursor) (known before left middle after : Option (List ℕ)) (more : List ℕ) → Appends middle after more
    → ReadNear plan begin known before left middle → ReadNear plan begin known before left after
read_on plan begin known before left middle after more then (inl same) = inl same
read_on plan begin known before left middle after more then (inr near) = inr (reports_on plan begin known before left middle after more then near)

-- what was read is near behind lines that are reported and written
reports : (plan : Plan) (begin : Cursor) (known before left after : Option (List ℕ)) (front : List (List ℕ)) (rest : List Item) (last : State) (parts : List Part)
    → IsLogOf begin known front rest → SoFar plan front last parts → BeginsWith parts before after → Past begin known left (length front + 1)
    → NearAhead begin known left (λ log. ReportsNear plan log before after)
unfolding Past
reports plan begin None before left after front rest last parts log so_far written near = tt
reports plan begin (Some bytes) before None after front rest last parts log so_far written near = tt
reports plan begin (Some bytes) before (Some behind) after front rest last parts log so_far written near =
    record {
      front = front;
      rest = rest;
      whole = ap (items_ahead begin) (sym log.1) ∙ log.2;
      last = last;
      parts = parts;
      so_far = so_far;
      written = written;
      near = near;
    }

-- what a line does to what was written
pub line_writes : (result : Result (Option LineRefusal) ReportFault) (old new : SessionState) (bytes : List ℕ) (before after : Option (List ℕ)) (waited waits : List ℕ)
    → JudgesLine result old bytes new before waited after waits → (more : List ℕ) × Appends before after more
line_writes (Ok None) old new bytes before after waited waits (inl (empty, same, nothing)) = (nothing.moved.written, nothing.moved.taken)
line_writes (Ok None) old new bytes before after waited waits (inr (line, spells, (same, (state, taken, forgets, told)))) = (told.moved.written, told.moved.taken)
line_writes (Ok (Some refusal)) old new bytes before after waited waits (refuses, same, nothing) = (nothing.moved.written, nothing.moved.taken)
line_writes (Err fault) old new bytes before after waited waits (line, spells, inl front) = (front.moved.written, front.moved.taken)
line_writes (Err fault) old new bytes before after waited waits (line, spells, inr (state, taken, front)) = (front.moved.written, front.moved.taken)

-- nothing stands behind a line feed where there is none
near_plain : (bytes : List ℕ) → IsPlain bytes → length (behind_feed bytes) < READ_LIMIT
near_plain bytes plain =
    let none : behind_feed bytes ≡ [] = ap behind_feed (sym (append-nil bytes)) ∙ behind_plain bytes [] plain in
    subst (λ (ys : List ℕ). length ys < READ_LIMIT) (sym none) (omega arith)

-- what is read stays, or the line behind those that were judged is near, and all is written that
-- they report
found_near : (plan : Plan) (begin : Cursor) (known before : Option (List ℕ)) (session : SessionState) (cursor : Cursor) (left rest middle after : Option (List ℕ)) (mid waits : List ℕ) (number : ℕ)
    → (here : Where plan begin known before session cursor left middle mid number) → WritesAll [] middle mid after waits → (rest ≡ left) ⊎ (waits ≡ []) → Past begin known rest (length here.front + 1)
    → ReadNear plan begin known before left middle → ReadNear plan begin known before rest after
found_near plan begin known before session cursor left rest middle after mid waits number here still (inl same) past read =
    subst (λ (r : Option (List ℕ)). ReadNear plan begin known before r after) (sym same) (read_on plan begin known before left middle after still.moved.written still.moved.taken read)
found_near plan begin known before session cursor left rest middle after mid waits number here still (inr empty) past read =
    let told = told_still here.parts before middle after mid waits here.told still in
    inr (reports plan begin known before rest after here.front (rest_behind cursor left) here.real here.parts
    (log_somewhere begin cursor known left here.front here.items) here.so_far
    (begins_all here.parts before after (subst (λ (w : List ℕ). WritesAll here.parts before [] after w) empty told)) past)

-- looking for the next line leaves what is read near
pub next_near : (result : Result Next JudgeFault) (plan : Plan) (begin : Cursor) (known before : Option (List ℕ)) (session : SessionState) (cursor next : Cursor) (left rest middle after : Option (List ℕ)) (mid waits : List ℕ) (number : ℕ)
    → Where plan begin known before session cursor left middle mid number → HandsNext result cursor left next rest middle mid after waits → LooksNear result cursor left next rest middle mid after waits
    → ReadNear plan begin known before left middle → ReadNear plan begin known before rest after
next_near (Ok found_is.Line) plan begin known before session cursor next left rest middle after mid waits number here (hands, ahead, bytes, still) (few, looks) read =
    found_near plan begin known before session cursor left rest middle after mid waits number here still looks
    (behind_lines begin next known rest here.front next.line (takes_line begin cursor next known left rest here.front here.bytes ahead) few) read
next_near (Ok (found_is.Refused fault)) plan begin known before session cursor next left rest middle after mid waits number here (hands, kept, bytes, still) (near, looks) read =
    found_near plan begin known before session cursor left rest middle after mid waits number here still looks
    (past_lines begin next known rest here.front (takes_kept begin cursor next known left rest here.front here.bytes kept) near) read
next_near (Ok found_is.End) plan begin known before session cursor next left rest middle after mid waits number here (hands, kept, bytes, still) (near, looks) read =
    found_near plan begin known before session cursor left rest middle after mid waits number here still looks
    (past_lines begin next known rest here.front (takes_kept begin cursor next known left rest here.front here.bytes kept) near) read
next_near (Err (fault.Read cause)) plan begin known before session cursor next left rest middle after mid waits number here (kept, plain, written) looks read =
    found_near plan begin known before session cursor left rest middle after mid [] number here (record { told = []; text = refl; moved = written }) (inr refl)
    (past_lines begin next known rest here.front (takes_kept begin cursor next known left rest here.front here.bytes kept) (near_plain next.waiting plain)) read
next_near (Err (fault.Write cause)) plan begin known before session cursor next left rest middle after mid waits number here failed same read =
    subst (λ (r : Option (List ℕ)). ReadNear plan begin known before r after) (sym same) (read_on plan begin known before left middle after failed.moved.written failed.moved.taken read)
next_near (Err fault.Memory) plan begin known before session cursor next left rest middle after mid waits number here failed (inl same) read =
    subst (λ (r : Option (List ℕ)). ReadNear plan begin known before r after) (sym same) (read_on plan begin known before left middle after failed.moved.written failed.moved.taken read)
next_near (Err fault.Memory) plan begin known before session cursor next left rest middle after mid waits number here failed (inr (kept, plain, written)) read =
    found_near plan begin known before session cursor left rest middle after mid [] number here (record { told = []; text = refl; moved = written }) (inr refl)
    (past_lines begin next known rest here.front (takes_kept begin cursor next known left rest here.front here.bytes kept) (near_plain next.waiting plain)) read

-- few bytes behind a line are few behind a later one
fewer_behind : (bytes : List ℕ) → length bytes < READ_LIMIT → length (behind_feed bytes) < READ_LIMIT
fewer_behind bytes few = by_feed (divides bytes)
  where
    by_feed : (IsPlain bytes × (behind_feed bytes ≡ [])) ⊎ (IsPlain (before_feed bytes) × (bytes ≡ before_feed bytes ++ 10 ∷ behind_feed bytes)) → length (behind_feed bytes) < READ_LIMIT
    by_feed (inl (plain, none)) = subst (λ (ys : List ℕ). length ys < READ_LIMIT) (sym none) (omega arith)
    by_feed (inr (plain, divided)) =
        let size : length bytes ≡ length (before_feed bytes) + suc (length (behind_feed bytes)) = ap length divided ∙ length-append (before_feed bytes) (10 ∷ behind_feed bytes) in
        omega (arith, size, few)

near_later : (more count number : ℕ) (bytes rest : List ℕ) → more + count ≡ number → IsTakenNear count bytes rest → IsTakenNear number bytes rest
near_later zero count number bytes rest is it =
    let same : count ≡ number = omega (arith, is) in
    subst (λ (n : ℕ). IsTakenNear n bytes rest) same it
near_later (suc more) count number bytes rest is it =
    let next : suc (more + count) ≡ number = omega (arith, is) in
    let before = near_later more count (more + count) bytes rest refl it in
    subst (λ (n : ℕ). IsTakenNear n bytes rest) next
    (record {
      taken = before.taken;
      whole = before.whole;
      near = fewer_behind (behind_feeds (more + count) before.taken) before.near;
    })

near_at : (number count : ℕ) (bytes rest : List ℕ) → IsTakenNear count bytes rest → (more : ℕ) × (more + count ≡ number) → IsTakenNear number bytes rest
near_at number count bytes rest it (more, is) = near_later more count number bytes rest is it

-- of two beginnings of a log one goes on with the other
abbrev Meet : List (List ℕ) → List (List ℕ) → Type 0
Meet one other = ((more : List (List ℕ)) × (other ≡ one ++ more)) ⊎ ((line : List ℕ) × ((more : List (List ℕ)) × (one ≡ other ++ line ∷ more)))

meet_behind : (line same : List ℕ) (one other : List (List ℕ)) → line ≡ same → Meet one other → Meet (line ∷ one) (same ∷ other)
meet_behind line same one other is (inl (more, goes_on)) = inl (more, ap (λ (l : List ℕ). l ∷ other) (sym is) ∙ ap (λ (lines : List (List ℕ)). line ∷ lines) goes_on)
meet_behind line same one other is (inr (next, (more, goes_on))) = inr (next, (more, ap (λ (l : List ℕ). l ∷ one) is ∙ ap (λ (lines : List (List ℕ)). same ∷ lines) goes_on))

fronts_meet : (one other : List (List ℕ)) (rest behind : List Item) → map Line one ++ rest ≡ map Line other ++ behind → Meet one other
fronts_meet [] other rest behind whole = inl (other, refl)
fronts_meet (line ∷ one) [] rest behind whole = inr (line, (one, refl))
fronts_meet (line ∷ one) (same ∷ other) rest behind whole =
    let first : line ≡ same = (let e = whole in cc) in
    let rests : map Line one ++ rest ≡ map Line other ++ behind = (let e = whole in cc) in
    meet_behind line same one other first (fronts_meet one other rest behind rests)

-- what begins with a text begins with each prefix of it
begins_early : (parts more : List Part) (before after : Option (List ℕ)) → BeginsWith (parts ++ more) before after → BeginsWith parts before after
begins_early parts more before after (told, text, (further, appends)) =
    let there = parted parts more told text in (
      there.told,
      there.is,
      (there.more ++ further, subst (Appends before after) (ap (λ (t : List ℕ). t ++ further) there.whole ∙ append_assoc there.told there.more further) appends),
    )

-- a line that decides, or up to which the report wasn't written whole, stands behind those up to
-- which it was
decides_later : (plan : Plan) (log : List Item) (before after : Option (List ℕ)) (Near : ℕ → Type 0) (number : ℕ) → (written : ReportsNear plan log before after Near) → Decides plan log number
    → (more : ℕ) × (more + (length written.front + 1) ≡ number)
decides_later plan log before after Near number written it =
    let on =
    stands_before plan (initial (run_plan plan)) it.last written.last number it.rest written.rest it.found it.front written.front it.events written.so_far.events
    (sym it.whole ∙ written.whole) it.leads.events it.leads.run it.finds written.so_far.leads.events written.so_far.leads.run in
    let size : length it.front ≡ length written.front + length on.0 = ap length on.1 ∙ length-append written.front on.0 in
    let numbered = it.numbered in
    (length on.0, omega (arith, size, numbered))

unwritten_later : (plan : Plan) (log : List Item) (before after : Option (List ℕ)) (Near : ℕ → Type 0) (number : ℕ) → (written : ReportsNear plan log before after Near) → IsUnwritten plan log before after number
    → (more : ℕ) × (more + (length written.front + 1) ≡ number)
unwritten_later plan log before after Near number written it = by_fronts (fronts_meet it.front written.front it.rest written.rest (sym it.whole ∙ written.whole))
  where
    by_fronts : Meet it.front written.front → (more : ℕ) × (more + (length written.front + 1) ≡ number)
    by_fronts (inl (more, goes_on)) =
        let behind =
        early_parts plan it.front more it.last written.last it.parts written.parts it.so_far
        (subst (λ (lines : List (List ℕ)). SoFar plan lines written.last written.parts) goes_on written.so_far) in
        absurd (it.unwritten (begins_early it.parts behind.0 before after (subst (λ (parts : List Part). BeginsWith parts before after) behind.1 written.written)))
    by_fronts (inr (line, (more, goes_on))) =
        let size : length it.front ≡ length written.front + suc (length more) = ap length goes_on ∙ length-append written.front (line ∷ more) in
        let numbered = it.numbered in
        (length more, omega (arith, size, numbered))

-- so a call ends, wherever it does
log_ends_near : (plan : Plan) (begin : Cursor) (bytes behind : List ℕ) (before after : Option (List ℕ)) → length begin.waiting < READ_LIMIT → ReadNear plan begin (Some bytes) before (Some behind) after
    → EndsNear plan (items_ahead begin bytes) before after (λ number. IsTakenNear number (begin.waiting ++ bytes) behind)
log_ends_near plan begin bytes behind before after few (inl same) =
    let nothing : IsTakenNear 0 (begin.waiting ++ bytes) behind =
    record {
      taken = begin.waiting;
      whole = ap (λ (o : Option (List ℕ)). begin.waiting ++ unwrap_or o []) (sym same);
      near = few;
    } in (
      λ number it. near_at number 0 (begin.waiting ++ bytes) behind nothing (number, omega arith),
      λ number it. near_at number 0 (begin.waiting ++ bytes) behind nothing (number, omega arith),
    )
log_ends_near plan begin bytes behind before after few (inr written) = (
  λ number it. near_at number (length written.front + 1) (begin.waiting ++ bytes) behind written.near
      (decides_later plan (items_ahead begin bytes) before after (λ count. IsTakenNear count (begin.waiting ++ bytes) behind) number written it),
  λ number it. near_at number (length written.front + 1) (begin.waiting ++ bytes) behind written.near
      (unwritten_later plan (items_ahead begin bytes) before after (λ count. IsTakenNear count (begin.waiting ++ bytes) behind) number written it),
)

pub ends_near : (plan : Plan) (begin : Cursor) (known before left after : Option (List ℕ)) → ReadNear plan begin known before left after → LinesNear plan begin known left before after
ends_near plan begin None before left after read = λ few. tt
ends_near plan begin (Some bytes) before None after read = λ few. tt
ends_near plan begin (Some bytes) before (Some behind) after read = λ few. log_ends_near plan begin bytes behind before after few read

-- what is written further leaves a call's end near
pub ends_on : (plan : Plan) (begin : Cursor) (known left before middle after : Option (List ℕ)) (more : List ℕ) → Appends middle after more → LinesNear plan begin known left before middle
    → LinesNear plan begin known left before after
ends_on plan begin None left before middle after more then near = λ few. tt
ends_on plan begin (Some bytes) None before middle after more then near = λ few. tt
ends_on plan begin (Some bytes) (Some behind) before middle after more then near = λ few.
    let it = near few in (
      it.0,
      λ number unwritten. it.1 number (record {
        front = unwritten.front;
        rest = unwritten.rest;
        whole = unwritten.whole;
        last = unwritten.last;
        parts = unwritten.parts;
        so_far = unwritten.so_far;
        unwritten = λ begun. unwritten.unwritten (begins_on unwritten.parts before middle after more begun then);
        numbered = unwritten.numbered;
      }),
    )
