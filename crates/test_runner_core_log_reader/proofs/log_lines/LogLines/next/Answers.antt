use Rattle.std.proofs.Common.{◌≡◌, ℕ, ◌+◌, ◌<◌, ◌≤◌, ◌^◌, List, ◌∷◌, ◌++◌, length, Option, Result, Ok, Err, refl, sym, ap, ◌∙◌, subst, arith, append_assoc, length-append}
use Rattle.std.specs.Result.{IsErr}
use Rattle.std.proofs.lemmas.List.{take_all}
use Rattle.test_runner_core_streams.specs.declared.traits.TheConstants.{READ_LIMIT}
use Rattle.test_runner_core_log_reader.specs.Items.{items}
use Rattle.test_runner_core_log_reader.specs.Cursor.{Cursor, IsNear, Unmoved, bytes_received, items_ahead}
use Rattle.test_runner_core_log_reader.specs.Feeds.{IsPlain}
use Rattle.test_runner_core_log_reader.specs.Calls.{idle_reads, Hands, HandsAhead, HandsBytes, KeepsAhead, Scanned, TakesLine, WaitsMore}
use Rattle.test_runner_core_log_reader.specs.declared.limits.TheConstants.{LOG_LIMIT}
use Rattle.test_runner_core_log_reader.specs.declared.fault.LineFault.{LineFault}
use Rattle.test_runner_core_log_reader.specs.declared.fault.LogFault.{LogFault}
use Rattle.test_runner_core_log_reader.specs.declared.next.Next.{Next}
use Rattle.test_runner_core_log_reader.specs.declared.next.Next.TheVariants as found
use Rattle.test_runner_core_log_reader.specs.declared.next.Scan.TheVariants as scanned
use Rattle.test_runner_core_log_reader.proofs.Filling.{on_err}
use Rattle.test_runner_core_log_reader.proofs.Left.{gives_some}
use Rattle.test_runner_core_log_reader.proofs.Ranges.{length-range}
use Rattle.test_runner_core_log_reader.proofs.Reading.{ahead_refl, ahead_unmoved, ahead_then, hands_line, hands_end, end_is_idle}
use Rattle.test_runner_core_log_reader.proofs.Telling.{tells_unmoved, never_waits}
use Rattle.test_runner_core_log_reader.proofs.Near.{few_behind, near_few, near_unmoved}
use Rattle.test_runner_core_log_reader.proofs.log_lines.LogLines.next.Goals as goal

-- how many bytes were read, after a look at those that wait
received_unmoved : (old new : Cursor) → Unmoved old new → bytes_received new ≡ bytes_received old
received_unmoved old new same = omega (arith, same.handed, ap length same.waiting)

received_line : (old new : Cursor) → Scanned scanned.Line old new → bytes_received new ≡ bytes_received old
received_line old new line = omega (arith, line.3, ap length line.0, length-append new.line (10 ∷ new.waiting))

-- each call brought a byte, up to those that brought none
reads_idle : (calls first before here new idle : ℕ) → calls + before ≤ first + here → new ≡ here → idle ≡ 0 → calls + before ≤ first + new + idle
reads_idle calls first before here new idle grown same none = omega arith

limit_idle : (here new idle most : ℕ) → here ≤ most → new ≡ here → idle ≡ 0 → new + idle ≤ most
limit_idle here new idle most less same none = omega arith

reads_more : (calls mid first before here new idle : ℕ) → mid + before ≤ first + here → calls ≤ mid + 1 → new ≡ here → idle ≡ 1 → calls + before ≤ first + new + idle
reads_more calls mid first before here new idle grown called same one = omega arith

limit_more : (here new idle most : ℕ) → here ≤ most → new ≡ here → idle ≡ 1 → new + idle ≤ most + 1
limit_more here new idle most less same one = omega arith

at_most_same : (here new most : ℕ) → here ≤ most → new ≡ here → new ≤ most
at_most_same here new most less same = omega arith

calls_below : (calls before first here : ℕ) → calls + before ≤ first + here → here ≤ LOG_LIMIT + 1 → first + 2 ^ 31 ≤ 2 ^ 63 → calls < 2 ^ 63
calls_below calls before first here grown limit fit = omega arith

-- the line that was found is the first of the bytes that were ahead
takes_line : (old mid new : Cursor) (left rest : Option (List ℕ)) → KeepsAhead old left mid rest → Scanned scanned.Line mid new → TakesLine old left new rest
takes_line old mid new left rest ahead line = (
  λ behind gives.
      let was = ahead behind gives in
      (was.0, was.1, sym was.2 ∙ ap (λ (ys : List ℕ). ys ++ behind) line.0 ∙ append_assoc new.line (10 ∷ new.waiting) behind),
  line.1,
)

items_same : (old new : Cursor) (left rest : List ℕ) → new.waiting ++ rest ≡ old.waiting ++ left → new.handed ≡ old.handed → items_ahead new rest ≡ items_ahead old left
items_same old new left rest ahead handed = ap (λ (n : ℕ). items n (new.waiting ++ rest)) handed ∙ ap (items old.handed) ahead

hands_refused : (old mid new : Cursor) (left rest : Option (List ℕ)) (fault : LineFault) → KeepsAhead old left mid rest → mid.handed ≡ old.handed
    → Scanned (scanned.Refused fault) mid new → Hands old left new rest (Ok (found.Refused fault))
hands_refused old mid new left rest fault ahead handed told =
    let some = gives_some rest in
    let was = ahead some.0 some.1 in
    let same = items_same old mid was.0 some.0 was.2 handed in
    let moved = items_same mid new some.0 some.0 (ap (λ (ys : List ℕ). ys ++ some.0) told.0.waiting) told.0.handed in
    (some.0, some.1, (was.0, was.1, (sym same ∙ told.1 some.0, moved ∙ same)))

-- a call that fails hands out nothing
hands_err : (old new : Cursor) (left rest : Option (List ℕ)) (result : Result Next LogFault) → IsErr result → KeepsAhead old left new rest → new.handed ≡ old.handed
    → Hands old left new rest result
hands_err old new left rest (Ok value) is ahead handed = cc
hands_err old new left rest (Err fault) is ahead handed = λ behind gives. let was = ahead behind gives in (was.0, was.1, items_same old new was.0 behind was.2 handed)

ahead_err : (old new : Cursor) (left rest : Option (List ℕ)) (result : Result Next LogFault) → IsErr result → KeepsAhead old left new rest → HandsAhead old left new rest result
ahead_err old new left rest (Ok value) is ahead = cc
ahead_err old new left rest (Err fault) is ahead = ahead

handed_err : (old new : Cursor) (result : Result Next LogFault) → IsErr result → new.handed ≡ old.handed → HandsBytes result old new
handed_err old new (Ok value) is handed = cc
handed_err old new (Err fault) is handed = handed

idle_err : (result : Result Next LogFault) → IsErr result → idle_reads result ≡ 1
idle_err (Ok value) is = cc
idle_err (Err fault) is = refl

-- no byte came
waits_same : (old new : Cursor) → WaitsMore old new 0 → new.waiting ≡ old.waiting
waits_same old new more = let size = more.size in sym (take_all (length old.waiting) new.waiting (omega arith)) ∙ more.front

received_same : (first old new : Cursor) → Unmoved first old → WaitsMore old new 0 → new.handed ≡ old.handed → bytes_received new ≡ bytes_received first
received_same first old new same more handed = omega (arith, same.handed, ap length same.waiting, more.size, handed)

pub fill-requires-clause-more : goal.fill-requires-clause-more
fill-requires-clause-more g c =
    let waits = c.in-Waits.ensures in
    at_most_same (bytes_received c.loop-fault.self) (bytes_received c.scan.new.self) LOG_LIMIT waits.2 (received_unmoved c.loop-fault.self c.scan.new.self waits.0)

pub fill-requires-clause-calls_fit : goal.fill-requires-clause-calls_fit
fill-requires-clause-calls_fit g c =
    let calls = g.R.LogReader.calls in
    calls_below (calls c.loop-fault.reader) (bytes_received c.args.self.now) (calls c.args.reader.now) (bytes_received c.loop-fault.self)
    c.loop-fault.invariant.grown c.loop-fault.invariant.limit c.requires.calls_fit

pub fill-requires-clause-failures_fit : goal.fill-requires-clause-failures_fit
fill-requires-clause-failures_fit g c = subst (λ (n : ℕ). n < 2 ^ 63) (sym c.loop-fault.invariant.unfailed) c.requires.failures_fit

pub returns-in-Line-clause-bytes : goal.returns-in-Line-clause-bytes
returns-in-Line-clause-bytes g c =
    takes_line c.args.self.now c.loop-fault.self c.scan.new.self (g.R.LogReader.left c.args.reader.now) (g.R.LogReader.left c.loop-fault.reader)
    c.loop-fault.invariant.ahead c.in-Line.ensures

pub returns-in-Line-clause-handed : goal.returns-in-Line-clause-handed
returns-in-Line-clause-handed g c =
    c.in-Line.ensures.3 ∙ ap (λ (n : ℕ). n + length c.scan.new.self.line + 1) c.loop-fault.invariant.handed

pub returns-in-Line-clause-reads : goal.returns-in-Line-clause-reads
returns-in-Line-clause-reads g c =
    let calls = g.R.LogReader.calls in
    reads_idle (calls c.loop-fault.reader) (calls c.args.reader.now) (bytes_received c.args.self.now) (bytes_received c.loop-fault.self) (bytes_received c.scan.new.self) 0
    c.loop-fault.invariant.grown (received_line c.loop-fault.self c.scan.new.self c.in-Line.ensures) refl

pub returns-in-Line-clause-limit : goal.returns-in-Line-clause-limit
returns-in-Line-clause-limit g c =
    limit_idle (bytes_received c.loop-fault.self) (bytes_received c.scan.new.self) 0 (LOG_LIMIT + 1)
    c.loop-fault.invariant.limit (received_line c.loop-fault.self c.scan.new.self c.in-Line.ensures) refl

pub returns-in-Line-clause-failures : goal.returns-in-Line-clause-failures
returns-in-Line-clause-failures g c = c.loop-fault.invariant.unfailed

pub returns-in-Refused-clause-items : goal.returns-in-Refused-clause-items
returns-in-Refused-clause-items g c =
    hands_refused c.args.self.now c.loop-fault.self c.scan.new.self (g.R.LogReader.left c.args.reader.now) (g.R.LogReader.left c.loop-fault.reader) c.in-Refused.fault
    c.loop-fault.invariant.ahead c.loop-fault.invariant.handed c.in-Refused.ensures

pub returns-in-Refused-clause-bytes : goal.returns-in-Refused-clause-bytes
returns-in-Refused-clause-bytes g c =
    ahead_unmoved c.args.self.now c.loop-fault.self c.scan.new.self (g.R.LogReader.left c.args.reader.now) (g.R.LogReader.left c.loop-fault.reader)
    c.loop-fault.invariant.ahead c.in-Refused.ensures.0.waiting

pub returns-in-Refused-clause-handed : goal.returns-in-Refused-clause-handed
returns-in-Refused-clause-handed g c = c.in-Refused.ensures.0.handed ∙ c.loop-fault.invariant.handed

pub returns-in-Refused-clause-reads : goal.returns-in-Refused-clause-reads
returns-in-Refused-clause-reads g c =
    let calls = g.R.LogReader.calls in
    reads_idle (calls c.loop-fault.reader) (calls c.args.reader.now) (bytes_received c.args.self.now) (bytes_received c.loop-fault.self) (bytes_received c.scan.new.self)
    (idle_reads (Ok (found.Refused c.in-Refused.fault)))
    c.loop-fault.invariant.grown (received_unmoved c.loop-fault.self c.scan.new.self c.in-Refused.ensures.0) c.in-Refused.ensures.2

pub returns-in-Refused-clause-limit : goal.returns-in-Refused-clause-limit
returns-in-Refused-clause-limit g c =
    limit_idle (bytes_received c.loop-fault.self) (bytes_received c.scan.new.self) (idle_reads (Ok (found.Refused c.in-Refused.fault))) (LOG_LIMIT + 1)
    c.loop-fault.invariant.limit (received_unmoved c.loop-fault.self c.scan.new.self c.in-Refused.ensures.0) c.in-Refused.ensures.2

pub returns-in-Refused-clause-failures : goal.returns-in-Refused-clause-failures
returns-in-Refused-clause-failures g c = c.loop-fault.invariant.unfailed

pub returns-in_err-count-clause-items : goal.returns-in_err-count-clause-items
returns-in_err-count-clause-items g c =
    let left = g.R.LogReader.left in
    let waits = c.in-Waits.ensures in
    let before = ahead_unmoved c.args.self.now c.loop-fault.self c.scan.new.self (left c.args.reader.now) (left c.loop-fault.reader) c.loop-fault.invariant.ahead waits.0.waiting in
    let ahead = ahead_then c.args.self.now c.scan.new.self c.fill.new.self (left c.args.reader.now) (left c.loop-fault.reader) (left c.fill.new.reader) before c.in_err-count.ensures.ahead in
    hands_err c.args.self.now c.fill.new.self (left c.args.reader.now) (left c.fill.new.reader) c.from_residual.result c.from_residual.ensures.0 ahead
    (c.in_err-count.ensures.handed ∙ waits.0.handed ∙ c.loop-fault.invariant.handed)

pub returns-in_err-count-clause-bytes : goal.returns-in_err-count-clause-bytes
returns-in_err-count-clause-bytes g c =
    let left = g.R.LogReader.left in
    let waits = c.in-Waits.ensures in
    let before = ahead_unmoved c.args.self.now c.loop-fault.self c.scan.new.self (left c.args.reader.now) (left c.loop-fault.reader) c.loop-fault.invariant.ahead waits.0.waiting in
    let ahead = ahead_then c.args.self.now c.scan.new.self c.fill.new.self (left c.args.reader.now) (left c.loop-fault.reader) (left c.fill.new.reader) before c.in_err-count.ensures.ahead in
    ahead_err c.args.self.now c.fill.new.self (left c.args.reader.now) (left c.fill.new.reader) c.from_residual.result c.from_residual.ensures.0 ahead

pub returns-in_err-count-clause-handed : goal.returns-in_err-count-clause-handed
returns-in_err-count-clause-handed g c =
    handed_err c.args.self.now c.fill.new.self c.from_residual.result c.from_residual.ensures.0
    (c.in_err-count.ensures.handed ∙ c.in-Waits.ensures.0.handed ∙ c.loop-fault.invariant.handed)

pub returns-in_err-count-clause-reads : goal.returns-in_err-count-clause-reads
returns-in_err-count-clause-reads g c =
    let calls = g.R.LogReader.calls in
    let same = received_same c.loop-fault.self c.scan.new.self c.fill.new.self c.in-Waits.ensures.0 c.in_err-count.ensures.err c.in_err-count.ensures.handed in
    reads_more (calls c.fill.new.reader) (calls c.loop-fault.reader) (calls c.args.reader.now) (bytes_received c.args.self.now) (bytes_received c.loop-fault.self) (bytes_received c.fill.new.self)
    (idle_reads c.from_residual.result)
    c.loop-fault.invariant.grown c.in_err-count.ensures.called same (idle_err c.from_residual.result c.from_residual.ensures.0)

pub returns-in_err-count-clause-limit : goal.returns-in_err-count-clause-limit
returns-in_err-count-clause-limit g c =
    let same = received_same c.loop-fault.self c.scan.new.self c.fill.new.self c.in-Waits.ensures.0 c.in_err-count.ensures.err c.in_err-count.ensures.handed in
    limit_more (bytes_received c.loop-fault.self) (bytes_received c.fill.new.self) (idle_reads c.from_residual.result) LOG_LIMIT
    c.in-Waits.ensures.2 same (idle_err c.from_residual.result c.from_residual.ensures.0)

pub returns-in_err-count-clause-cut : goal.returns-in_err-count-clause-cut
returns-in_err-count-clause-cut g c =
    let waits = c.in-Waits.ensures in
    let same = waits_same c.scan.new.self c.fill.new.self c.in_err-count.ensures.err ∙ waits.0.waiting in
    on_err c.from_residual.result _ (subst IsPlain (sym same) waits.1)

pub loop-fault-init : goal.loop-fault-init
loop-fault-init g c =
    let x = c.self.inside in
    let within : bytes_received c.args.self.now ≤ LOG_LIMIT + 1 =
    subst (λ (v : Cursor). bytes_received v ≤ LOG_LIMIT + 1) c.self.view_is (omega (arith, c.self.invariant.received, length-range x.buffer.items x.start x.end (omega (arith, x.buffer.ok.0, c.self.invariant.filled)))) in
    let left = g.R.LogReader.left c.args.reader.now in
    let same = c.give_back.ensures in
    let size : bytes_received c.give_back.new.self ≡ bytes_received c.args.self.now = omega (arith, ap length same.waiting, same.handed) in
    record {
      ahead = ahead_unmoved c.args.self.now c.args.self.now c.give_back.new.self left left (ahead_refl c.args.self.now left) same.waiting;
      handed = same.handed;
      near = near_unmoved c.args.self.now c.give_back.new.self same (subst IsNear c.self.view_is c.self.invariant.near);
      grown = omega (arith, size);
      limit = omega (arith, size, within);
      unfailed = refl;
      unread = λ told. (refl, tells_unmoved c.args.self.now c.give_back.new.self same ∙ told);
      still = λ told. refl;
    }

pub loop-fault-preserved : goal.loop-fault-preserved
loop-fault-preserved g c =
    let left = g.R.LogReader.left in
    let waits = c.in-Waits.ensures in
    let before = c.loop-fault.invariant in
    let more = c.in_ok-count.ensures.ok in
    let size = more.size in
    let some = c.if-count-eq0.false in
    let called = c.in_ok-count.ensures.called in
    let grown = before.grown in
    let here = ahead_unmoved c.args.self.now c.loop-fault.self c.scan.new.self (left c.args.reader.now) (left c.loop-fault.reader) before.ahead waits.0.waiting in
    let handed : c.fill.new.self.handed ≡ c.loop-fault.self.handed = c.in_ok-count.ensures.handed ∙ waits.0.handed in
    let waiting = ap length waits.0.waiting in
    record {
      ahead = ahead_then c.args.self.now c.scan.new.self c.fill.new.self (left c.args.reader.now) (left c.loop-fault.reader) (left c.fill.new.reader) here c.in_ok-count.ensures.ahead;
      handed = handed ∙ before.handed;
      near = c.in_ok-count.ensures.near;
      grown = omega (arith, waiting);
      limit = c.in_ok-count.ensures.limit;
      unfailed = c.in_ok-count.ensures.failures ∙ before.unfailed;
      unread = λ told. absurd (never_waits c.loop-fault.self c.scan.new.self waits (before.unread told).1);
      still = λ told. absurd (never_waits c.loop-fault.self c.scan.new.self waits (before.unread told).1);
    }

pub returns-in-Line-clause-unread : goal.returns-in-Line-clause-unread
returns-in-Line-clause-unread g c told = (c.loop-fault.invariant.unread told).0

pub returns-in-Refused-clause-unread : goal.returns-in-Refused-clause-unread
returns-in-Refused-clause-unread g c told = (c.loop-fault.invariant.unread told).0

pub returns-in_err-count-clause-unread : goal.returns-in_err-count-clause-unread
returns-in_err-count-clause-unread g c told = absurd (never_waits c.loop-fault.self c.scan.new.self c.in-Waits.ensures (c.loop-fault.invariant.unread told).1)

pub returns-then-count-eq0-clause-unread : goal.returns-then-count-eq0-clause-unread
returns-then-count-eq0-clause-unread g c told = absurd (never_waits c.loop-fault.self c.scan.new.self c.in-Waits.ensures (c.loop-fault.invariant.unread told).1)

pub returns-in-Line-clause-still : goal.returns-in-Line-clause-still
returns-in-Line-clause-still g c told = c.loop-fault.invariant.still told

pub returns-in-Refused-clause-still : goal.returns-in-Refused-clause-still
returns-in-Refused-clause-still g c told = c.loop-fault.invariant.still told

pub returns-in_err-count-clause-still : goal.returns-in_err-count-clause-still
returns-in_err-count-clause-still g c told = absurd (never_waits c.loop-fault.self c.scan.new.self c.in-Waits.ensures (c.loop-fault.invariant.unread told).1)

pub returns-then-count-eq0-clause-still : goal.returns-then-count-eq0-clause-still
returns-then-count-eq0-clause-still g c told = absurd (never_waits c.loop-fault.self c.scan.new.self c.in-Waits.ensures (c.loop-fault.invariant.unread told).1)

pub returns-in-Line-clause-items : goal.returns-in-Line-clause-items
returns-in-Line-clause-items g c =
    hands_line c.args.self.now c.loop-fault.self c.scan.new.self (g.R.LogReader.left c.args.reader.now) (g.R.LogReader.left c.loop-fault.reader)
    c.loop-fault.invariant.ahead c.loop-fault.invariant.handed c.in-Line.ensures

pub returns-then-count-eq0-clause-items : goal.returns-then-count-eq0-clause-items
returns-then-count-eq0-clause-items g c =
    let left = g.R.LogReader.left in
    let waits = c.in-Waits.ensures in
    let none : c.in_ok-count.count ≡ 0 = c.if-count-eq0.true in
    let more : WaitsMore c.scan.new.self c.fill.new.self 0 = subst (WaitsMore c.scan.new.self c.fill.new.self) none c.in_ok-count.ensures.ok in
    let before = ahead_unmoved c.args.self.now c.loop-fault.self c.scan.new.self (left c.args.reader.now) (left c.loop-fault.reader) c.loop-fault.invariant.ahead waits.0.waiting in
    let ahead = ahead_then c.args.self.now c.scan.new.self c.fill.new.self (left c.args.reader.now) (left c.loop-fault.reader) (left c.fill.new.reader) before c.in_ok-count.ensures.ahead in
    let handed : c.fill.new.self.handed ≡ c.args.self.now.handed = c.in_ok-count.ensures.handed ∙ waits.0.handed ∙ c.loop-fault.invariant.handed in
    subst (λ (r : Next). Hands c.args.self.now (left c.args.reader.now) c.fill.new.self (left c.fill.new.reader) (Ok r)) (sym c.at_end.ensures)
    (hands_end c.args.self.now c.scan.new.self c.fill.new.self (left c.args.reader.now) (left c.fill.new.reader) ahead handed (subst IsPlain (sym waits.0.waiting) waits.1) more
    (c.in_ok-count.ensures.end none))

pub returns-then-count-eq0-clause-reads : goal.returns-then-count-eq0-clause-reads
returns-then-count-eq0-clause-reads g c =
    let waits = c.in-Waits.ensures in
    let none : c.in_ok-count.count ≡ 0 = c.if-count-eq0.true in
    let more : WaitsMore c.scan.new.self c.fill.new.self 0 = subst (WaitsMore c.scan.new.self c.fill.new.self) none c.in_ok-count.ensures.ok in
    let size : length c.fill.new.self.waiting ≡ length c.loop-fault.self.waiting = omega (arith, more.size, ap length waits.0.waiting) in
    let handed : c.fill.new.self.handed ≡ c.loop-fault.self.handed = c.in_ok-count.ensures.handed ∙ waits.0.handed in
    let idle : idle_reads (Ok c.at_end.result) ≡ 1 =
    ap (λ (r : Next). idle_reads (Ok r)) c.at_end.ensures
    ∙ end_is_idle c.fill.new.self.handed (length c.fill.new.self.waiting) (omega (arith, waits.2, size, handed)) (omega (arith, waits.3, size)) in
    omega (arith, idle, size, handed, c.in_ok-count.ensures.called, c.loop-fault.invariant.grown)

-- few bytes wait behind a line that is taken off
few_left : (old new : Cursor) → IsNear old → Scanned scanned.Line old new → length new.waiting < READ_LIMIT
few_left old new near line = few_behind old.waiting new.line new.waiting line.0 line.1 near

pub returns-in-Line-clause-near : goal.returns-in-Line-clause-near
returns-in-Line-clause-near g c =
    near_few c.scan.new.self.waiting (few_left c.loop-fault.self c.scan.new.self c.loop-fault.invariant.near c.in-Line.ensures)

pub returns-in-Line-clause-few : goal.returns-in-Line-clause-few
returns-in-Line-clause-few g c is = few_left c.loop-fault.self c.scan.new.self c.loop-fault.invariant.near c.in-Line.ensures

pub returns-in-Refused-clause-near : goal.returns-in-Refused-clause-near
returns-in-Refused-clause-near g c = near_unmoved c.loop-fault.self c.scan.new.self c.in-Refused.ensures.0 c.loop-fault.invariant.near
