use Rattle.std.proofs.Common.{◌≡◌, ℕ, ◌+◌, ◌<◌, ◌≤◌, ◌^◌, length, subst, sym, ap, ◌∙◌, arith}
use Rattle.std.proofs.lemmas.Result.{IfOk-from_err}
use Rattle.test_runner_core_log_reader.specs.declared.limits.TheConstants.{FIRST_LINE_LIMIT, LOG_LIMIT}
use Rattle.test_runner_core_log_reader.specs.Limits.{first_line_reads}
use Rattle.test_runner_core_log_reader.specs.Cursor.{Cursor, Unmoved, bytes_received}
use Rattle.test_runner_core_log_reader.specs.Calls.{WaitsMore}
use Rattle.test_runner_core_log_reader.specs.Feeds.{IsPlain}
use Rattle.test_runner_core_log_reader.proofs.Filling.{on_err}
use Rattle.test_runner_core_log_reader.proofs.Reading.{ahead_unmoved, ahead_then}
use Rattle.test_runner_core_log_reader.proofs.FirstLine.{beginning, gets_plain, parts_at_feed, parts_at_end, parts_too_long}
use Rattle.test_runner_core_log_reader.proofs.FirstReads.{asked_once_more, gets_near, reads_first}
use Rattle.test_runner_core_log_reader.proofs.Near.{few_behind}
use Rattle.test_runner_core_log_reader.proofs.log_lines.LogLines.behind_first_line.Goals as goal

first_received : (old new : Cursor) → old.handed ≡ 0 → Unmoved old new → length old.waiting ≤ FIRST_LINE_LIMIT → bytes_received new ≤ LOG_LIMIT
first_received old new none same short = omega (arith, same.handed, ap length same.waiting)

calls_below : (calls first : ℕ) → calls ≤ first + FIRST_LINE_LIMIT + 1 → first + 2 ^ 31 ≤ 2 ^ 63 → calls < 2 ^ 63
calls_below calls first bounded fit = omega arith

reads_bounded : (calls first : ℕ) → calls ≤ first + FIRST_LINE_LIMIT + 1 → calls ≤ first + first_line_reads
reads_bounded calls first bounded = omega arith

-- one call more, where the bytes before it were few
reads_more : (calls mid first size : ℕ) → mid ≤ first + size → size ≤ FIRST_LINE_LIMIT → calls ≤ mid + 1 → calls ≤ first + FIRST_LINE_LIMIT + 1
reads_more calls mid first size grown short called = omega arith

pub fill-requires-clause-more : goal.fill-requires-clause-more
fill-requires-clause-more g c =
    let waits = c.in-Waits.ensures in
    first_received c.loop-lines.lines c.scan_first.new.self c.loop-lines.invariant.handed waits.0 waits.2

pub fill-requires-clause-calls_fit : goal.fill-requires-clause-calls_fit
fill-requires-clause-calls_fit g c =
    calls_below (g.R.LogReader.calls c.loop-lines.reader) (g.R.LogReader.calls c.args.reader.now) c.loop-lines.invariant.bounded c.requires.calls_fit

pub fill-requires-clause-failures_fit : goal.fill-requires-clause-failures_fit
fill-requires-clause-failures_fit g c = subst (λ (n : ℕ). n < 2 ^ 63) (sym c.loop-lines.invariant.unfailed) c.requires.failures_fit

pub returns-in-Line-clause-fresh : goal.returns-in-Line-clause-fresh
returns-in-Line-clause-fresh g c = c.in-Line.ensures.0.handed ∙ c.loop-lines.invariant.handed

pub returns-in-Line-clause-reads : goal.returns-in-Line-clause-reads
returns-in-Line-clause-reads g c =
    reads_bounded (g.R.LogReader.calls c.loop-lines.reader) (g.R.LogReader.calls c.args.reader.now) c.loop-lines.invariant.bounded

pub returns-in-Line-clause-failures : goal.returns-in-Line-clause-failures
returns-in-Line-clause-failures g c = c.loop-lines.invariant.unfailed

pub returns-in-Refused-clause-reads : goal.returns-in-Refused-clause-reads
returns-in-Refused-clause-reads g c =
    reads_bounded (g.R.LogReader.calls c.loop-lines.reader) (g.R.LogReader.calls c.args.reader.now) c.loop-lines.invariant.bounded

pub returns-in-Refused-clause-failures : goal.returns-in-Refused-clause-failures
returns-in-Refused-clause-failures g c = c.loop-lines.invariant.unfailed

pub returns-in_err-moved-clause-lines : goal.returns-in_err-moved-clause-lines
returns-in_err-moved-clause-lines g c = IfOk-from_err c.from_residual.result _ c.from_residual.ensures.0

pub returns-in_err-moved-clause-fresh : goal.returns-in_err-moved-clause-fresh
returns-in_err-moved-clause-fresh g c = IfOk-from_err c.from_residual.result _ c.from_residual.ensures.0

pub returns-in_err-moved-clause-reads : goal.returns-in_err-moved-clause-reads
returns-in_err-moved-clause-reads g c =
    let calls = g.R.LogReader.calls in
    reads_bounded (calls c.fill.new.reader) (calls c.args.reader.now)
    (reads_more (calls c.fill.new.reader) (calls c.loop-lines.reader) (calls c.args.reader.now) (length c.loop-lines.lines.waiting)
    c.loop-lines.invariant.grown c.in-Waits.ensures.2 c.in_err-moved.ensures.called)

pub returns-then-moved-eq0-clause-fresh : goal.returns-then-moved-eq0-clause-fresh
returns-then-moved-eq0-clause-fresh g c =
    c.cut_all.ensures.handed ∙ c.in_ok-moved.ensures.handed ∙ c.in-Waits.ensures.0.handed ∙ c.loop-lines.invariant.handed

pub returns-then-moved-eq0-clause-reads : goal.returns-then-moved-eq0-clause-reads
returns-then-moved-eq0-clause-reads g c =
    let calls = g.R.LogReader.calls in
    reads_bounded (calls c.fill.new.reader) (calls c.args.reader.now)
    (reads_more (calls c.fill.new.reader) (calls c.loop-lines.reader) (calls c.args.reader.now) (length c.loop-lines.lines.waiting)
    c.loop-lines.invariant.grown c.in-Waits.ensures.2 c.in_ok-moved.ensures.called)

pub returns-then-moved-eq0-clause-failures : goal.returns-then-moved-eq0-clause-failures
returns-then-moved-eq0-clause-failures g c = c.in_ok-moved.ensures.failures ∙ c.loop-lines.invariant.unfailed

pub loop-lines-preserved : goal.loop-lines-preserved
loop-lines-preserved g c =
    let left = g.R.LogReader.left in
    let calls = g.R.LogReader.calls in
    let waits = c.in-Waits.ensures in
    let size = c.in_ok-moved.ensures.ok.size in
    let some = c.if-moved-eq0.false in
    let called = c.in_ok-moved.ensures.called in
    let grown = c.loop-lines.invariant.grown in
    let waiting = ap length waits.0.waiting in
    let before = ahead_unmoved beginning c.loop-lines.lines c.scan_first.new.self (left c.args.reader.now) (left c.loop-lines.reader) c.loop-lines.invariant.ahead waits.0.waiting in
    record {
      ahead = ahead_then beginning c.scan_first.new.self c.fill.new.self (left c.args.reader.now) (left c.loop-lines.reader) (left c.fill.new.reader) before c.in_ok-moved.ensures.ahead;
      handed = c.in_ok-moved.ensures.handed ∙ waits.0.handed ∙ c.loop-lines.invariant.handed;
      near = c.in_ok-moved.ensures.near;
      grown = omega (arith, waiting);
      first =
          asked_once_more c.scan_first.new.self c.fill.new.self c.in_ok-moved.moved (calls c.fill.new.reader) (calls c.loop-lines.reader) (calls c.args.reader.now)
          (subst IsPlain (sym waits.0.waiting) waits.1) c.in_ok-moved.ensures.ok (omega (arith, grown, waiting)) called;
      bounded = reads_more (calls c.fill.new.reader) (calls c.loop-lines.reader) (calls c.args.reader.now) (length c.loop-lines.lines.waiting) grown waits.2 called;
      limit = c.in_ok-moved.ensures.limit;
      unfailed = c.in_ok-moved.ensures.failures ∙ c.loop-lines.invariant.unfailed;
    }

pub returns-in-Line-clause-lines : goal.returns-in-Line-clause-lines
returns-in-Line-clause-lines g c =
    parts_at_feed (g.R.LogReader.left c.args.reader.now) (g.R.LogReader.left c.loop-lines.reader) c.loop-lines.lines c.scan_first.new.self
    c.loop-lines.invariant.ahead c.in-Line.ensures.0 c.in-Line.ensures.1

pub returns-in-Refused-clause-lines : goal.returns-in-Refused-clause-lines
returns-in-Refused-clause-lines g c =
    parts_too_long (g.R.LogReader.left c.args.reader.now) (g.R.LogReader.left c.loop-lines.reader) c.loop-lines.lines c.loop-lines.invariant.ahead c.in-Refused.ensures

pub returns-in_err-moved-clause-cut : goal.returns-in_err-moved-clause-cut
returns-in_err-moved-clause-cut g c =
    let left = g.R.LogReader.left in
    let waits = c.in-Waits.ensures in
    let before = ahead_unmoved beginning c.loop-lines.lines c.scan_first.new.self (left c.args.reader.now) (left c.loop-lines.reader) c.loop-lines.invariant.ahead waits.0.waiting in
    let ahead = ahead_then beginning c.scan_first.new.self c.fill.new.self (left c.args.reader.now) (left c.loop-lines.reader) (left c.fill.new.reader) before c.in_err-moved.ensures.ahead in
    on_err c.from_residual.result _
    (gets_plain (left c.args.reader.now) (left c.fill.new.reader) c.scan_first.new.self c.fill.new.self ahead (subst IsPlain (sym waits.0.waiting) waits.1) c.in_err-moved.ensures.err)

pub returns-then-moved-eq0-clause-lines : goal.returns-then-moved-eq0-clause-lines
returns-then-moved-eq0-clause-lines g c =
    let left = g.R.LogReader.left in
    let waits = c.in-Waits.ensures in
    let none : c.in_ok-moved.moved ≡ 0 = c.if-moved-eq0.true in
    let more : WaitsMore c.scan_first.new.self c.fill.new.self 0 = subst (WaitsMore c.scan_first.new.self c.fill.new.self) none c.in_ok-moved.ensures.ok in
    let before = ahead_unmoved beginning c.loop-lines.lines c.scan_first.new.self (left c.args.reader.now) (left c.loop-lines.reader) c.loop-lines.invariant.ahead waits.0.waiting in
    let ahead = ahead_then beginning c.scan_first.new.self c.fill.new.self (left c.args.reader.now) (left c.loop-lines.reader) (left c.fill.new.reader) before c.in_ok-moved.ensures.ahead in
    parts_at_end (left c.args.reader.now) (left c.fill.new.reader) c.scan_first.new.self c.fill.new.self c.cut_all.new.self ahead
    (subst IsPlain (sym waits.0.waiting) waits.1) (omega (arith, waits.2, ap length waits.0.waiting)) more (c.in_ok-moved.ensures.end none) c.cut_all.ensures.line c.cut_all.ensures.waiting

pub returns-in-Line-clause-near : goal.returns-in-Line-clause-near
returns-in-Line-clause-near g c =
    gets_near (g.R.LogReader.left c.args.reader.now) (g.R.LogReader.left c.loop-lines.reader) c.loop-lines.lines c.loop-lines.invariant.ahead c.loop-lines.invariant.near

pub returns-in-Line-clause-few : goal.returns-in-Line-clause-few
returns-in-Line-clause-few g c =
    let cut = c.in-Line.ensures.0 in
    few_behind c.loop-lines.lines.waiting c.scan_first.new.self.line c.scan_first.new.self.waiting cut.whole cut.plain c.loop-lines.invariant.near

pub returns-in-Line-clause-reads_known : goal.returns-in-Line-clause-reads_known
returns-in-Line-clause-reads_known g c =
    reads_first (g.R.LogReader.left c.args.reader.now) (g.R.LogReader.left c.loop-lines.reader) c.loop-lines.lines (g.R.LogReader.calls c.loop-lines.reader)
    (g.R.LogReader.calls c.args.reader.now) c.loop-lines.invariant.ahead c.loop-lines.invariant.first

pub returns-in-Refused-clause-near : goal.returns-in-Refused-clause-near
returns-in-Refused-clause-near g c =
    gets_near (g.R.LogReader.left c.args.reader.now) (g.R.LogReader.left c.loop-lines.reader) c.loop-lines.lines c.loop-lines.invariant.ahead c.loop-lines.invariant.near

pub returns-in-Refused-clause-reads_known : goal.returns-in-Refused-clause-reads_known
returns-in-Refused-clause-reads_known g c =
    reads_first (g.R.LogReader.left c.args.reader.now) (g.R.LogReader.left c.loop-lines.reader) c.loop-lines.lines (g.R.LogReader.calls c.loop-lines.reader)
    (g.R.LogReader.calls c.args.reader.now) c.loop-lines.invariant.ahead c.loop-lines.invariant.first

pub returns-in_err-moved-clause-near : goal.returns-in_err-moved-clause-near
returns-in_err-moved-clause-near g c =
    let left = g.R.LogReader.left in
    let before = ahead_unmoved beginning c.loop-lines.lines c.scan_first.new.self (left c.args.reader.now) (left c.loop-lines.reader) c.loop-lines.invariant.ahead c.in-Waits.ensures.0.waiting in
    let ahead = ahead_then beginning c.scan_first.new.self c.fill.new.self (left c.args.reader.now) (left c.loop-lines.reader) (left c.fill.new.reader) before c.in_err-moved.ensures.ahead in
    gets_near (left c.args.reader.now) (left c.fill.new.reader) c.fill.new.self ahead c.in_err-moved.ensures.near

pub returns-in_err-moved-clause-reads_known : goal.returns-in_err-moved-clause-reads_known
returns-in_err-moved-clause-reads_known g c =
    let left = g.R.LogReader.left in
    let calls = g.R.LogReader.calls in
    let waits = c.in-Waits.ensures in
    let grown = c.loop-lines.invariant.grown in
    let before = ahead_unmoved beginning c.loop-lines.lines c.scan_first.new.self (left c.args.reader.now) (left c.loop-lines.reader) c.loop-lines.invariant.ahead waits.0.waiting in
    let ahead = ahead_then beginning c.scan_first.new.self c.fill.new.self (left c.args.reader.now) (left c.loop-lines.reader) (left c.fill.new.reader) before c.in_err-moved.ensures.ahead in
    reads_first (left c.args.reader.now) (left c.fill.new.reader) c.fill.new.self (calls c.fill.new.reader) (calls c.args.reader.now) ahead
    (asked_once_more c.scan_first.new.self c.fill.new.self 0 (calls c.fill.new.reader) (calls c.loop-lines.reader) (calls c.args.reader.now)
    (subst IsPlain (sym waits.0.waiting) waits.1) c.in_err-moved.ensures.err (omega (arith, grown, ap length waits.0.waiting)) c.in_err-moved.ensures.called)

pub returns-then-moved-eq0-clause-near : goal.returns-then-moved-eq0-clause-near
returns-then-moved-eq0-clause-near g c =
    let left = g.R.LogReader.left in
    let before = ahead_unmoved beginning c.loop-lines.lines c.scan_first.new.self (left c.args.reader.now) (left c.loop-lines.reader) c.loop-lines.invariant.ahead c.in-Waits.ensures.0.waiting in
    let ahead = ahead_then beginning c.scan_first.new.self c.fill.new.self (left c.args.reader.now) (left c.loop-lines.reader) (left c.fill.new.reader) before c.in_ok-moved.ensures.ahead in
    gets_near (left c.args.reader.now) (left c.fill.new.reader) c.fill.new.self ahead c.in_ok-moved.ensures.near

pub returns-then-moved-eq0-clause-reads_known : goal.returns-then-moved-eq0-clause-reads_known
returns-then-moved-eq0-clause-reads_known g c =
    let left = g.R.LogReader.left in
    let calls = g.R.LogReader.calls in
    let waits = c.in-Waits.ensures in
    let grown = c.loop-lines.invariant.grown in
    let before = ahead_unmoved beginning c.loop-lines.lines c.scan_first.new.self (left c.args.reader.now) (left c.loop-lines.reader) c.loop-lines.invariant.ahead waits.0.waiting in
    let ahead = ahead_then beginning c.scan_first.new.self c.fill.new.self (left c.args.reader.now) (left c.loop-lines.reader) (left c.fill.new.reader) before c.in_ok-moved.ensures.ahead in
    reads_first (left c.args.reader.now) (left c.fill.new.reader) c.fill.new.self (calls c.fill.new.reader) (calls c.args.reader.now) ahead
    (asked_once_more c.scan_first.new.self c.fill.new.self c.in_ok-moved.moved (calls c.fill.new.reader) (calls c.loop-lines.reader) (calls c.args.reader.now)
    (subst IsPlain (sym waits.0.waiting) waits.1) c.in_ok-moved.ensures.ok (omega (arith, grown, ap length waits.0.waiting)) c.in_ok-moved.ensures.called)
