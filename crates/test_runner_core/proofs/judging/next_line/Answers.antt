use Rattle.std.proofs.Common.{Ok, refl, string_bytes}
use Rattle.test_runner_core.proofs.NextLine.{looks_failed, looks_found, looks_unwritten, next_fails, next_found, unread_where_unwritten}
use Rattle.test_runner_core.proofs.judging.next_line.Goals as goal

pub returns-in_err-next-clause-items : goal.returns-in_err-next-clause-items
returns-in_err-next-clause-items g c =
    let left = g.R.LogReader.left in
    let taken = g.W.ReportWriter.taken in
    let failed = c.in_err-next.ensures in
    next_fails c.from_residual-in_err-next.result c.in_err-next.field-0.0 c.args.lines.now c.write_before_read.new.lines c.next.new.self (left c.args.log.now) (left c.next.new.reader)
    (taken c.args.report.now) (string_bytes c.args.text.now) (taken c.write_before_read.new.report) (string_bytes c.write_before_read.new.text)
    c.from_residual-in_err-next.ensures.1 c.in_ok-write_before_read.ensures.unmoved c.in_ok-write_before_read.ensures.writes c.in_ok-write_before_read.ensures.ready failed.unread failed.bytes failed.cut

pub returns-clause-items : goal.returns-clause-items
returns-clause-items g c =
    let left = g.R.LogReader.left in
    let taken = g.W.ReportWriter.taken in
    let found = c.in_ok-next.ensures in
    let told = c.in_ok-write_before_read.ensures in
    next_found c.in_ok-next.field-0 c.args.lines.now c.write_before_read.new.lines c.next.new.self (left c.args.log.now) (left c.next.new.reader) (taken c.args.report.now) (taken c.write_before_read.new.report)
    (string_bytes c.args.text.now) (string_bytes c.write_before_read.new.text) told.unmoved told.writes found.items found.bytes found.handed

pub returns-in_err-write_before_read-clause-reads : goal.returns-in_err-write_before_read-clause-reads
returns-in_err-write_before_read-clause-reads g c =
    unread_where_unwritten c.from_residual.result c.in_err-write_before_read.field-0.0 c.args.lines.now c.write_before_read.new.lines (g.R.LogReader.calls c.args.log.now) c.from_residual.ensures.1

pub returns-in_err-write_before_read-clause-near : goal.returns-in_err-write_before_read-clause-near
returns-in_err-write_before_read-clause-near g c =
    looks_unwritten c.from_residual.result c.in_err-write_before_read.field-0.0 c.args.lines.now c.write_before_read.new.lines (g.R.LogReader.left c.args.log.now) (g.W.ReportWriter.taken c.args.report.now)
    (g.W.ReportWriter.taken c.write_before_read.new.report) (string_bytes c.args.text.now) (string_bytes c.write_before_read.new.text) c.from_residual.ensures.1

pub returns-in_err-next-clause-near : goal.returns-in_err-next-clause-near
returns-in_err-next-clause-near g c =
    let left = g.R.LogReader.left in
    let taken = g.W.ReportWriter.taken in
    let failed = c.in_err-next.ensures in
    looks_failed c.from_residual-in_err-next.result c.in_err-next.field-0.0 c.args.lines.now c.write_before_read.new.lines c.next.new.self (left c.args.log.now) (left c.next.new.reader)
    (taken c.args.report.now) (string_bytes c.args.text.now) (taken c.write_before_read.new.report) (string_bytes c.write_before_read.new.text)
    c.from_residual-in_err-next.ensures.1 c.in_ok-write_before_read.ensures.unmoved c.in_ok-write_before_read.ensures.writes c.in_ok-write_before_read.ensures.ready failed.unread failed.bytes failed.cut

pub returns-clause-near : goal.returns-clause-near
returns-clause-near g c =
    let left = g.R.LogReader.left in
    let taken = g.W.ReportWriter.taken in
    let found = c.in_ok-next.ensures in
    looks_found (Ok c.in_ok-next.field-0) c.in_ok-next.field-0 c.args.lines.now c.write_before_read.new.lines c.next.new.self (left c.args.log.now) (left c.next.new.reader)
    (taken c.args.report.now) (taken c.write_before_read.new.report) (string_bytes c.args.text.now) (string_bytes c.write_before_read.new.text) refl
    c.in_ok-write_before_read.ensures.ready found.still found.near found.few
