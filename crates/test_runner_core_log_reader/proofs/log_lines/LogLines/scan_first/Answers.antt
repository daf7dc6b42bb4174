use Rattle.std.proofs.Common.{◌≡◌, ◌-◌, ◌≤◌, length, sym, ap, ◌∙◌, arith}
use Rattle.test_runner_core_log_reader.specs.Cursor.{Cursor}
use Rattle.test_runner_core_log_reader.proofs.FirstLine.{first_too_long}
use Rattle.test_runner_core_log_reader.proofs.Ranges.{length-range}
use Rattle.test_runner_core_log_reader.proofs.log_lines.LogLines.scan_first.Goals as goal

pub returns-then-unwrap_or-gt-FIRST_LINE_LIMIT : goal.returns-then-unwrap_or-gt-FIRST_LINE_LIMIT
returns-then-unwrap_or-gt-FIRST_LINE_LIMIT c rest =
    let x = c.self.inside in
    let filled : x.end ≤ length x.buffer.items = omega (arith, x.buffer.ok.0, c.self.invariant.filled) in
    let size : x.end - x.start ≡ length c.args.self.now.waiting =
    sym (length-range x.buffer.items x.start x.end filled) ∙ ap length (ap (λ (v : Cursor). v.waiting) c.self.view_is) ∙ ap length c.find_feed-found.ensures.unmoved.waiting in
    first_too_long c.args.self.now.waiting rest c.find_feed-found.result (x.end - x.start) c.find_feed-found.ensures.feed size (omega (arith, c.unwrap_or.ensures, c.if-unwrap_or-gt-FIRST_LINE_LIMIT.true))
