use Rattle.std.proofs.Common.{◌≡◌, ◌+◌, ◌-◌, ◌≤◌, ◌||◌, ℕ, length, ltb, sym, ap, ◌∙◌, arith}
use Rattle.test_runner_core_log_reader.specs.declared.limits.TheConstants.{LINE_LIMIT, LOG_LIMIT}
use Rattle.test_runner_core_log_reader.specs.Cursor.{Cursor}
use Rattle.test_runner_core_log_reader.proofs.Ranges.{length-range}
use Rattle.test_runner_core_log_reader.proofs.Telling.{tells_feed, tells_limit}
use Rattle.test_runner_core_log_reader.proofs.log_lines.LogLines.is_waiting.Goals as goal

pub returns-then-is_some-clause-exact : goal.returns-then-is_some-clause-exact
returns-then-is_some-clause-exact c = sym (tells_feed c.args.self.now c.find_feed.result c.find_feed.ensures.feed (sym c.is_some.ensures ∙ c.if-is_some.true))

pub returns-clause-exact : goal.returns-clause-exact
returns-clause-exact c =
    let x = c.self.inside in
    let old = c.args.self.now in
    let same = c.find_feed.ensures.unmoved in
    let filled : x.end ≤ length x.buffer.items = omega (arith, x.buffer.ok.0, c.self.invariant.filled) in
    let size : x.end - x.start ≡ length old.waiting =
    sym (length-range x.buffer.items x.start x.end filled) ∙ ap (λ (v : Cursor). length v.waiting) c.self.view_is ∙ ap length same.waiting in
    let handed : x.handed ≡ old.handed = ap (λ (v : Cursor). v.handed) c.self.view_is ∙ same.handed in
    c.is_over_limit.ensures
    ∙ ap (λ (n : ℕ). ltb LINE_LIMIT n || ltb LOG_LIMIT (x.handed + n)) size
    ∙ ap (λ (n : ℕ). ltb LINE_LIMIT (length old.waiting) || ltb LOG_LIMIT (n + length old.waiting)) handed
    ∙ sym (tells_limit old c.find_feed.result c.find_feed.ensures.feed (sym c.is_some.ensures ∙ c.if-is_some.false))
