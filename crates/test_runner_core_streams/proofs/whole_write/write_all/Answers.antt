use Rattle.std.proofs.Common.{ℕ, List, length, take, subst, ap, arith, ◌∙◌, length-drop}
use Rattle.std.specs.Io.KnownBytes.{Appends}
use Rattle.test_runner_core_streams.proofs.WholeWrite.{taken_next, rest_is, not_failed}
use Rattle.test_runner_core_streams.proofs.whole_write.write_all.Goals as goal

pub loop-at-preserved : goal.loop-at-preserved
loop-at-preserved g c =
    let taken = g.W.ReportWriter.taken in
    let failures = g.W.ReportWriter.failures in
    let before = c.loop-at.invariant in
    let rest = rest_is c.args.bytes.now c.loop-at.at in
    let call = c.in_ok-count.ensures in
    let count = c.in_ok-count.count in
    let some = c.if-count-eq0.false in
    record {
      taken =
          taken_next (taken c.args.writer.now) (taken c.loop-at.writer) (taken c.write.new.self) c.args.bytes.now c.loop-at.at count before.taken
          (subst (λ (xs : List ℕ). Appends (taken c.loop-at.writer) (taken c.write.new.self) (take count xs)) rest call.bytes);
      within = omega (arith, call.bound, ap length rest, length-drop c.loop-at.at c.args.bytes.now, before.within);
      unfailed = not_failed count _ _ _ some call.failed ∙ before.unfailed;
    }
