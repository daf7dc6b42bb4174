use Rattle.std.proofs.Common.{List, ℕ, string_bytes, subst, take}
use Rattle.std.specs.Io.KnownBytes.{Appends}
use Rattle.test_runner_core_reporter.proofs.Told.{wrote_front}
use Rattle.test_runner_core_reporter.proofs.reporting.write_waiting.Goals as goal

pub returns-in-Err-clause-writes : goal.returns-in-Err-clause-writes
returns-in-Err-clause-writes g c =
    let taken = g.W.ReportWriter.taken in
    let front = c.in-Err.ensures.bytes in
    wrote_front (taken c.args.report.now) (taken c.write_all.new.writer) (string_bytes c.args.text.now) front.0
    (subst (λ (bytes : List ℕ). Appends (taken c.args.report.now) (taken c.write_all.new.writer) (take front.0 bytes)) c.as_bytes.ensures.value front.1)
