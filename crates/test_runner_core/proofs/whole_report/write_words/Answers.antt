use Rattle.std.proofs.Common.{List, ℕ, subst, take}
use Rattle.std.specs.Io.KnownBytes.{Appends}
use Rattle.test_runner_core.proofs.Whole.{words_front, words_told}
use Rattle.test_runner_core.proofs.whole_report.write_words.Goals as goal

pub returns-in-Ok-clause-writes : goal.returns-in-Ok-clause-writes
returns-in-Ok-clause-writes g c =
    let taken = g.W.ReportWriter.taken in
    words_told c.args.words.now (taken c.args.report.now) (taken c.write_all.new.writer)
    (subst (λ (bytes : List ℕ). Appends (taken c.args.report.now) (taken c.write_all.new.writer) bytes) c.as_bytes.ensures.value c.in-Ok.ensures.bytes)

pub returns-in-Err-clause-writes : goal.returns-in-Err-clause-writes
returns-in-Err-clause-writes g c =
    let taken = g.W.ReportWriter.taken in
    let front = c.in-Err.ensures.bytes in
    words_front c.args.words.now (taken c.args.report.now) (taken c.write_all.new.writer) front.0
    (subst (λ (bytes : List ℕ). Appends (taken c.args.report.now) (taken c.write_all.new.writer) (take front.0 bytes)) c.as_bytes.ensures.value front.1)
