use Rattle.std.proofs.Common.{IfOk, List, ℕ, ap, subst}
use Rattle.test_runner_core.specs.Headline.{StreamHeadline}
use Rattle.test_runner_core.specs.Streams.{MemoryRead}
use Rattle.faces_tests.proofs.runs.replay.Goals as goal

pub returns : goal.returns
returns g c = record {
  headline =
      subst (λ (bytes : List ℕ). IfOk c.judge_stream.result (λ status. StreamHeadline bytes status (g.W.ReportWriter.taken c.args.report.now) (g.W.ReportWriter.taken c.judge_stream.new.report)))
      (ap (λ (reader : MemoryRead). reader.left) c.new-input.ensures) c.judge_stream.ensures.headline;
}
