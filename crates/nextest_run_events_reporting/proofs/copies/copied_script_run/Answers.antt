use Rattle.std.proofs.lemmas.Result.{MatchResult-weaker}
use Rattle.nextest_run_events_reporting.proofs.Clones.{same_script_run}
use Rattle.nextest_run_events_reporting.proofs.copies.copied_script_run.Goals as goal

-- src/copies.rt
pub returns : goal.returns
returns c = MatchResult-weaker c.clone.result c.clone.ensures.cases (λ copy is. same_script_run c.args.run.now copy is) (λ _ _. tt)
