use Rattle.std.proofs.Common.{[], string_bytes, subst, inl}
use Rattle.test_runner_core_line_syntax.specs.Lent.{line_meant}
use Rattle.test_runner_core_reporter.proofs.Told.{front_none}
use Rattle.test_runner_core.specs.Inside.{Steps}
use Rattle.test_runner_core.specs.declared.judging_line.LineStep.{LineStep}
use Rattle.test_runner_core.proofs.OneStep.{line_fails, step_fails, step_tells}
use Rattle.test_runner_core.proofs.judging_line.report_line.Goals as goal

pub returns-in_err-refusal-clause-judged : goal.returns-in_err-refusal-clause-judged
returns-in_err-refusal-clause-judged g c =
    line_fails c.from_residual.result c.args.session.now c.take_step.new.session (line_meant c.args.line) (g.W.ReportWriter.taken c.args.report.now) (string_bytes c.args.text.now) _ _
    c.from_residual.ensures.0 (inl (front_none [] (g.W.ReportWriter.taken c.args.report.now) (string_bytes c.args.text.now)))

pub returns-in_err-report_step-in-Taken-clause-judged : goal.returns-in_err-report_step-in-Taken-clause-judged
returns-in_err-report_step-in-Taken-clause-judged g c =
    let old = c.args.session.now in
    let new = c.take_step.new.session in
    let line = line_meant c.args.line in
    let taken = subst (λ (found : LineStep). Steps found old line new) c.in-Taken.is c.in_ok-refusal.ensures.taken in
    step_fails c.from_residual-in_err-report_step-in-Taken.result old new new line _ (g.W.ReportWriter.taken c.args.report.now) (string_bytes c.args.text.now) _ _
    c.from_residual-in_err-report_step-in-Taken.ensures.0 c.requires.reached taken c.in_err-report_step-in-Taken.ensures.writes

pub returns-in_ok-report_step-in-Taken-clause-judged : goal.returns-in_ok-report_step-in-Taken-clause-judged
returns-in_ok-report_step-in-Taken-clause-judged g c =
    let old = c.args.session.now in
    let next = c.take_step.new.session in
    let line = line_meant c.args.line in
    let taken = subst (λ (found : LineStep). Steps found old line next) c.in-Taken.is c.in_ok-refusal.ensures.taken in
    step_tells old next c.forget_settled.new.session line _ (g.W.ReportWriter.taken c.args.report.now) (string_bytes c.args.text.now) _ _ c.requires.reached taken
    c.forget_settled.ensures.plan c.forget_settled.ensures.run c.in_ok-report_step-in-Taken.ensures.writes
