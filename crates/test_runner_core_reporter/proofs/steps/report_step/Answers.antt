use Rattle.std.proofs.Common.{ℕ, List, cond, [], ◌∷◌, sym, subst, string_bytes}
use Rattle.std.specs.Option.{option_map_or}
use Rattle.test_runner_core_run_model.specs.Finishing.{stopped_places}
use Rattle.test_runner_core_reporter.specs.Parts.{Part}
use Rattle.test_runner_core_reporter.specs.Steps.{all_done}
use Rattle.test_runner_core_reporter.specs.Writes.{WritesParts, WritesPrefix}
use Rattle.test_runner_core_reporter.proofs.Done.{done_append}
use Rattle.test_runner_core_reporter.proofs.Told.{fails, front_more, tells_then}
use Rattle.test_runner_core_reporter.proofs.steps.report_step.Goals as goal

pub returns-in_err-report_ended-clause-writes : goal.returns-in_err-report_ended-clause-writes
returns-in_err-report_ended-clause-writes g c =
    let taken = g.W.ReportWriter.taken in
    let plan = c.args.session.now.plan in
    let run = c.args.session.now.run in
    let first : List ℕ = option_map_or (λ place. place ∷ []) c.args.finished.ended [] in
    let others : List ℕ = cond c.args.finished.stops (stopped_places run) [] in
    fails c.from_residual.result _ _ _ _ _ c.from_residual.ensures.0
    (subst (λ (parts : List Part). WritesPrefix parts (taken c.args.report.now) (string_bytes c.args.text.now) (taken c.report_ended.new.report))
    (sym (done_append plan run first others))
    (front_more (all_done plan run first) (all_done plan run others)
    (taken c.args.report.now) (taken c.report_ended.new.report) (string_bytes c.args.text.now) c.in_err-report_ended.ensures.writes))

pub returns-clause-writes : goal.returns-clause-writes
returns-clause-writes g c =
    let taken = g.W.ReportWriter.taken in
    let plan = c.args.session.now.plan in
    let run = c.args.session.now.run in
    let first : List ℕ = option_map_or (λ place. place ∷ []) c.args.finished.ended [] in
    let others : List ℕ = cond c.args.finished.stops (stopped_places run) [] in
    subst (λ (parts : List Part). WritesParts c.report_if_stopped.result parts (taken c.args.report.now) (string_bytes c.args.text.now) (taken c.report_if_stopped.new.report) (string_bytes c.report_if_stopped.new.text))
    (sym (done_append plan run first others))
    (tells_then c.report_if_stopped.result (all_done plan run first) (all_done plan run others)
    (taken c.args.report.now) (taken c.report_ended.new.report) (taken c.report_if_stopped.new.report)
    (string_bytes c.args.text.now) (string_bytes c.report_ended.new.text) (string_bytes c.report_if_stopped.new.text)
    c.in_ok-report_ended.ensures.writes c.report_if_stopped.ensures.writes)
