use Rattle.std.proofs.Common.{◌≡◌, ◌+◌, ◌≤◌, length, string_bytes, ap, ◌∙◌, subst, arith, ℕ, Bool, cond, List, [], ◌∷◌}
use Rattle.test_runner_core_plan.specs.declared.plan.Plan.{Plan}
use Rattle.test_runner_core_run_model.specs.Finishing.{is_stopped_at, places_among}
use Rattle.test_runner_core_reporter.specs.Parts.{Part}
use Rattle.test_runner_core_reporter.specs.Steps.{all_done}
use Rattle.test_runner_core_reporter.specs.Writes.{WritesAll, WritesPrefix}
use Rattle.test_runner_core_reporter.proofs.Done.{done_here, front_here, stopped_told}
use Rattle.test_runner_core_reporter.proofs.Told.{fails}
use Rattle.test_runner_core_reporter.proofs.steps.report_stopped.Goals as goal

pub returns-in_err-report_if-clause-writes : goal.returns-in_err-report_if-clause-writes
returns-in_err-report_if-clause-writes g c =
    let taken = g.W.ReportWriter.taken in
    let session = c.args.session.now in
    let count = c.len-place-end.ensures ∙ ap (λ (p : Plan). length p.tests) c.plan.ensures in
    let within : c.loop-place.place + 1 ≤ length session.plan.tests = omega (arith, count, c.loop-place-test.true) in
    let told =
    subst (λ (b : Bool). WritesPrefix (all_done session.plan session.run (cond b (c.loop-place.place ∷ []) [])) (taken c.loop-place.report) (string_bytes c.loop-place.text) (taken c.report_if.new.report))
    c.is_stopped_at-stopped.ensures c.in_err-report_if.ensures.writes in
    fails c.from_residual.result _ _ _ _ _ c.from_residual.ensures.0
    (subst (λ (parts : List Part). WritesPrefix parts (taken c.args.report.now) (string_bytes c.args.text.now) (taken c.report_if.new.report)) (stopped_told session.plan session.run)
    (front_here session.plan session.run (is_stopped_at session.run.tests) c.loop-place.place (length session.plan.tests) (taken c.args.report.now) (taken c.loop-place.report) (taken c.report_if.new.report)
    (string_bytes c.args.text.now) (string_bytes c.loop-place.text) within c.loop-place.invariant.told told))

pub loop-place-preserved : goal.loop-place-preserved
loop-place-preserved g c =
    let taken = g.W.ReportWriter.taken in
    let session = c.args.session.now in
    let told =
    subst (λ (b : Bool). WritesAll (all_done session.plan session.run (cond b (c.loop-place.place ∷ []) [])) (taken c.loop-place.report) (string_bytes c.loop-place.text) (taken c.report_if.new.report) (string_bytes c.report_if.new.text))
    c.is_stopped_at-stopped.ensures c.in_ok-report_if.ensures.writes in
    record {
      told = done_here session.plan session.run (is_stopped_at session.run.tests) c.loop-place.place (taken c.args.report.now) (taken c.loop-place.report) (taken c.report_if.new.report)
          (string_bytes c.args.text.now) (string_bytes c.loop-place.text) (string_bytes c.report_if.new.text) c.loop-place.invariant.told told;
      unfailed = c.in_ok-report_if.ensures.failures ∙ c.loop-place.invariant.unfailed;
    }

pub returns-clause-writes : goal.returns-clause-writes
returns-clause-writes g c =
    let taken = g.W.ReportWriter.taken in
    let session = c.args.session.now in
    let count = c.len-place-end.ensures ∙ ap (λ (p : Plan). length p.tests) c.plan.ensures in
    let inside = c.loop-place.auto.place-end in
    let over : c.loop-place.place ≡ length session.plan.tests = omega (arith, count, inside, c.loop-place-test.false) in
    subst (λ (parts : List Part). WritesAll parts (taken c.args.report.now) (string_bytes c.args.text.now) (taken c.loop-place.report) (string_bytes c.loop-place.text))
    (ap (λ (n : ℕ). all_done session.plan session.run (places_among (is_stopped_at session.run.tests) n)) over ∙ stopped_told session.plan session.run)
    c.loop-place.invariant.told
