use Rattle.std.proofs.Common.{◌≤◌, ◌∙◌, ℕ, List, length, map, string_bytes, ap, subst, arith}
use Rattle.std.proofs.lemmas.List.{take_all}
use Rattle.test_runner_core_plan.specs.declared.plan.Plan.{Plan}
use Rattle.test_runner_core_run_state.specs.Statuses.{script_record_in}
use Rattle.test_runner_core_report_lines.specs.Texts.{script_text}
use Rattle.test_runner_core_reporter.specs.Final.{script_texts}
use Rattle.test_runner_core_reporter.specs.Parts.{Said}
use Rattle.test_runner_core_reporter.specs.Writes.{WritesAll}
use Rattle.test_runner_core_reporter.proofs.Each.{next_fails, next_told}
use Rattle.test_runner_core_reporter.proofs.Scripts.{texts_count, told_text_at}
use Rattle.test_runner_core_reporter.proofs.Told.{fails}
use Rattle.test_runner_core_reporter.proofs.final_text.report_scripts.Goals as goal

pub returns-in_err-report_script-clause-writes : goal.returns-in_err-report_script-clause-writes
returns-in_err-report_script-clause-writes g c =
    let taken = g.W.ReportWriter.taken in
    let session = c.args.session.now in
    let same = c.as_slice-scripts.ensures ∙ ap (λ (p : Plan). p.scripts) c.plan.ensures in
    let here = told_text_at session.plan.scripts c.as_slice-scripts.result.now session.run.scripts c.loop-place.place c.index-scripts-place.result c.as_str.result.now c.ended_script.result
    same c.loop-place-test.true c.index-scripts-place.is c.as_str.ensures c.ended_script.ensures in
    fails c.from_residual.result _ _ _ _ _ c.from_residual.ensures.0
    (next_fails (λ text. Said text) (script_texts session.plan.scripts session.run.scripts) c.loop-place.place (script_text c.as_str.result.now (script_record_in c.ended_script.result))
    (taken c.args.report.now) (taken c.loop-place.report) (taken c.report_script.new.report) (string_bytes c.args.text.now) (string_bytes c.loop-place.text)
    here c.loop-place.invariant.told c.in_err-report_script.ensures.writes)

pub loop-place-preserved : goal.loop-place-preserved
loop-place-preserved g c =
    let taken = g.W.ReportWriter.taken in
    let session = c.args.session.now in
    let same = c.as_slice-scripts.ensures ∙ ap (λ (p : Plan). p.scripts) c.plan.ensures in
    let here = told_text_at session.plan.scripts c.as_slice-scripts.result.now session.run.scripts c.loop-place.place c.index-scripts-place.result c.as_str.result.now c.ended_script.result
    same c.loop-place-test.true c.index-scripts-place.is c.as_str.ensures c.ended_script.ensures in
    record {
      told = next_told (λ text. Said text) (script_texts session.plan.scripts session.run.scripts) c.loop-place.place (script_text c.as_str.result.now (script_record_in c.ended_script.result))
          (taken c.args.report.now) (taken c.loop-place.report) (taken c.report_script.new.report) (string_bytes c.args.text.now) (string_bytes c.loop-place.text) (string_bytes c.report_script.new.text)
          here c.loop-place.invariant.told c.in_ok-report_script.ensures.writes;
      unfailed = c.in_ok-report_script.ensures.failures ∙ c.loop-place.invariant.unfailed;
    }

pub returns-clause-writes : goal.returns-clause-writes
returns-clause-writes g c =
    let taken = g.W.ReportWriter.taken in
    let session = c.args.session.now in
    let texts = script_texts session.plan.scripts session.run.scripts in
    let count = ap (λ (l : List (List ℕ)). length l) (c.as_slice-scripts.ensures ∙ ap (λ (p : Plan). p.scripts) c.plan.ensures) in
    let all = texts_count session.plan.scripts session.run.scripts in
    let over : length texts ≤ c.loop-place.place = omega (arith, count, all, c.loop-place-test.false) in
    subst (λ (xs : List (List ℕ)). WritesAll (map (λ text. Said text) xs) (taken c.args.report.now) (string_bytes c.args.text.now) (taken c.loop-place.report) (string_bytes c.loop-place.text))
    (take_all c.loop-place.place texts over) c.loop-place.invariant.told
