use Rattle.std.proofs.Common.{◌≡◌, List, ℕ, [], Option, Some, None, Ok, Err, refl, ap, sym, ◌∙◌, subst, inl, arith, string_bytes}
use Rattle.test_runner_core_log_reader.specs.Calls.{Hands, HandsAhead, HandsBytes, idle_reads}
use Rattle.test_runner_core_log_reader.specs.declared.next.Next.{Next}
use Rattle.test_runner_core_log_reader.proofs.WholeLines.{takes_none}
use Rattle.test_runner_core_run_model.specs.State.{initial}
use Rattle.test_runner_core_session.specs.Session.{SessionState, run_plan}
use Rattle.test_runner_core_reporter.specs.Keeping.{IsKeptOf}
use Rattle.test_runner_core_reporter.proofs.KeptReports.{kept_begin, kept_reasons}
use Rattle.test_runner_core_reporter.specs.Opening.{opening}
use Rattle.test_runner_core.specs.Inside.{JudgesLine, KeepsJudged}
use Rattle.test_runner_core.specs.declared.refused_line.LineRefusal.{LineRefusal}
use Rattle.test_runner_core.specs.declared.refused_line.RefusedLine.{RefusedLine}
use Rattle.test_runner_core.proofs.Course.{reached, so_far_none}
use Rattle.test_runner_core.proofs.Near.{ends_near, line_writes, next_near, read_on}
use Rattle.test_runner_core.proofs.Walk.{judges_line_fails, judges_next_fails, line_accepted, line_failed, line_refused, log_faulty, log_over, nothing_ahead, opening_failed, told_from_nothing}
use Rattle.test_runner_core.proofs.judging.judge_lines.Goals as goal

pub loop-fault-init : goal.loop-fault-init
loop-fault-init g c =
    let plan = c.args.session.now.plan in
    let begins = c.requires.begins in
    record {
      here = record {
        front = [];
        parts = opening plan;
        planned = refl;
        real = initial (run_plan plan);
        kept = subst (λ (s : SessionState). IsKeptOf plan (initial (run_plan plan)) s.run) (sym begins) (kept_begin plan);
        so_far = so_far_none plan;
        told = told_from_nothing plan c.plan.result.now (g.W.ReportWriter.taken c.args.report.now) (g.W.ReportWriter.taken c.report_opening.new.report) (string_bytes c.args.text.now) (string_bytes c.report_opening.new.text)
            c.plan.ensures c.requires.empty c.in_ok-report_opening.ensures.writes;
        items = nothing_ahead c.args.lines.now (g.R.LogReader.left c.args.log.now);
        bytes = takes_none c.args.lines.now (g.R.LogReader.left c.args.log.now);
        numbered = refl;
      };
      near = inl refl;
      reads = omega arith;
      within = omega arith;
      unfailed = refl;
      unfailed_writes = c.in_ok-report_opening.ensures.failures;
      counted = omega arith;
    }

pub returns-in_err-report_opening-clause-judged : goal.returns-in_err-report_opening-clause-judged
returns-in_err-report_opening-clause-judged g c =
    let plan = c.args.session.now.plan in
    let left = g.R.LogReader.left in
    let taken = g.W.ReportWriter.taken in
    judges_line_fails c.from_residual.result c.in_err-report_opening.field-0.0 plan _ c.args.lines.now (left c.args.log.now) (taken c.args.report.now) (left c.args.log.now) (taken c.report_opening.new.report) _
    c.from_residual.ensures.1
    (opening_failed plan c.plan.result.now c.args.lines.now (left c.args.log.now) (taken c.args.report.now) (taken c.report_opening.new.report) (string_bytes c.args.text.now)
    c.plan.ensures c.requires.empty c.in_err-report_opening.ensures.writes)

pub returns-in_err-next_line-clause-judged : goal.returns-in_err-next_line-clause-judged
returns-in_err-next_line-clause-judged g c =
    let left = g.R.LogReader.left in
    let taken = g.W.ReportWriter.taken in
    judges_next_fails c.from_residual-in_err-next_line.result c.in_err-next_line.field-0.0 c.args.session.now.plan _ c.args.lines.now (left c.args.log.now) (taken c.args.report.now) c.loop-fault.session c.loop-fault.lines c.next_line.new.lines
    (left c.loop-fault.log) (left c.next_line.new.log) (taken c.loop-fault.report) (taken c.next_line.new.report) (string_bytes c.loop-fault.text) (string_bytes c.next_line.new.text) _ c.loop-fault.number
    c.from_residual-in_err-next_line.ensures.1 c.loop-fault.invariant.here c.in_err-next_line.ensures.items

pub returns-in-Refused-clause-judged : goal.returns-in-Refused-clause-judged
returns-in-Refused-clause-judged g c =
    let left = g.R.LogReader.left in
    let taken = g.W.ReportWriter.taken in
    let hands = subst (λ (n : Next). Hands c.loop-fault.lines (left c.loop-fault.log) c.next_line.new.lines (left c.next_line.new.log) (Ok n)) c.in-Refused.is c.in_ok-next_line.ensures.items.0 in
    let judged =
    log_faulty c.args.session.now.plan c.args.lines.now (left c.args.log.now) (taken c.args.report.now) c.loop-fault.session c.loop-fault.lines c.next_line.new.lines (left c.loop-fault.log) (left c.next_line.new.log)
    (taken c.loop-fault.report) (taken c.next_line.new.report) (string_bytes c.loop-fault.text) (string_bytes c.next_line.new.text) c.loop-fault.number c.in-Refused.fault
    c.loop-fault.invariant.here hands c.in_ok-next_line.ensures.items.3 in
    let same = c.refused_at.ensures ∙ ap (λ (r : LineRefusal). record { line = c.loop-fault.number; refusal = r }) c.refusal_for.ensures in
    subst (λ (found : RefusedLine). KeepsJudged c.args.session.now.plan c.loop-fault.session.run (Some found) c.args.lines.now (left c.args.log.now) (taken c.args.report.now) (taken c.next_line.new.report) (string_bytes c.next_line.new.text))
    (sym same) judged

pub returns-in-End-clause-judged : goal.returns-in-End-clause-judged
returns-in-End-clause-judged g c =
    let left = g.R.LogReader.left in
    let taken = g.W.ReportWriter.taken in
    let hands = subst (λ (n : Next). Hands c.loop-fault.lines (left c.loop-fault.log) c.next_line.new.lines (left c.next_line.new.log) (Ok n)) c.in-End.is c.in_ok-next_line.ensures.items.0 in
    log_over c.args.session.now.plan c.args.lines.now (left c.args.log.now) (taken c.args.report.now) c.loop-fault.session c.loop-fault.lines c.next_line.new.lines (left c.loop-fault.log) (left c.next_line.new.log)
    (taken c.loop-fault.report) (taken c.next_line.new.report) (string_bytes c.loop-fault.text) (string_bytes c.next_line.new.text) c.loop-fault.number
    c.loop-fault.invariant.here hands c.in_ok-next_line.ensures.items.3

pub judge_line-requires-clause-reached : goal.judge_line-requires-clause-reached
judge_line-requires-clause-reached g c =
    let here = c.loop-fault.invariant.here in
    let plan = c.args.session.now.plan in
    kept_reasons plan here.real c.loop-fault.session.run here.kept (reached plan here.front here.real here.parts here.so_far)

pub returns-in_err-refusal-clause-judged : goal.returns-in_err-refusal-clause-judged
returns-in_err-refusal-clause-judged g c =
    let left = g.R.LogReader.left in
    let taken = g.W.ReportWriter.taken in
    let hands = subst (λ (n : Next). Hands c.loop-fault.lines (left c.loop-fault.log) c.next_line.new.lines (left c.next_line.new.log) (Ok n)) c.in-Line.is c.in_ok-next_line.ensures.items.0 in
    let judged =
    subst (λ (bytes : List ℕ). JudgesLine (Err c.in_err-refusal.field-0.0) c.loop-fault.session bytes c.judge_line.new.session (taken c.next_line.new.report) (string_bytes c.next_line.new.text)
    (taken c.judge_line.new.report) (string_bytes c.judge_line.new.text)) c.line.ensures c.in_err-refusal.ensures.judged in
    judges_line_fails c.from_residual-in_err-refusal.result c.in_err-refusal.field-0.0 c.args.session.now.plan _ c.args.lines.now (left c.args.log.now) (taken c.args.report.now) (left c.next_line.new.log) (taken c.judge_line.new.report) _
    c.from_residual-in_err-refusal.ensures.1
    (line_failed c.args.session.now.plan c.args.lines.now (left c.args.log.now) (taken c.args.report.now) c.loop-fault.session c.judge_line.new.session c.loop-fault.lines c.next_line.new.lines (left c.loop-fault.log) (left c.next_line.new.log)
    (taken c.loop-fault.report) (taken c.next_line.new.report) (taken c.judge_line.new.report) (string_bytes c.loop-fault.text) (string_bytes c.next_line.new.text) (string_bytes c.judge_line.new.text) c.loop-fault.number c.in_err-refusal.field-0.0
    c.loop-fault.invariant.here hands c.in_ok-next_line.ensures.items.3 judged)

pub returns-in-Some-clause-judged : goal.returns-in-Some-clause-judged
returns-in-Some-clause-judged g c =
    let left = g.R.LogReader.left in
    let taken = g.W.ReportWriter.taken in
    let hands = subst (λ (n : Next). Hands c.loop-fault.lines (left c.loop-fault.log) c.next_line.new.lines (left c.next_line.new.log) (Ok n)) c.in-Line.is c.in_ok-next_line.ensures.items.0 in
    let judged =
    subst (λ (bytes : List ℕ). JudgesLine (Ok (Some c.in-Some.refusal)) c.loop-fault.session bytes c.judge_line.new.session (taken c.next_line.new.report) (string_bytes c.next_line.new.text)
    (taken c.judge_line.new.report) (string_bytes c.judge_line.new.text)) c.line.ensures (rw c.in-Some.is at c.in_ok-refusal.ensures.judged) in
    subst (λ (found : RefusedLine). KeepsJudged c.args.session.now.plan c.judge_line.new.session.run (Some found) c.args.lines.now (left c.args.log.now) (taken c.args.report.now) (taken c.judge_line.new.report) (string_bytes c.judge_line.new.text))
    (sym c.refused_at-in-Some.ensures)
    (line_refused c.args.session.now.plan c.args.lines.now (left c.args.log.now) (taken c.args.report.now) c.loop-fault.session c.judge_line.new.session c.loop-fault.lines c.next_line.new.lines (left c.loop-fault.log) (left c.next_line.new.log)
    (taken c.loop-fault.report) (taken c.next_line.new.report) (taken c.judge_line.new.report) (string_bytes c.loop-fault.text) (string_bytes c.next_line.new.text) (string_bytes c.judge_line.new.text) c.loop-fault.number c.in-Some.refusal
    c.loop-fault.invariant.here hands c.in_ok-next_line.ensures.items.3 judged)

pub loop-fault-preserved : goal.loop-fault-preserved
loop-fault-preserved g c =
    let left = g.R.LogReader.left in
    let taken = g.W.ReportWriter.taken in
    let hands = subst (λ (n : Next). Hands c.loop-fault.lines (left c.loop-fault.log) c.next_line.new.lines (left c.next_line.new.log) (Ok n)) c.in-Line.is c.in_ok-next_line.ensures.items.0 in
    let ahead = subst (λ (n : Next). HandsAhead c.loop-fault.lines (left c.loop-fault.log) c.next_line.new.lines (left c.next_line.new.log) (Ok n)) c.in-Line.is c.in_ok-next_line.ensures.items.1 in
    let handed = subst (λ (n : Next). HandsBytes (Ok n) c.loop-fault.lines c.next_line.new.lines) c.in-Line.is c.in_ok-next_line.ensures.items.2 in
    let idle : idle_reads (Ok c.in_ok-next_line.field-0) ≡ 0 = ap (λ (n : Next). idle_reads (Ok n)) c.in-Line.is in
    let judged =
    subst (λ (bytes : List ℕ). JudgesLine (Ok None) c.loop-fault.session bytes c.judge_line.new.session (taken c.next_line.new.report) (string_bytes c.next_line.new.text)
    (taken c.judge_line.new.report) (string_bytes c.judge_line.new.text)) c.line.ensures
    (subst (λ (r : Option LineRefusal). JudgesLine (Ok r) c.loop-fault.session c.line.result.now c.judge_line.new.session (taken c.next_line.new.report) (string_bytes c.next_line.new.text)
    (taken c.judge_line.new.report) (string_bytes c.judge_line.new.text)) c.in_default.is c.in_ok-refusal.ensures.judged) in
    let reads = c.in_ok-next_line.ensures.reads.0 in
    let limit = c.in_ok-next_line.ensures.reads.1 in
    let before = c.loop-fault.invariant in
    let so_far = before.reads in
    let counted = before.counted in
    record {
      here =
          line_accepted c.args.session.now.plan c.args.lines.now (left c.args.log.now) (taken c.args.report.now) c.loop-fault.session c.judge_line.new.session c.loop-fault.lines c.next_line.new.lines (left c.loop-fault.log) (left c.next_line.new.log)
          (taken c.loop-fault.report) (taken c.next_line.new.report) (taken c.judge_line.new.report) (string_bytes c.loop-fault.text) (string_bytes c.next_line.new.text) (string_bytes c.judge_line.new.text) c.loop-fault.number
          before.here hands ahead c.in_ok-next_line.ensures.items.3 judged;
      near =
          let wrote =
          line_writes (Ok None) c.loop-fault.session c.judge_line.new.session c.next_line.new.lines.line (taken c.next_line.new.report) (taken c.judge_line.new.report) (string_bytes c.next_line.new.text)
          (string_bytes c.judge_line.new.text) judged in
          read_on c.args.session.now.plan c.args.lines.now (left c.args.log.now) (taken c.args.report.now) (left c.next_line.new.log) (taken c.next_line.new.report) (taken c.judge_line.new.report) wrote.0 wrote.1
          (next_near (Ok c.in_ok-next_line.field-0) c.args.session.now.plan c.args.lines.now (left c.args.log.now) (taken c.args.report.now) c.loop-fault.session c.loop-fault.lines c.next_line.new.lines (left c.loop-fault.log)
          (left c.next_line.new.log) (taken c.loop-fault.report) (taken c.next_line.new.report) (string_bytes c.loop-fault.text) (string_bytes c.next_line.new.text) c.loop-fault.number
          before.here c.in_ok-next_line.ensures.items c.in_ok-next_line.ensures.near before.near);
      reads = omega arith;
      within = omega arith;
      unfailed = c.in_ok-next_line.ensures.read_failures ∙ before.unfailed;
      unfailed_writes = c.in_ok-refusal.ensures.failures ∙ c.in_ok-next_line.ensures.write_failures ∙ before.unfailed_writes;
      counted = omega (arith, handed);
    }

-- how near to the line with which it ends it reads
pub returns-in_err-report_opening-clause-near : goal.returns-in_err-report_opening-clause-near
returns-in_err-report_opening-clause-near g c =
    let left = g.R.LogReader.left in
    let taken = g.W.ReportWriter.taken in
    ends_near c.args.session.now.plan c.args.lines.now (left c.args.log.now) (taken c.args.report.now) (left c.args.log.now) (taken c.report_opening.new.report) (inl refl)

pub returns-in_err-next_line-clause-near : goal.returns-in_err-next_line-clause-near
returns-in_err-next_line-clause-near g c =
    let left = g.R.LogReader.left in
    let taken = g.W.ReportWriter.taken in
    ends_near c.args.session.now.plan c.args.lines.now (left c.args.log.now) (taken c.args.report.now) (left c.next_line.new.log) (taken c.next_line.new.report)
    (next_near (Err c.in_err-next_line.field-0.0) c.args.session.now.plan c.args.lines.now (left c.args.log.now) (taken c.args.report.now) c.loop-fault.session c.loop-fault.lines c.next_line.new.lines (left c.loop-fault.log) (left c.next_line.new.log)
    (taken c.loop-fault.report) (taken c.next_line.new.report) (string_bytes c.loop-fault.text) (string_bytes c.next_line.new.text) c.loop-fault.number
    c.loop-fault.invariant.here c.in_err-next_line.ensures.items c.in_err-next_line.ensures.near c.loop-fault.invariant.near)

pub returns-in-Refused-clause-near : goal.returns-in-Refused-clause-near
returns-in-Refused-clause-near g c =
    let left = g.R.LogReader.left in
    let taken = g.W.ReportWriter.taken in
    ends_near c.args.session.now.plan c.args.lines.now (left c.args.log.now) (taken c.args.report.now) (left c.next_line.new.log) (taken c.next_line.new.report)
    (next_near (Ok c.in_ok-next_line.field-0) c.args.session.now.plan c.args.lines.now (left c.args.log.now) (taken c.args.report.now) c.loop-fault.session c.loop-fault.lines c.next_line.new.lines (left c.loop-fault.log) (left c.next_line.new.log)
    (taken c.loop-fault.report) (taken c.next_line.new.report) (string_bytes c.loop-fault.text) (string_bytes c.next_line.new.text) c.loop-fault.number
    c.loop-fault.invariant.here c.in_ok-next_line.ensures.items c.in_ok-next_line.ensures.near c.loop-fault.invariant.near)

pub returns-in-End-clause-near : goal.returns-in-End-clause-near
returns-in-End-clause-near g c =
    let left = g.R.LogReader.left in
    let taken = g.W.ReportWriter.taken in
    ends_near c.args.session.now.plan c.args.lines.now (left c.args.log.now) (taken c.args.report.now) (left c.next_line.new.log) (taken c.next_line.new.report)
    (next_near (Ok c.in_ok-next_line.field-0) c.args.session.now.plan c.args.lines.now (left c.args.log.now) (taken c.args.report.now) c.loop-fault.session c.loop-fault.lines c.next_line.new.lines (left c.loop-fault.log) (left c.next_line.new.log)
    (taken c.loop-fault.report) (taken c.next_line.new.report) (string_bytes c.loop-fault.text) (string_bytes c.next_line.new.text) c.loop-fault.number
    c.loop-fault.invariant.here c.in_ok-next_line.ensures.items c.in_ok-next_line.ensures.near c.loop-fault.invariant.near)

pub returns-in_err-refusal-clause-near : goal.returns-in_err-refusal-clause-near
returns-in_err-refusal-clause-near g c =
    let left = g.R.LogReader.left in
    let taken = g.W.ReportWriter.taken in
    let wrote =
    line_writes (Err c.in_err-refusal.field-0.0) c.loop-fault.session c.judge_line.new.session c.line.result.now (taken c.next_line.new.report) (taken c.judge_line.new.report) (string_bytes c.next_line.new.text)
    (string_bytes c.judge_line.new.text) c.in_err-refusal.ensures.judged in
    let read =
    next_near (Ok c.in_ok-next_line.field-0) c.args.session.now.plan c.args.lines.now (left c.args.log.now) (taken c.args.report.now) c.loop-fault.session c.loop-fault.lines c.next_line.new.lines (left c.loop-fault.log) (left c.next_line.new.log)
    (taken c.loop-fault.report) (taken c.next_line.new.report) (string_bytes c.loop-fault.text) (string_bytes c.next_line.new.text) c.loop-fault.number
    c.loop-fault.invariant.here c.in_ok-next_line.ensures.items c.in_ok-next_line.ensures.near c.loop-fault.invariant.near in
    ends_near c.args.session.now.plan c.args.lines.now (left c.args.log.now) (taken c.args.report.now) (left c.next_line.new.log) (taken c.judge_line.new.report)
    (read_on c.args.session.now.plan c.args.lines.now (left c.args.log.now) (taken c.args.report.now) (left c.next_line.new.log) (taken c.next_line.new.report) (taken c.judge_line.new.report) wrote.0 wrote.1 read)

pub returns-in-Some-clause-near : goal.returns-in-Some-clause-near
returns-in-Some-clause-near g c =
    let left = g.R.LogReader.left in
    let taken = g.W.ReportWriter.taken in
    let wrote =
    line_writes (Ok c.in_ok-refusal.field-0) c.loop-fault.session c.judge_line.new.session c.line.result.now (taken c.next_line.new.report) (taken c.judge_line.new.report) (string_bytes c.next_line.new.text)
    (string_bytes c.judge_line.new.text) c.in_ok-refusal.ensures.judged in
    let read =
    next_near (Ok c.in_ok-next_line.field-0) c.args.session.now.plan c.args.lines.now (left c.args.log.now) (taken c.args.report.now) c.loop-fault.session c.loop-fault.lines c.next_line.new.lines (left c.loop-fault.log) (left c.next_line.new.log)
    (taken c.loop-fault.report) (taken c.next_line.new.report) (string_bytes c.loop-fault.text) (string_bytes c.next_line.new.text) c.loop-fault.number
    c.loop-fault.invariant.here c.in_ok-next_line.ensures.items c.in_ok-next_line.ensures.near c.loop-fault.invariant.near in
    ends_near c.args.session.now.plan c.args.lines.now (left c.args.log.now) (taken c.args.report.now) (left c.next_line.new.log) (taken c.judge_line.new.report)
    (read_on c.args.session.now.plan c.args.lines.now (left c.args.log.now) (taken c.args.report.now) (left c.next_line.new.log) (taken c.next_line.new.report) (taken c.judge_line.new.report) wrote.0 wrote.1 read)
