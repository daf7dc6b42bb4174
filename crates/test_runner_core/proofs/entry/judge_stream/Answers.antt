use Rattle.std.proofs.Common.{◌≡◌, List, ℕ, ◌+◌, ◌≤◌, ◌<◌, [], length, Option, Ok, Err, IfSome, sym, subst, ap, ◌∙◌}
use Rattle.test_runner_core_streams.specs.Left.{OfBytes}
use Rattle.test_runner_core_streams.specs.declared.traits.TheConstants.{READ_LIMIT}
use Rattle.test_runner_core_inputs.specs.Calls.{Reads}
use Rattle.test_runner_core_inputs.specs.Reading.{read_inputs}
use Rattle.test_runner_core_inputs.specs.declared.inputs_error.InputsError.{InputsError}
use Rattle.test_runner_core_inputs.specs.declared.inputs_error.InputsRefusal.TheVariants as unread
use Rattle.test_runner_core_log_reader.specs.Calls.{PartsAtFirst}
use Rattle.test_runner_core_log_reader.specs.Cursor.{Cursor, items_ahead}
use Rattle.test_runner_core_log_reader.specs.Feeds.{before_feed}
use Rattle.test_runner_core_reporter.proofs.Told.{front_none}
use Rattle.test_runner_core.specs.Inside.{IsGotOf}
use Rattle.test_runner_core.specs.Outcome.{HasNoPlan, StreamBegun, StreamComposed, StreamGotTo, table_of}
use Rattle.test_runner_core.specs.Report.{Begun, Composed, HasSoFar, OfLeft, refused_inputs}
use Rattle.test_runner_core.proofs.Headline.{stream_headline}
use Rattle.test_runner_core.proofs.NearCalls.{first_line_near, stream_near}
use Rattle.test_runner_core.proofs.Reported.{reports_as}
use Rattle.test_runner_core.proofs.Stream.{begun_nothing, first_line_alone, first_line_fails, refused_begun, refused_long, refused_parts, refused_stream, refused_ungot, stream_begun, stream_composed, stream_got, whatever_is_known}
use Rattle.test_runner_core.proofs.entry.judge_stream.Goals as goal

pub returns-in_err-lines-clause-reports : goal.returns-in_err-lines-clause-reports
returns-in_err-lines-clause-reports g c =
    let left = g.R.LogReader.left in
    first_line_fails c.from_residual.result c.in_err-lines.field-0.0 (left c.args.input.now) (left c.behind_first_line.new.reader) (g.W.ReportWriter.taken c.args.report.now) c.from_residual.ensures.1 c.in_err-lines.ensures.cut

pub returns-in-Ok-clause-reports : goal.returns-in-Ok-clause-reports
returns-in-Ok-clause-reports g c =
    let known = g.R.LogReader.left c.args.input.now in
    let rest = g.R.LogReader.left c.behind_first_line.new.reader in
    let last = g.R.LogReader.left c.judge_by_table.new.log in
    let lines = c.in-Some.lines in
    let inputs = c.in-Ok.inputs in
    let parts = subst (λ (o : Option Cursor). PartsAtFirst known o rest) c.in-Some.is c.in_ok-lines.ensures.lines in
    let fresh = subst (λ (o : Option Cursor). IfSome o (λ it. it.handed ≡ 0)) c.in-Some.is c.in_ok-lines.ensures.fresh in
    let read : read_inputs lines.line ≡ Ok inputs = ap read_inputs (sym c.line.ensures) ∙ c.in-Ok.ensures.exact in
    reports_as c.judge_by_table.result (λ parts code. OfBytes rest (λ bytes. Composed (table_of inputs) inputs (items_ahead lines bytes) parts code)) (λ parts code. OfLeft known (λ bytes. StreamComposed bytes parts code))
    (λ parts. (front : List (List ℕ)) × IsGotOf lines rest last front × HasSoFar (table_of inputs) inputs front parts) (λ parts. OfLeft known (λ bytes. OfLeft last (λ behind. StreamGotTo bytes behind parts)))
    (λ parts. OfBytes rest (λ bytes. Begun (table_of inputs) inputs (items_ahead lines bytes) parts)) (λ parts. OfLeft known (λ bytes. StreamBegun bytes parts))
    (g.W.ReportWriter.taken c.args.report.now) (g.W.ReportWriter.taken c.judge_by_table.new.report)
    (stream_composed inputs known rest lines parts fresh read) (stream_got inputs known rest last lines parts read) (stream_begun inputs known rest lines parts fresh read)
    c.judge_by_table.ensures.reports

pub returns-in-Ok-clause-unread : goal.returns-in-Ok-clause-unread
returns-in-Ok-clause-unread g c =
    let known = g.R.LogReader.left c.args.input.now in
    let rest = g.R.LogReader.left c.behind_first_line.new.reader in
    let parts = subst (λ (o : Option Cursor). PartsAtFirst known o rest) c.in-Some.is c.in_ok-lines.ensures.lines in
    let read : read_inputs c.in-Some.lines.line ≡ Ok c.in-Ok.inputs = ap read_inputs (sym c.line.ensures) ∙ c.in-Ok.ensures.exact in
    first_line_alone c.in-Ok.inputs known rest c.in-Some.lines _ _ (λ bytes. g.R.LogReader.calls c.args.input.now + length (before_feed bytes) + 1) parts read
    c.behind_first_line.ensures.reads_known c.judge_by_table.ensures.unread

pub returns-in_err-lines-clause-unread : goal.returns-in_err-lines-clause-unread
returns-in_err-lines-clause-unread g c =
    whatever_is_known (g.R.LogReader.left c.args.input.now) (λ bytes. HasNoPlan (read_inputs (before_feed bytes)))
    (λ bytes. g.R.LogReader.calls c.behind_first_line.new.reader ≤ g.R.LogReader.calls c.args.input.now + length (before_feed bytes) + 1) c.behind_first_line.ensures.reads_known

pub returns-in_default-clause-unread : goal.returns-in_default-clause-unread
returns-in_default-clause-unread g c =
    whatever_is_known (g.R.LogReader.left c.args.input.now) (λ bytes. HasNoPlan (read_inputs (before_feed bytes)))
    (λ bytes. g.R.LogReader.calls c.behind_first_line.new.reader ≤ g.R.LogReader.calls c.args.input.now + length (before_feed bytes) + 1) c.behind_first_line.ensures.reads_known

pub returns-in-Err-Refused-clause-unread : goal.returns-in-Err-Refused-clause-unread
returns-in-Err-Refused-clause-unread g c =
    whatever_is_known (g.R.LogReader.left c.args.input.now) (λ bytes. HasNoPlan (read_inputs (before_feed bytes)))
    (λ bytes. g.R.LogReader.calls c.behind_first_line.new.reader ≤ g.R.LogReader.calls c.args.input.now + length (before_feed bytes) + 1) c.behind_first_line.ensures.reads_known

pub returns-clause-unread : goal.returns-clause-unread
returns-clause-unread g c =
    whatever_is_known (g.R.LogReader.left c.args.input.now) (λ bytes. HasNoPlan (read_inputs (before_feed bytes)))
    (λ bytes. g.R.LogReader.calls c.behind_first_line.new.reader ≤ g.R.LogReader.calls c.args.input.now + length (before_feed bytes) + 1) c.behind_first_line.ensures.reads_known

pub returns-in-Err-Refused-clause-reports : goal.returns-in-Err-Refused-clause-reports
returns-in-Err-Refused-clause-reports g c =
    let known = g.R.LogReader.left c.args.input.now in
    let rest = g.R.LogReader.left c.behind_first_line.new.reader in
    let refusal = c.in-Err-Refused.refusal in
    let parts = subst (λ (o : Option Cursor). PartsAtFirst known o rest) c.in-Some.is c.in_ok-lines.ensures.lines in
    let read = subst (λ (e : InputsError). Reads c.line.result.now (Err e)) c.in-Err-Refused.field-0-is c.in-Err-Refused.ensures.exact in
    let refused = refused_parts refusal known rest c.in-Some.lines parts (ap read_inputs (sym c.line.ensures) ∙ read) in
    reports_as c.refuse_inputs-in-Err-Refused.result (λ parts code. (parts ≡ refused_inputs refusal) × (code ≡ 96)) (λ parts code. OfLeft known (λ bytes. StreamComposed bytes parts code))
    (λ _. ⊥) (λ parts. OfLeft known (λ bytes. OfLeft rest (λ behind. StreamGotTo bytes behind parts)))
    (λ parts. parts ≡ refused_inputs refusal) (λ parts. OfLeft known (λ bytes. StreamBegun bytes parts))
    (g.W.ReportWriter.taken c.args.report.now) (g.W.ReportWriter.taken c.refuse_inputs-in-Err-Refused.new.report)
    (refused_stream refusal known refused) (refused_ungot known rest) (refused_begun refusal known refused)
    c.refuse_inputs-in-Err-Refused.ensures.reports

pub returns-clause-reports : goal.returns-clause-reports
returns-clause-reports g c =
    ([], begun_nothing (g.R.LogReader.left c.args.input.now), front_none [] (g.W.ReportWriter.taken c.args.report.now) [])

pub returns-in_default-clause-reports : goal.returns-in_default-clause-reports
returns-in_default-clause-reports g c =
    let known = g.R.LogReader.left c.args.input.now in
    let rest = g.R.LogReader.left c.behind_first_line.new.reader in
    let long = subst (λ (o : Option Cursor). PartsAtFirst known o rest) c.in_default.is c.in_ok-lines.ensures.lines in
    let refused = refused_long known long in
    reports_as c.refuse_inputs.result (λ parts code. (parts ≡ refused_inputs unread.Syntax) × (code ≡ 96)) (λ parts code. OfLeft known (λ bytes. StreamComposed bytes parts code))
    (λ _. ⊥) (λ parts. OfLeft known (λ bytes. OfLeft rest (λ behind. StreamGotTo bytes behind parts)))
    (λ parts. parts ≡ refused_inputs unread.Syntax) (λ parts. OfLeft known (λ bytes. StreamBegun bytes parts))
    (g.W.ReportWriter.taken c.args.report.now) (g.W.ReportWriter.taken c.refuse_inputs.new.report)
    (refused_stream unread.Syntax known refused) (refused_ungot known rest) (refused_begun unread.Syntax known refused)
    c.refuse_inputs.ensures.reports

-- each report is one of which the headline is so
pub returns-in_default-clause-headline : goal.returns-in_default-clause-headline
returns-in_default-clause-headline g c =
    stream_headline (g.R.LogReader.left c.args.input.now) _ _ c.refuse_inputs.result (g.W.ReportWriter.taken c.args.report.now)
    (g.W.ReportWriter.taken c.refuse_inputs.new.report) (returns-in_default-clause-reports g c)

pub returns-in-Ok-clause-headline : goal.returns-in-Ok-clause-headline
returns-in-Ok-clause-headline g c =
    stream_headline (g.R.LogReader.left c.args.input.now) _ _ c.judge_by_table.result (g.W.ReportWriter.taken c.args.report.now)
    (g.W.ReportWriter.taken c.judge_by_table.new.report) (returns-in-Ok-clause-reports g c)

pub returns-in-Err-Refused-clause-headline : goal.returns-in-Err-Refused-clause-headline
returns-in-Err-Refused-clause-headline g c =
    stream_headline (g.R.LogReader.left c.args.input.now) _ _ c.refuse_inputs-in-Err-Refused.result (g.W.ReportWriter.taken c.args.report.now)
    (g.W.ReportWriter.taken c.refuse_inputs-in-Err-Refused.new.report) (returns-in-Err-Refused-clause-reports g c)

-- how near to the line with which it ends it reads
pub returns-in_err-lines-clause-near : goal.returns-in_err-lines-clause-near
returns-in_err-lines-clause-near g c =
    first_line_near (g.R.LogReader.left c.args.input.now) (g.R.LogReader.left c.behind_first_line.new.reader) (g.W.ReportWriter.taken c.args.report.now) (g.W.ReportWriter.taken c.args.report.now)
    c.behind_first_line.ensures.near

pub returns-in_default-clause-near : goal.returns-in_default-clause-near
returns-in_default-clause-near g c =
    first_line_near (g.R.LogReader.left c.args.input.now) (g.R.LogReader.left c.behind_first_line.new.reader) (g.W.ReportWriter.taken c.args.report.now) (g.W.ReportWriter.taken c.refuse_inputs.new.report)
    c.behind_first_line.ensures.near

pub returns-in-Err-Refused-clause-near : goal.returns-in-Err-Refused-clause-near
returns-in-Err-Refused-clause-near g c =
    first_line_near (g.R.LogReader.left c.args.input.now) (g.R.LogReader.left c.behind_first_line.new.reader) (g.W.ReportWriter.taken c.args.report.now) (g.W.ReportWriter.taken c.refuse_inputs-in-Err-Refused.new.report)
    c.behind_first_line.ensures.near

pub returns-clause-near : goal.returns-clause-near
returns-clause-near g c =
    first_line_near (g.R.LogReader.left c.args.input.now) (g.R.LogReader.left c.behind_first_line.new.reader) (g.W.ReportWriter.taken c.args.report.now) (g.W.ReportWriter.taken c.args.report.now)
    c.behind_first_line.ensures.near

pub returns-in-Ok-clause-near : goal.returns-in-Ok-clause-near
returns-in-Ok-clause-near g c =
    let known = g.R.LogReader.left c.args.input.now in
    let rest = g.R.LogReader.left c.behind_first_line.new.reader in
    let lines = c.in-Some.lines in
    let inputs = c.in-Ok.inputs in
    let parts = subst (λ (o : Option Cursor). PartsAtFirst known o rest) c.in-Some.is c.in_ok-lines.ensures.lines in
    let fresh = subst (λ (o : Option Cursor). IfSome o (λ it. it.handed ≡ 0)) c.in-Some.is c.in_ok-lines.ensures.fresh in
    let few = subst (λ (o : Option Cursor). IfSome o (λ it. length it.waiting < READ_LIMIT)) c.in-Some.is c.in_ok-lines.ensures.few in
    let read : read_inputs lines.line ≡ Ok inputs = ap read_inputs (sym c.line.ensures) ∙ c.in-Ok.ensures.exact in
    stream_near inputs known rest (g.R.LogReader.left c.judge_by_table.new.log) (g.W.ReportWriter.taken c.args.report.now) (g.W.ReportWriter.taken c.judge_by_table.new.report) lines
    parts fresh read c.behind_first_line.ensures.near few c.judge_by_table.ensures.near
