use Rattle.std.proofs.Common.{◌≡◌, ◌++◌, string_bytes, ◌∙◌}
use Rattle.test_runner_core_run_state.specs.Statuses.{script_record_in}
use Rattle.test_runner_core_report_lines.specs.Texts.{script_text}
use Rattle.test_runner_core_report_lines.proofs.Fronts.{all_stands, front_utf8, length_known, nothing_stands}
use Rattle.test_runner_core_report_lines.proofs.report.push_script.Goals as goal

pub all_or_nothing-requires : goal.all_or_nothing-requires
all_or_nothing-requires c = front_utf8 c.args.text.now (string_bytes c.push_script_lines-added.new.text) c.len-length.result (c.len-length.ensures ∙ length_known c.args.text.now) c.push_script_lines-added.ensures.grows

pub returns-clause-ok : goal.returns-clause-ok
returns-clause-ok c =
    all_stands c.push_script_lines-added.result c.all_or_nothing.result (λ new. new ≡ string_bytes c.args.text.now ++ script_text c.args.id.now (script_record_in c.args.status)) c.len-length.result (string_bytes c.push_script_lines-added.new.text) (string_bytes c.all_or_nothing.new.text)
    c.all_or_nothing.ensures.answer c.all_or_nothing.ensures.bytes c.push_script_lines-added.ensures.ok

pub returns-clause-err : goal.returns-clause-err
returns-clause-err c =
    nothing_stands c.push_script_lines-added.result c.all_or_nothing.result c.len-length.result (string_bytes c.args.text.now) (string_bytes c.push_script_lines-added.new.text) (string_bytes c.all_or_nothing.new.text)
    c.all_or_nothing.ensures.answer c.all_or_nothing.ensures.bytes (c.len-length.ensures ∙ length_known c.args.text.now) c.push_script_lines-added.ensures.grows
