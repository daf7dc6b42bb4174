use Rattle.std.proofs.Common.{rules, ◌<◌, ◌^◌}
use Rattle.std.specs.Prelude.{string_bytes}
use Rattle.std.proofs.lemmas.Result.{on_ok_weaker}
use Rattle.test_runner_core_line_syntax.proofs.Writable.{record_parts, record_printed}
use Rattle.test_runner_core_line_syntax.proofs.writing.push_record.Goals as goal

pub returns : goal.returns
returns c =
    let told = c.args.told.now in
    let small : told.nanos < 2 ^ 64 = search rules in
    let nanos = rw c.format.ensures.text at c.in_ok-push_field.ensures in
    on_ok_weaker c.push_output.result (record_printed told (string_bytes c.args.line.now) (string_bytes c.push_result.new.line) (string_bytes c.push_slow.new.line)
    (string_bytes c.push_field.new.line) (string_bytes c.push_output.new.line) (record_parts told c.requires).1 small c.in_ok-push_result.ensures c.in_ok-push_slow.ensures nanos) c.push_output.ensures
