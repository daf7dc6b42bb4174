use Rattle.std.proofs.Common.{◌≡◌, ◌∷◌, ◌++◌}
use Rattle.std.specs.Prelude.{codes, string_bytes}
use Rattle.test_runner_core_line_syntax.specs.Spelling.{line_of_fields}
use Rattle.test_runner_core_line_syntax.proofs.Writable.{script_record, script_printed, end_record, end_printed}
use Rattle.test_runner_core_line_syntax.proofs.log_line.LogLine.print.Goals as goal

pub push_record-requires : goal.push_record-requires
push_record-requires c = script_record c.in-Script.id c.in-Script.record (rw c.in-Script.is at c.requires)

pub returns-in_ok-push_record-in-Script : goal.returns-in_ok-push_record-in-Script
returns-in_ok-push_record-in-Script c =
    let id = c.in-Script.id in
    let has = rw c.in-Script.is at c.requires in
    let text = c.in_ok-push_record-in-Script.ensures in
    let line_is = c.in_ok-line-in-Script.ensures.ok in
    let id_behind = c.in_ok-push_field-in-Script.ensures in
    let id_is = c.as_str.ensures in
    let record_is = text.1.2 in
    let record_behind = text.2 in
    let whole : string_bytes c.push_record.new.line ≡ (codes "script" ++ 9 ∷ id) ++ 9 ∷ line_of_fields text.1.0 = cc in
    rw c.in-Script.is (script_printed id c.in-Script.record text.1.0 (string_bytes c.push_record.new.line) has text.1.1 whole)

pub push_record-requires-in-End : goal.push_record-requires-in-End
push_record-requires-in-End c = end_record c.in-End.binary c.in-End.name c.in-End.record (rw c.in-End.is at c.requires)

pub returns-in_ok-push_record-in-End : goal.returns-in_ok-push_record-in-End
returns-in_ok-push_record-in-End c =
    let binary = c.in-End.binary in
    let name = c.in-End.name in
    let has = rw c.in-End.is at c.requires in
    let text = c.in_ok-push_record-in-End.ensures in
    let line_is = c.in_ok-line-in-End.ensures.ok in
    let binary_behind = c.in_ok-push_field-in-End.ensures in
    let name_behind = c.in_ok-push_field-in-End-2.ensures in
    let binary_is = c.as_str-in-End.ensures in
    let name_is = c.as_str-in-End-2.ensures in
    let record_is = text.1.2 in
    let record_behind = text.2 in
    let whole : string_bytes c.push_record-in-End.new.line ≡ ((codes "end" ++ 9 ∷ binary) ++ 9 ∷ name) ++ 9 ∷ line_of_fields text.1.0 = cc in
    rw c.in-End.is (end_printed binary name c.in-End.record text.1.0 (string_bytes c.push_record-in-End.new.line) has text.1.1 whole)
