use Rattle.std.proofs.Common.{rules}
use Rattle.test_runner_core_line_syntax.proofs.Writable.{script_spellable, script_record, start_spellable, start_texts, end_spellable, end_record, stop_spellable}
use Rattle.test_runner_core_line_syntax.proofs.log_line.LogLine.has_spelling.Goals as goal

pub returns-then-is_field : goal.returns-then-is_field
returns-then-is_field c =
    let id = c.in-Script.id in
    let told = c.in-Script.record in
    let plain = rw c.as_str.ensures at (c.is_field.ensures.plain.0 c.if-is_field.true) in
    let utf8 = rw c.as_str.ensures at c.is_field.ensures.utf8 in
    rw c.in-Script.is (
      (λ yes. script_spellable id told plain utf8 (c.record_is_spellable.ensures.0 yes)),
      (λ has. c.record_is_spellable.ensures.1 (script_record id told has)),
    )

pub returns-in-Start : goal.returns-in-Start
returns-in-Start c =
    let binary = c.in-Start.binary in
    let name = c.in-Start.name in
    let plain = rw (c.as_str-in-Start.ensures, c.as_str-in-Start-2.ensures) at c.are_fields.ensures.plain in
    let binary_utf8 = rw c.as_str-in-Start.ensures at c.are_fields.ensures.first_utf8 in
    let name_utf8 = rw c.as_str-in-Start-2.ensures at c.are_fields.ensures.second_utf8 in
    rw c.in-Start.is (
      (λ yes. let texts = plain.0 yes in start_spellable binary name texts.0 binary_utf8 texts.1 name_utf8),
      (λ has. plain.1 (start_texts binary name has)),
    )

pub returns-then-are_fields : goal.returns-then-are_fields
returns-then-are_fields c =
    let binary = c.in-End.binary in
    let name = c.in-End.name in
    let told = c.in-End.record in
    let texts = rw (c.as_str-in-End.ensures, c.as_str-in-End-2.ensures) at (c.are_fields-in-End.ensures.plain.0 c.if-are_fields.true) in
    let binary_utf8 = rw c.as_str-in-End.ensures at c.are_fields-in-End.ensures.first_utf8 in
    let name_utf8 = rw c.as_str-in-End-2.ensures at c.are_fields-in-End.ensures.second_utf8 in
    let spellable = c.record_is_spellable-then-are_fields.ensures in
    rw c.in-End.is (
      (λ yes. end_spellable binary name told texts.0 binary_utf8 texts.1 name_utf8 (spellable.0 yes)),
      (λ has. spellable.1 (end_record binary name told has)),
    )

pub returns-in-Stop : goal.returns-in-Stop
returns-in-Stop c = let stop = stop_spellable c.in-Stop.reason in rw c.in-Stop.is (search (rules, stop))
