use Rattle.std.proofs.Common.{◌≡◌, ◌+◌, ◌++◌, drop, string_bytes}
use Rattle.test_runner_core_report_lines.specs.Texts.{try_lines}
use Rattle.test_runner_core_report_lines.specs.Writing.{Extends}
use Rattle.test_runner_core_report_lines.proofs.lines.push_attempts.Given as goal

abbrev pub invariant-loop-ended : goal.invariant-loop-ended
invariant-loop-ended l = record {
  count : l.number ≡ l.ended-index;
  whole : string_bytes l.text ++ try_lines (l.ended-index + 1) (drop l.ended-index l.records) ≡ string_bytes l.initial.text ++ try_lines 1 l.records;
  kept : Extends (string_bytes l.initial.text) (string_bytes l.text);
}
