use Rattle.std.proofs.Common.{◌≡◌, ◌++◌, length, string_bytes}
use Rattle.hex.specs.Hex.{encode_lower}
use Rattle.test_runner_core_report_lines.specs.Writing.{Extends}
use Rattle.test_runner_core_report_lines.proofs.writing.push_hex.Given as goal

abbrev pub invariant-loop-rest : goal.invariant-loop-rest
invariant-loop-rest l = record {
  whole : string_bytes l.text ++ encode_lower l.rest ≡ string_bytes l.initial.text ++ encode_lower l.bytes;
  kept : Extends (string_bytes l.initial.text) (string_bytes l.text);
}

abbrev pub decreases-loop-rest : goal.decreases-loop-rest
decreases-loop-rest l = length l.rest
