use Rattle.std.proofs.Common.{◌↔◌, take}
use Rattle.std.specs.Prelude.{IsTrue}
use Rattle.std.specs.List.{All}
use Rattle.test_runner_core_line_syntax.specs.Hex.{IsDigit}
use Rattle.test_runner_core_line_syntax.proofs.hex_bytes.are_digits.Given as goal

abbrev pub invariant-loop-byte : goal.invariant-loop-byte
invariant-loop-byte l = IsTrue l.so_far ↔ All IsDigit (take l.byte-index l.bytes)
