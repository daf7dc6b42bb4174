use Rattle.test_runner_core_line_syntax.proofs.Hex.{hex_again, hex_spells}
use Rattle.test_runner_core_line_syntax.proofs.hex_digits.HexDigits.parse.Goals as goal

pub invariant_of-result : goal.invariant_of-result
invariant_of-result c = record { spelled = hex_again c.args.field.now (rw c.as_bytes.ensures.value at (c.is_hex.ensures.0 c.if-is_hex.true)) }

pub returns-then-is_hex : goal.returns-then-is_hex
returns-then-is_hex c = hex_spells c.args.field.now (hex_again c.args.field.now (rw c.as_bytes.ensures.value at (c.is_hex.ensures.0 c.if-is_hex.true)))
