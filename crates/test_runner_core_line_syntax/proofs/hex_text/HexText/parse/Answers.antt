use Rattle.std.proofs.Common.{sym, subst}
use Rattle.std.specs.Str.{IsUtf8}
use Rattle.std.proofs.lemmas.Bool.{both_ways}
use Rattle.std.proofs.lemmas.Str.{is_utf8-from_IsUtf8}
use Rattle.test_runner_core_line_syntax.specs.Lent.{digits_meant}
use Rattle.test_runner_core_line_syntax.proofs.Hex.{hex_bytes}
use Rattle.test_runner_core_line_syntax.proofs.hex_text.HexText.parse.Goals as goal

pub is_text-requires : goal.is_text-requires
is_text-requires c = rw c.as_bytes.ensures.value (digits_meant c.in_ok-hex.hex, c.in_ok-hex.ensures)

pub invariant_of-result : goal.invariant_of-result
invariant_of-result c =
    let says = rw c.as_bytes.ensures.value at c.is_text.ensures in
    record { utf8 = is_utf8-from_IsUtf8 _ (subst IsUtf8 (hex_bytes (digits_meant c.in_ok-hex.hex) c.args.field.now c.in_ok-hex.ensures) (says.0 c.if-is_text.true)) }

pub returns-else-is_text : goal.returns-else-is_text
returns-else-is_text c =
    let says = rw c.as_bytes.ensures.value at c.is_text.ensures in
    λ other spelled.
    both_ways c.is_text.result c.if-is_text.false (says.1 (subst IsUtf8 (sym (hex_bytes other c.args.field.now spelled.1)) spelled.0))
