use Rattle.std.proofs.Common.{◌%◌, length}
use Rattle.std.proofs.lemmas.Bool.{eqb-true}
use Rattle.test_runner_core_line_syntax.proofs.Hex.{digits_from_hex, hex_from_digits}
use Rattle.test_runner_core_line_syntax.proofs.hex_bytes.is_hex.Goals as goal

pub returns-then-digits-eq0 : goal.returns-then-digits-eq0
returns-then-digits-eq0 c = (
  (λ yes. hex_from_digits c.args.digits.now c.if-digits-eq0.true (c.are_digits.ensures.0 yes)),
  (λ is. c.are_digits.ensures.1 (digits_from_hex c.args.digits.now is).1),
)

pub returns-else-digits-eq0 : goal.returns-else-digits-eq0
returns-else-digits-eq0 c = (
  (λ yes. absurd (c.if-digits-eq0.false (eqb-true (length c.args.digits.now % 2) 0 yes))),
  (λ is. absurd (c.if-digits-eq0.false (digits_from_hex c.args.digits.now is).0)),
)
