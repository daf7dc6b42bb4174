use Rattle.std.proofs.Common.{ap, sym, ◌∙◌, ℤ}
use Rattle.std.proofs.Math.Facts.{to_z-of_z}
use mir.Val.{to_z, of_z}
use Rattle.std.proofs.lemmas.Fmt.{parse-signed_decimal}
use Rattle.std.specs.Fmt.{signed_decimal}
use Rattle.std.specs.Int.{w32}
use Rattle.nextest_text.proofs.Same.{differs, mag_fits}
use Rattle.nextest_text.proofs.decimal.i32_of_decimal.Goals as goal

pub returns-in_default-clause-none : goal.returns-in_default-clause-none
returns-in_default-clause-none c = λ number fits same.
    c.in_default.not-Ok number (parse-signed_decimal w32 number c.args.text.now c.parse.result fits (mag_fits number fits) same c.parse.ensures.value.0)

pub returns-else-eq-clause-none : goal.returns-else-eq-clause-none
returns-else-eq-clause-none c = λ number fits same.
    differs (λ (n : ℤ). signed_decimal (to_z w32 (of_z w32 n))) c.in-Ok.number number c.parse.result c.format.result.now c.args.text.now c.in-Ok.is
    (parse-signed_decimal w32 number c.args.text.now c.parse.result fits (mag_fits number fits) same c.parse.ensures.value.0)
    c.format.ensures.text (sym c.eq.ensures ∙ c.if-eq.false) (same ∙ sym (ap signed_decimal (to_z-of_z fits)))
