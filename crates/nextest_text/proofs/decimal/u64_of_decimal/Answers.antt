use Rattle.std.proofs.Common.{decimal, sym, ◌∙◌}
use Rattle.std.proofs.lemmas.Fmt.{parse-decimal}
use Rattle.nextest_text.proofs.Same.{differs}
use Rattle.nextest_text.proofs.decimal.u64_of_decimal.Goals as goal

pub returns-in_default-clause-none : goal.returns-in_default-clause-none
returns-in_default-clause-none c = λ number fits same.
    c.in_default.not-Ok number (parse-decimal 64 number c.args.text.now c.parse.result fits fits same c.parse.ensures.value.0)

pub returns-else-eq-clause-none : goal.returns-else-eq-clause-none
returns-else-eq-clause-none c = λ number fits same.
    differs decimal c.in-Ok.number number c.parse.result c.format.result.now c.args.text.now c.in-Ok.is
    (parse-decimal 64 number c.args.text.now c.parse.result fits fits same c.parse.ensures.value.0)
    c.format.ensures.text (sym c.eq.ensures ∙ c.if-eq.false) same
