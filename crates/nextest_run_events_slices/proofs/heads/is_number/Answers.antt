use Rattle.std.proofs.Common.{◌≡◌, ◌<◌, ℕ, List, length, sym, ◌∙◌, subst, ap, arith, not}
use Rattle.std.proofs.lemmas.Bool.{false≢true}
use Rattle.std.proofs.lemmas.Bool.Decides.{nat_tests}
use Rattle.std.specs.List.{All}
use Rattle.ucd_category.specs.GeneralCategory.{general_category}
use Rattle.ucd_category.specs.declared.GeneralCategory.TheVariants.{DecimalNumber}
use Rattle.std.specs.Str.{chars}
use Rattle.nextest_run_events_slices.proofs.Numbers.{number_of, digits_of, some_of}
use Rattle.nextest_run_events_slices.proofs.heads.is_number.Goals as goal

pub returns-then-not-is_empty : goal.returns-then-not-is_empty
returns-then-not-is_empty c =
    let same : c.in-Ok.digits.now ≡ c.args.text.now = c.in-Ok.ensures.cases.0 in
    let equal : length c.in-Ok.digits.now ≡ length c.args.text.now = ap length same in
    let long : 0 < length c.args.text.now = grind (arith, nat_tests) in (
      λ yes. number_of c.args.text.now c.in-Ok.ensures.cases.1 long (subst (λ (bytes : List ℕ). All (λ d. general_category d ≡ DecimalNumber) (chars bytes)) same (c.are_digits.ensures.0 yes)),
      λ is. c.are_digits.ensures.1 (subst (λ (bytes : List ℕ). All (λ d. general_category d ≡ DecimalNumber) (chars bytes)) (sym same) (digits_of c.args.text.now is)),
    )

pub returns-else-not-is_empty : goal.returns-else-not-is_empty
returns-else-not-is_empty c =
    let same : c.in-Ok.digits.now ≡ c.args.text.now = c.in-Ok.ensures.cases.0 in
    let equal : length c.in-Ok.digits.now ≡ length c.args.text.now = ap length same in
    let none : length c.args.text.now ≡ 0 = grind (arith, nat_tests) in
    (λ yes. absurd (false≢true (ap not (sym c.if-not-is_empty.false) ∙ yes)), λ is. absurd (omega (arith, some_of c.args.text.now is)))
