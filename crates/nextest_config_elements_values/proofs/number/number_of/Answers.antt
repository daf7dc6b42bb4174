use Rattle.std.proofs.Common.{◌≡◌, ◌<◌, ◌∙◌, arith, length}
use Rattle.std.specs.Str.Parse.{digits_value}
use Rattle.std.proofs.lemmas.Bool.Decides.{nat_tests}
use Rattle.nextest_config_elements_values.proofs.Numbers.{whole}
use Rattle.nextest_config_elements_values.proofs.number.number_of.Goals as goal

pub returns : goal.returns
returns c =
    let same : c.loop-digit.number ≡ digits_value 10 c.args.digits.now
    = c.loop-digit.invariant.value ∙ whole c.args.digits.now c.loop-digit.digit-index c.loop-digit-test.false in
    let some : 0 < length c.args.digits.now = grind (arith, nat_tests) in
    (((some, c.requires), (omega (arith, same, c.loop-digit.invariant.fits))), same)
