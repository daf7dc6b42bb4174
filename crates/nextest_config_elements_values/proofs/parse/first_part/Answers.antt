use Rattle.std.proofs.Common.{ℕ, ◌^◌, ◌<◌, List, sym, subst}
use Rattle.std.specs.Str.Parse.{AllDigits, IsNumeral, digits_value}
use Rattle.nextest_config_elements_values.proofs.Parts.{run_digits, too_large}
use Rattle.nextest_config_elements_values.proofs.parse.first_part.Goals as goal

pub number_of-requires : goal.number_of-requires
number_of-requires c = subst (λ (digits : List ℕ). AllDigits 10 digits) (sym c.split_run.ensures.run) (run_digits c.args.text.now)

pub returns-in_default-clause-none : goal.returns-in_default-clause-none
returns-in_default-clause-none c = λ nanos start.
    too_large c.args.text.now nanos start (λ fits.
    c.in_default.ensures (subst (λ (digits : List ℕ). IsNumeral 10 digits × (digits_value 10 digits < 2 ^ 64)) (sym c.split_run.ensures.run) fits))
