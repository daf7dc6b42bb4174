use Rattle.std.proofs.Common.{◌≡◌, ◌<◌, false, length, sym, ap, ◌∙◌, arith}
use Rattle.std.proofs.lemmas.Bool.Decides.{nat_tests}
use Rattle.nextest_config_elements_values.specs.Duration.{is_blank}
use Rattle.nextest_config_elements_values.specs.Ahead.{behind, is_zero}
use Rattle.nextest_config_elements_values.proofs.Nanos.{at_parts}
use Rattle.nextest_config_elements_values.proofs.parse.nanos_in.Goals as goal

pub returns : goal.returns
returns c =
    let rest : c.skip_blanks-rest.result.now ≡ behind is_blank c.args.text.now = c.skip_blanks-rest.ensures ∙ ap (behind is_blank) c.as_bytes.ensures.value in
    let other : is_zero c.skip_blanks-rest.result.now ≡ false = sym c.is_zero.ensures ∙ c.if-is_zero.false in
    let some : 0 < length c.skip_blanks-rest.result.now = grind (arith, nat_tests) in
    let read = c.sum_of_parts in
    at_parts c.args.text.now c.skip_blanks-rest.result.now read.result rest other some read.ensures.found read.ensures.none read.ensures.fits
