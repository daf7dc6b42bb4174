use Rattle.std.proofs.Common.{◌∙◌}
use Rattle.nextest_config_elements_values.specs.Duration.{units}
use Rattle.nextest_config_elements_values.proofs.Halves.{look_front, look_rest}
use Rattle.nextest_config_elements_values.proofs.units.unit_nanos.Goals as goal

pub returns-in-Some : goal.returns-in-Some
returns-in-Some c = look_front 5 units c.args.word.now c.in-Some.nanos c.in-Some.ensures

pub returns : goal.returns
returns c = c.long_unit_nanos.ensures ∙ look_rest 5 units c.args.word.now c.in_default.ensures
