use Rattle.std.proofs.Common.{sym}
use Rattle.nextest_config_elements_values.proofs.Nanos.{no_nanos}
use Rattle.nextest_config_elements_values.proofs.parse.parse_duration.Goals as goal

pub returns-in-None-clause-refused : goal.returns-in-None-clause-refused
returns-in-None-clause-refused c = λ nanos. no_nanos c.args.text.now nanos (sym c.in-None.ensures)
