use Rattle.test_runner_core_planning.proofs.Selected.{exactly_the_wanted}
use Rattle.test_runner_core_planning.proofs.laws.selected.Goals as goal

pub returns : goal.returns
returns c = exactly_the_wanted
