use Rattle.test_runner_core_settings.proofs.Isolated.{isolated, isolates_scripts, isolates_tests}
use Rattle.test_runner_core_settings.proofs.laws.isolation.Goals as goal

pub returns : goal.returns
returns c = record { run = isolated; tests = isolates_tests; scripts = isolates_scripts }
