-- What is run.
use Rattle.std.specs.Prelude.{ℕ, Bool, true, false, List, codes}
use Rattle.nextest_config_elements_choices.specs.declared.run_mode.NextestRunMode.{NextestRunMode}
use Rattle.nextest_config_elements_choices.specs.declared.run_mode.NextestRunMode.TheVariants as mode

-- benchmarks, and no tests
abbrev pub runs_benchmarks : NextestRunMode → Bool
runs_benchmarks mode.Test = false
runs_benchmarks mode.Benchmark = true

-- how a mode prints
abbrev pub text_of : NextestRunMode → List ℕ
text_of mode.Test = codes "test"
text_of mode.Benchmark = codes "benchmark"
