use Rattle.std.proofs.Common.{◌≡◌, ℕ, ◌<◌, true, get_or}
use Rattle.nextest_config_elements_values.specs.Class.{is_of}
use Rattle.nextest_config_elements_values.proofs.runs.split_run.Given as goal

abbrev pub invariant-loop-index : goal.invariant-loop-index
invariant-loop-index l = (k : ℕ) → k < l.index → is_of l.class (get_or l.text k 0) ≡ true
