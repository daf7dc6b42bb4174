use Rattle.std.proofs.Common.{◌≡◌, ◌++◌, take}
use Rattle.nextest_config_elements_toml.specs.Paths.{texts}
use Rattle.nextest_config_elements_toml.proofs.key_path.push_keys.Given as goal

abbrev pub invariant-loop-key : goal.invariant-loop-key
invariant-loop-key l = l.keys ≡ l.fn.keys ++ texts (take l.key-index l.more)
