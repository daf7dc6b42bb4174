use Rattle.std.proofs.Common.{◌≡◌, [], ◌∷◌, ◌++◌, take}
use Rattle.nextest_config_elements_toml.specs.Paths.{texts}
use Rattle.nextest_config_elements_deserialize.proofs.values_below.path_below.Given as goal

-- the path in front, and so many of the keys behind it
abbrev pub invariant-loop-inner_key : goal.invariant-loop-inner_key
invariant-loop-inner_key l = l.whole.keys ≡ (texts l.path ++ l.key ∷ []) ++ take l.inner_key-index l.inner.keys
