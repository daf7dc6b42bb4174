use Rattle.std.proofs.Common.{◌≡◌, drop}
use Rattle.toml.specs.View.{items_view}
use Rattle.nextest_config_elements_toml.specs.Reading.{texts_in}
use Rattle.nextest_config_elements_toml.proofs.Texts.{joined}
use Rattle.nextest_config_elements_toml.proofs.list.texts_in.Given as goal

-- the texts so far, and then those that are ahead
abbrev pub invariant-loop-place : goal.invariant-loop-place
invariant-loop-place l =
    texts_in 0 (items_view l.items) ≡ joined l.texts (texts_in l.place-counter (items_view (drop l.place-counter l.items)))
