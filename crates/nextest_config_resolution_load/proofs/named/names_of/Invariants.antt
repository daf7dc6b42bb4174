use Rattle.std.proofs.Common.{◌≡◌, ℕ, List, take}
use Rattle.std.specs.List.{list_any}
use Rattle.std.specs.Str.{bytes_eq}
use Rattle.nextest_config_resolution_load.specs.Reading.{has_name}
use Rattle.nextest_config_resolution_load.proofs.named.names_of.Given as goal

-- the names so far
abbrev pub invariant-loop-it : goal.invariant-loop-it
invariant-loop-it g l = (name : List ℕ) → has_name l.names name ≡ list_any (λ it. bytes_eq name (g.T.Named.name_of it)) (take l.it-index l.all)
