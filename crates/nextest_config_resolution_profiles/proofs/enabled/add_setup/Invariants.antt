use Rattle.std.proofs.Common.{◌≡◌, ◌||◌, ℕ, List, take}
use Rattle.std.specs.List.{list_any}
use Rattle.std.specs.Str.{bytes_eq}
use Rattle.nextest_config_resolution_profiles.specs.Enabled.{has_name}
use Rattle.nextest_config_resolution_profiles.proofs.enabled.add_setup.Given as goal

-- the names so far are added
abbrev pub invariant-loop-id : goal.invariant-loop-id
invariant-loop-id l = (id : List ℕ) → has_name l.names id ≡ has_name l.fn.names id || list_any (bytes_eq id) (take l.id-index l.ids)
