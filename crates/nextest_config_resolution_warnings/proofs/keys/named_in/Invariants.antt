use Rattle.std.proofs.Common.{◌≡◌, map, drop}
use Rattle.nextest_config_resolution_warnings.specs.Keys.{seen_row}
use Rattle.nextest_config_resolution_warnings.specs.Places.{named_in}
use Rattle.nextest_config_resolution_warnings.proofs.keys.named_in.Given as goal

-- the key was none so far
abbrev pub invariant-loop-name : goal.invariant-loop-name
invariant-loop-name l = named_in (map seen_row l.rows) l.key ≡ named_in (map seen_row (drop l.name-index l.rows)) l.key
