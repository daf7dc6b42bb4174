use Rattle.std.proofs.Common.{◌≡◌}
use Rattle.toml.specs.View.{members_view}
use Rattle.nextest_config_resolution_keys.proofs.OneByOne.{with_more}
use Rattle.nextest_config_resolution_scripts.specs.Scripts.{scripts_in}
use Rattle.nextest_config_resolution_scripts.proofs.script_config.scripts_in.Given as goal

-- the scripts so far, and then those that are ahead
abbrev pub invariant-loop-key : goal.invariant-loop-key
invariant-loop-key g l = scripts_in g.T.DeserializeValue.reading (members_view l.table.entries) ≡ with_more l.scripts (scripts_in g.T.DeserializeValue.reading (members_view l.key-iterator))
