use Rattle.std.proofs.Common.{◌≡◌, drop}
use Rattle.std.specs.Option.{option_copied}
use Rattle.nextest_config_resolution_scripts.specs.Defined.{found_behind, script_named}
use Rattle.nextest_config_resolution_scripts.proofs.script_config.script_named.Given as goal

-- what was found so far, and those that are ahead
abbrev pub invariant-loop-script : goal.invariant-loop-script
invariant-loop-script g l = script_named l.scripts l.id ≡ found_behind (drop l.script-index l.scripts) l.id (option_copied l.found)
