use Rattle.std.proofs.Common.{◌≡◌}
use Rattle.toml.specs.View.{members_view}
use Rattle.nextest_config_resolution_commands.specs.Commands.{variables_in}
use Rattle.nextest_config_resolution_commands.proofs.Listed.{joined}
use Rattle.nextest_config_resolution_commands.proofs.variables.variables_in.Given as goal

-- the variables so far, and then those that are ahead
abbrev pub invariant-loop-name : goal.invariant-loop-name
invariant-loop-name l = variables_in (members_view l.table.entries) ≡ joined l.variables (variables_in (members_view l.name-iterator))
