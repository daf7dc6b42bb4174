use Rattle.std.specs.Prelude.{codes}
use Rattle.toml.specs.View.{members_view}
use Rattle.nextest_config_elements_toml.specs.Reading.{defaulted}
use Rattle.nextest_config_elements_toml.specs.Paths.{texts}
use Rattle.nextest_config_elements_deserialize.proofs.Failing.{fails_within}
use Rattle.nextest_config_resolution_commands.specs.Commands.{relative_to}
use Rattle.nextest_config_resolution_commands.specs.declared.script_command.ScriptCommandRelativeTo.TheVariants as place
use Rattle.nextest_config_resolution_commands.proofs.reading.command_table.Goals as goal

pub returns-in_err-relative_to : goal.returns-in_err-relative_to
returns-in_err-relative_to c =
    rw (
      ← c.new-members.ensures,
      c.in_ok-line.ensures.read,
      ← c.required_value.ensures.members,
      ← c.no_variables.ensures,
      c.in_ok-env.ensures.read,
      ← c.defaulted_value.ensures.members,
    )
    (fails_within (texts c.args.path.now) c.in_err-relative_to.field-0.0 c.from_residual-in_err-relative_to.result
    (defaulted (codes "relative-to") relative_to place.None (members_view c.defaulted_value.new.members)) _
    c.in_err-relative_to.ensures.read c.from_residual-in_err-relative_to.ensures.1)
