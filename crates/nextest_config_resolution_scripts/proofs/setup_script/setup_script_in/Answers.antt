use Rattle.std.specs.Prelude.{codes}
use Rattle.toml.specs.View.{members_view}
use Rattle.nextest_config_elements_deserialize.specs.Below.{required_by}
use Rattle.nextest_config_elements_toml.specs.Paths.{texts}
use Rattle.nextest_config_elements_deserialize.proofs.Failing.{fails_within}
use Rattle.nextest_config_resolution_commands.specs.Commands.{command_in}
use Rattle.nextest_config_resolution_scripts.proofs.setup_script.setup_script_in.Goals as goal

pub returns-in_err-command : goal.returns-in_err-command
unfolding Rattle.nextest_config_resolution_scripts.specs.Scripts.setup_script_in
returns-in_err-command c =
    rw (
      ← c.new-members.ensures,
      c.in_ok-capture_stderr.ensures.read,
      ← c.defaulted.ensures.members,
      c.in_ok-capture_stdout.ensures.read,
      ← c.defaulted-2.ensures.members,
    )
    (fails_within (texts c.args.path.now) c.in_err-command.field-0.0 c.from_residual-in_err-command.result
    (required_by (codes "command") command_in (members_view c.defaulted-2.new.members)) _ c.in_err-command.ensures.read
    c.from_residual-in_err-command.ensures.1)
