use Rattle.std.specs.Prelude.{codes}
use Rattle.toml.specs.View.{members_view}
use Rattle.nextest_config_elements_choices.specs.declared.timeouts.SlowTimeoutResult.TheVariants as slow
use Rattle.nextest_config_elements_toml.specs.Reading.{required, defaulted}
use Rattle.nextest_config_elements_deserialize.specs.Values.{positive_duration}
use Rattle.nextest_config_elements_deserialize.specs.Words.{slow_result}
use Rattle.nextest_config_elements_toml.specs.Paths.{texts}
use Rattle.nextest_config_elements_deserialize.proofs.Failing.{fails_within}
use Rattle.nextest_config_elements_deserialize.proofs.timeouts.slow_in.Goals as goal

pub returns-in_err-on_timeout : goal.returns-in_err-on_timeout
returns-in_err-on_timeout c =
    rw (← c.new-members.ensures, ← c.default_grace_period.ensures, c.in_ok-grace_period.ensures.read, ← c.defaulted.ensures.members)
    (fails_within (texts c.args.path.now) c.in_err-on_timeout.field-0.0 c.from_residual-in_err-on_timeout.result
    (defaulted (codes "on-timeout") slow_result slow.Fail (members_view c.defaulted.new.members)) _
    c.in_err-on_timeout.ensures.read c.from_residual-in_err-on_timeout.ensures.1)

pub returns-in_err-period : goal.returns-in_err-period
returns-in_err-period c =
    rw (
      ← c.new-members.ensures,
      ← c.default_grace_period.ensures,
      c.in_ok-grace_period.ensures.read,
      ← c.defaulted.ensures.members,
      c.in_ok-on_timeout.ensures.read,
      ← c.defaulted-2.ensures.members,
    )
    (fails_within (texts c.args.path.now) c.in_err-period.field-0.0 c.from_residual-in_err-period.result
    (required (codes "period") positive_duration (members_view c.defaulted-2.new.members)) _
    c.in_err-period.ensures.read c.from_residual-in_err-period.ensures.1)
