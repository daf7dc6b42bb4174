use Rattle.nextest_config_resolution_scripts.proofs.Accepting.{refused_script_rule}
use Rattle.nextest_config_resolution_scripts.proofs.laws.refused_script_rule.Goals as goal

pub returns : goal.returns
returns c = refused_script_rule c.refused_for.ensures
