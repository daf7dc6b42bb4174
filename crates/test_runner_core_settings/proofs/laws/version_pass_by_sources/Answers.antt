use Rattle.test_runner_core_settings.proofs.Passing.{passes_by_config, refused_by_source}
use Rattle.test_runner_core_settings.proofs.laws.version_pass_by_sources.Goals as goal

pub returns : goal.returns
returns c = record { judged = passes_by_config; refused = refused_by_source }
