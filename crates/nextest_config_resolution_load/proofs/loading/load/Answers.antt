use Rattle.toml.specs.View.{table_view}
use Rattle.nextest_config_resolution_load.proofs.Completing.{completed, early_refused}
use Rattle.nextest_config_resolution_load.proofs.loading.load.Goals as goal

pub returns-in_err-read-clause-loaded : goal.returns-in_err-read-clause-loaded
returns-in_err-read-clause-loaded g c =
    early_refused (g.R.Languages.is_filter c.args.cx.now) g.R.Languages.is_spec g.R.Languages.is_too_deep c.args.features (table_view c.args.built_in.now) c.args.sources.now c.in_err-read.field-0.0
    c.from_residual.result c.in_err-read.ensures.read c.from_residual.ensures.1

pub returns-clause-loaded : goal.returns-clause-loaded
returns-clause-loaded g c =
    completed (g.R.Languages.is_filter c.args.cx.now) g.R.Languages.is_spec g.R.Languages.is_too_deep c.args.features (table_view c.args.built_in.now) c.args.sources.now c.in_ok-read.read
    c.in_ok-read.ensures.read.0 c.in_ok-read.ensures.read.1 c.accepted.result c.accepted.ensures
