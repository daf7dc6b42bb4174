use Rattle.std.proofs.Common.{Err, Ok, rules, subst}
use Rattle.toml.specs.View.{table_view}
use Rattle.nextest_config_resolution_load.specs.Warn.{warnings_in}
use Rattle.nextest_config_resolution_warnings.specs.Warn.{Warns, WarnsPrefix}
use Rattle.nextest_config_resolution_load.proofs.Sources.{told_all}
use Rattle.nextest_config_resolution_load.proofs.Completing.{completed, early_refused}
use Rattle.nextest_config_resolution_load.proofs.loading.load_with_warnings.Goals as goal

pub returns-in_err-read-clause-loaded : goal.returns-in_err-read-clause-loaded
returns-in_err-read-clause-loaded g c =
    early_refused (g.R.Languages.is_filter c.args.cx.now) g.R.Languages.is_spec g.R.Languages.is_too_deep c.args.features (table_view c.args.built_in.now) c.args.sources.now c.in_err-read.field-0.0
    c.from_residual.result c.in_err-read.ensures.read c.from_residual.ensures.1

pub returns-in_ok-tell-in-Ok-clause-loaded : goal.returns-in_ok-tell-in-Ok-clause-loaded
returns-in_ok-tell-in-Ok-clause-loaded g c =
    completed (g.R.Languages.is_filter c.args.cx.now) g.R.Languages.is_spec g.R.Languages.is_too_deep c.args.features (table_view c.args.built_in.now) c.args.sources.now c.in_ok-read.read
    c.in_ok-read.ensures.read.0 c.in_ok-read.ensures.read.1 (Ok c.in-Ok.config) c.in-Ok.ensures

pub returns-in-Err-clause-loaded : goal.returns-in-Err-clause-loaded
returns-in-Err-clause-loaded g c =
    completed (g.R.Languages.is_filter c.args.cx.now) g.R.Languages.is_spec g.R.Languages.is_too_deep c.args.features (table_view c.args.built_in.now) c.args.sources.now c.in_ok-read.read
    c.in_ok-read.ensures.read.0 c.in_ok-read.ensures.read.1 (Err c.in-Err.error) c.in-Err.ensures

pub returns-in_ok-tell-in-Ok-clause-warnings : goal.returns-in_ok-tell-in-Ok-clause-warnings
returns-in_ok-tell-in-Ok-clause-warnings g c =
    let all = told_all c.new.result c.read_sources.new.kept c.unwrap_or-told.result c.new-in-Ok.result (warnings_in c.args.sources.now) c.new.ensures c.in_ok-read.ensures.kept c.unwrap_or-told.ensures in
    subst (Warns g.W.ConfigWarnings.has_warned c.args.warnings.now c.tell.new.warnings) all c.in_ok-tell-in-Ok.ensures.ok

pub returns-in_err-tell-in-Ok-clause-warnings : goal.returns-in_err-tell-in-Ok-clause-warnings
returns-in_err-tell-in-Ok-clause-warnings g c =
    let has_warned = g.W.ConfigWarnings.has_warned in
    let all = told_all c.new.result c.read_sources.new.kept c.unwrap_or-told.result c.new-in-Ok.result (warnings_in c.args.sources.now) c.new.ensures c.in_ok-read.ensures.kept c.unwrap_or-told.ensures in
    let front : WarnsPrefix has_warned c.args.warnings.now c.tell.new.warnings (warnings_in c.args.sources.now) =
    subst (WarnsPrefix has_warned c.args.warnings.now c.tell.new.warnings) all c.in_err-tell-in-Ok.ensures.err in
    search (rules, front)
