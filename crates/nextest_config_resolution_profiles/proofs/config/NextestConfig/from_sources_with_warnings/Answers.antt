use Rattle.std.proofs.Common.{rules, ℕ, [], Err, append-nil, subst, sym}
use Rattle.nextest_config_resolution_load.specs.Warn.{WarnsAs, warnings_in}
use Rattle.nextest_config_resolution_load.specs.declared.load_error.LoadError.TheVariants as error
use Rattle.nextest_config_resolution_profiles.specs.Whole.{IsSound}
use Rattle.nextest_config_resolution_profiles.proofs.Sound.{sound}
use Rattle.nextest_config_resolution_profiles.proofs.config.NextestConfig.from_sources_with_warnings.Goals as goal

pub invariant_of-result : goal.invariant_of-result
invariant_of-result g c =
    subst (IsSound g.F.Filters.serves_as_default g.F.Filters.asks_groups) (sym c.in_ok-shared-in-Ok.ensures)
    (sound g.met.F.Filters.laws g.S.Specs.is_parsed g.F.Filters.is_too_deep c.args.cx.now c.args.experimental _ c.args.sources.now c.in-Ok.loaded c.in_ok-lowest.ensures c.in-Ok.ensures.loaded
    c.in-Ok.ensures.rises)

-- where there is no memory to share what was loaded, all warnings were told
pub returns-in_err-shared-in-Ok-clause-warnings : goal.returns-in_err-shared-in-Ok-clause-warnings
returns-in_err-shared-in-Ok-clause-warnings g c =
    let all = warnings_in c.args.sources.now in
    let front : WarnsAs {A = ℕ} g.W.ConfigWarnings.has_warned c.args.warnings.now c.load_with_warnings.new.warnings all (Err error.OutOfMemory) = (all, [], sym (append-nil all), c.in-Ok.ensures.warnings) in
    search (rules, front)
