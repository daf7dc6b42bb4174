use Rattle.std.proofs.Common.{inl, refl, sym, subst}
use Rattle.std.specs.List.{AllByRecursion}
use Rattle.nextest_config_elements_toml.specs.Reading.{Reading}
use Rattle.nextest_config_resolution_load.specs.Checks.{bad_merged, config_in, MergedConfig, value_checks}
use Rattle.nextest_config_resolution_load.specs.Load.{BreaksFirst, IsKept}
use Rattle.nextest_config_resolution_load.specs.Reading.{values_of}
use Rattle.nextest_config_resolution_load.proofs.Configs.{seen_refused}
use Rattle.nextest_config_resolution_load.proofs.loading.read_tree.Goals as goal

pub returns-in-Ok-clause-read : goal.returns-in-Ok-clause-read
returns-in-Ok-clause-read g c top lists =
    let is = c.in-Ok.ensures.read top lists in
    (subst (λ (reading : Reading MergedConfig). AllByRecursion (IsKept (g.R.Languages.is_filter c.args.cx.now) g.R.Languages.is_spec) (value_checks bad_merged reading)) (sym is) tt, is)

pub returns-in-Err-Refused-clause-read : goal.returns-in-Err-Refused-clause-read
returns-in-Err-Refused-clause-read g c top lists =
    let bad = c.in-Err-Refused in
    subst (λ (reading : Reading MergedConfig). BreaksFirst (g.R.Languages.is_filter c.args.cx.now) g.R.Languages.is_spec g.R.Languages.is_too_deep (value_checks bad_merged reading)
    (bad_merged bad.value.path.keys))
    (sym (seen_refused values_of (config_in top) bad.field-0 bad.value bad.field-0-is (bad.ensures.read top lists))) (inl refl)
