use Rattle.std.proofs.Common.{◌≡◌, ℕ, List}
use Rattle.std.specs.List.{flat_map}
use Rattle.std.specs.Prelude.{⊤}
use Rattle.nextest_config_resolution_load.specs.Checks.{not_among, repeated_checks}
use Rattle.nextest_config_resolution_load.specs.Reading.{has_name}
use Rattle.nextest_config_resolution_load.specs.Rules.{has_script}
use Rattle.nextest_config_resolution_load.proofs.NameChecks.{kept_others, passes_others, refuses_others}
use Rattle.nextest_config_resolution_load.proofs.Passing.{passes_behind, passes_on, refuses_before}
use Rattle.nextest_config_resolution_load.proofs.defined.check_repeated.Goals as goal

pub returns-in_err-check_others : goal.returns-in_err-check_others
returns-in_err-check_others g c =
    let Is = g.R.Languages.is_filter c.args.cx.now in
    let IsSpec = g.R.Languages.is_spec in
    let IsTooDeep = g.R.Languages.is_too_deep in
    let path = c.args.path.now in
    let scripts = c.args.config.now.scripts in
    let old = flat_map (λ it. not_among path scripts.wrapper it.id) c.args.config.now.old_scripts in
    let setup = flat_map (λ it. not_among path scripts.wrapper it.id) scripts.setup in
    let names : (name : List ℕ) → has_name c.in_ok-wrappers.wrappers name ≡ has_script scripts.wrapper name = rw c.as_slice.ensures at c.in_ok-wrappers.ensures in
    let told = c.in_err-check_others.field-0.0 in
    passes_on Is IsSpec IsTooDeep (λ _. ⊤) (repeated_checks path c.args.config.now) told c.from_residual-in_err-check_others.result
    (refuses_before Is IsSpec IsTooDeep old setup told
    (refuses_others Is IsSpec IsTooDeep path c.in_ok-wrappers.wrappers scripts.wrapper names c.args.config.now.old_scripts told (rw c.as_slice-2.ensures at c.in_err-check_others.ensures)))
    c.from_residual-in_err-check_others.ensures.1

pub returns : goal.returns
returns g c =
    let Is = g.R.Languages.is_filter c.args.cx.now in
    let IsSpec = g.R.Languages.is_spec in
    let IsTooDeep = g.R.Languages.is_too_deep in
    let path = c.args.path.now in
    let scripts = c.args.config.now.scripts in
    let old = flat_map (λ it. not_among path scripts.wrapper it.id) c.args.config.now.old_scripts in
    let setup = flat_map (λ it. not_among path scripts.wrapper it.id) scripts.setup in
    let names : (name : List ℕ) → has_name c.in_ok-wrappers.wrappers name ≡ has_script scripts.wrapper name = rw c.as_slice.ensures at c.in_ok-wrappers.ensures in
    passes_behind Is IsSpec IsTooDeep (λ _. ⊤) old setup c.check_others-2.result
    (kept_others Is IsSpec IsTooDeep path c.in_ok-wrappers.wrappers scripts.wrapper names c.args.config.now.old_scripts (rw c.as_slice-2.ensures at c.in_ok-check_others.ensures.0))
    (passes_others Is IsSpec IsTooDeep path c.in_ok-wrappers.wrappers scripts.wrapper names scripts.setup c.check_others-2.result (rw c.as_slice-3.ensures at c.check_others-2.ensures))
