use Rattle.std.specs.Prelude.{⊤}
use Rattle.nextest_config_resolution_load.specs.Reading.{has_name}
use Rattle.nextest_config_resolution_load.specs.Rules.{wrapper_check, wrapper_checks}
use Rattle.nextest_config_resolution_load.proofs.Passing.{passes_behind, passes_on, refuses_before}
use Rattle.nextest_config_resolution_load.proofs.named_scripts.check_both.Goals as goal

pub returns-in_err-check_wrapper : goal.returns-in_err-check_wrapper
returns-in_err-check_wrapper g c =
    let Is = g.R.Languages.is_filter c.args.cx.now in
    let IsSpec = g.R.Languages.is_spec in
    let IsTooDeep = g.R.Languages.is_too_deep in
    let known = has_name c.args.names.now in
    let rule = c.args.rule.now in
    let told = c.in_err-check_wrapper.field-0.0 in
    passes_on Is IsSpec IsTooDeep (λ _. ⊤) (wrapper_checks known rule) told c.from_residual.result
    (refuses_before Is IsSpec IsTooDeep (wrapper_check known rule.id rule.config.list_wrapper) (wrapper_check known rule.id rule.config.run_wrapper) told c.in_err-check_wrapper.ensures)
    c.from_residual.ensures.1

pub returns : goal.returns
returns g c =
    let Is = g.R.Languages.is_filter c.args.cx.now in
    let known = has_name c.args.names.now in
    let rule = c.args.rule.now in
    passes_behind Is g.R.Languages.is_spec g.R.Languages.is_too_deep (λ _. ⊤) (wrapper_check known rule.id rule.config.list_wrapper) (wrapper_check known rule.id rule.config.run_wrapper)
    c.check_wrapper-2.result c.in_ok-check_wrapper.ensures.0 c.check_wrapper-2.ensures
