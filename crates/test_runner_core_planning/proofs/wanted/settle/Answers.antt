use Rattle.std.proofs.Common.{Err, sym, ap, subst, ◌∙◌}
use Rattle.std.proofs.lemmas.Result.{err_from_is_err_and}
use Rattle.nextest_filtering_compiling.specs.Context.{Context}
use Rattle.test_runner_core_settings.specs.Calls.{Configures}
use Rattle.test_runner_core_settings.specs.Pass.{features_by}
use Rattle.test_runner_core_settings.specs.Sets.{Reads}
use Rattle.test_runner_core_planning.specs.Inside.{IsPassed}
use Rattle.test_runner_core_planning.proofs.Building.{all_warnings, settles_configuration, settles_versions, settles_workspace}
use Rattle.test_runner_core_planning.proofs.wanted.settle.Goals as goal

pub returns-in_err-check : goal.returns-in_err-check
returns-in_err-check c =
    let p = err_from_is_err_and c.from_residual.result c.from_residual.ensures.1 in
    rw (p.1, p.2) (settles_workspace c.args.inputs.now c.in_err-check.field-0.0 c.in_err-check.ensures.exact)

pub returns-in_err-warnings : goal.returns-in_err-warnings
returns-in_err-warnings c =
    let p = err_from_is_err_and c.from_residual-in_err-warnings.result c.from_residual-in_err-warnings.ensures.1 in
    rw (p.1, p.2) (settles_versions c.args.inputs.now c.in_err-warnings.field-0.0 c.in_ok-check.ensures.exact c.in_err-warnings.ensures.exact)

pub returns-in_err-config : goal.returns-in_err-config
returns-in_err-config c =
    let inputs = c.args.inputs.now in
    let p = err_from_is_err_and c.from_residual-in_err-config.result c.from_residual-in_err-config.ensures.1 in
    let passed = c.in_ok-warnings.field-0 in
    let of : IsPassed inputs = record { workspace = c.in_ok-check.ensures.exact; passed = passed; passes = c.in_ok-warnings.ensures.exact } in
    rw (p.1, p.2) (settles_configuration inputs c.in_err-config.field-0.0 of
    (subst (λ (cx : Context). Configures cx inputs (Err c.in_err-config.field-0.0)) c.in_ok-cx.ensures
    (c.in_err-config.ensures (sym (ap features_by c.in_ok-warnings.ensures.exact)))))

pub returns : goal.returns
returns c =
    let inputs = c.args.inputs.now in
    let passed = c.in_ok-warnings.field-0 in
    let configured = c.in_ok-config.field-0 in
    let configures = c.in_ok-config.ensures (sym (ap features_by c.in_ok-warnings.ensures.exact)) in (
      record {
        passed = record { workspace = c.in_ok-check.ensures.exact; passed = passed; passes = c.in_ok-warnings.ensures.exact };
        reads = subst (λ (cx : Context). Reads cx inputs configured.config) c.in_ok-cx.ensures configures.0;
      },
      c.in_ok-joined.ensures ∙ all_warnings inputs passed configured.warnings c.in_ok-warnings.ensures.exact configures.1,
      c.in_ok-cx.ensures,
    )
