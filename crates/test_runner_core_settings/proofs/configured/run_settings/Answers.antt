use Rattle.std.proofs.Common.{ℕ, List, Option, refl, ap, ◌∙◌, subst}
use Rattle.std.specs.Option.{option_map, unwrap_or}
use Rattle.std.proofs.lemmas.Result.{err_from_is_err_and}
use Rattle.nextest_config_resolution_profiles.specs.Config.{IsEarly}
use Rattle.nextest_config_resolution_profiles.specs.Evaluatable.{IsPutOn}
use Rattle.nextest_config_resolution_profiles.specs.Platforms.{built_for}
use Rattle.test_runner_core_platforms.specs.Facts.{Facts}
use Rattle.test_runner_core_settings.specs.Platforms.{facts_of, platforms_of}
use Rattle.test_runner_core_settings.proofs.Alike.{value_on}
use Rattle.test_runner_core_settings.proofs.Chosen.{chosen_run, host_repeats, never_chosen, none_repeats, refused_host, refused_target, repeats_or_lacks, target_repeats}
use Rattle.test_runner_core_settings.proofs.configured.run_settings.Goals as goal

pub returns-in_err-early : goal.returns-in_err-early
returns-in_err-early c =
    let p = err_from_is_err_and c.from_residual.result c.from_residual.ensures.1 in
    rw (p.1, p.2) (λ cx reads. never_chosen cx c.args.inputs.now c.args.config.now c.as_str.result.now c.in_err-early.field-0.0 reads c.as_str.ensures c.in_err-early.ensures.exact)

pub returns-in_err-host : goal.returns-in_err-host
returns-in_err-host c =
    let inputs = c.args.inputs.now in
    let config = c.args.config.now in
    let early = c.in_ok-early.early in
    let error = c.in_err-host.field-0.0 in
    let p = err_from_is_err_and c.from_residual-in_err-host.result c.from_residual-in_err-host.ensures.1 in
    let found = subst (λ (name : List ℕ). IsEarly config name early) c.as_str.ensures c.in_ok-early.ensures.exact in
    rw (p.1, p.2) (λ cx reads. repeats_or_lacks cx inputs config reads early found error (λ e. host_repeats inputs (refused_host inputs.host error c.in_err-host.ensures e)))

pub returns-in_err-target : goal.returns-in_err-target
returns-in_err-target c =
    let inputs = c.args.inputs.now in
    let config = c.args.config.now in
    let early = c.in_ok-early.early in
    let error = c.in_err-target.field-0.0 in
    let p = err_from_is_err_and c.from_residual-in_err-target.result c.from_residual-in_err-target.ensures.1 in
    let found = subst (λ (name : List ℕ). IsEarly config name early) c.as_str.ensures c.in_ok-early.ensures.exact in
    rw (p.1, p.2) (λ cx reads. repeats_or_lacks cx inputs config reads early found error (λ e. target_repeats inputs c.in_ok-host.ensures.1 (refused_target inputs.target error c.in_err-target.ensures e)))

pub returns : goal.returns
returns c = λ cx reads.
    let inputs = c.args.inputs.now in
    let config = c.args.config.now in
    let early = c.in_ok-early.early in
    let platforms = c.platforms_of-platforms.result in
    let profile = c.apply_build_platforms-profile.result in
    let settings = c.in_ok-settings.settings in
    let found = subst (λ (name : List ℕ). IsEarly config name early) c.as_str.ensures c.in_ok-early.ensures.exact in
    let host = c.platforms_of-platforms.ensures.host ∙ c.in_ok-host.ensures.0 in
    let target = c.platforms_of-platforms.ensures.target ∙ ap (λ (it : Option Facts). unwrap_or it c.in_ok-host.host) c.in_ok-target.ensures.0
    ∙ ap (λ (it : Facts). unwrap_or (option_map facts_of inputs.target) it) c.in_ok-host.ensures.0 in
    let on = subst (λ (it : Facts). IsPutOn value_on (platforms_of inputs).host it early profile) target
    (subst (λ (it : Facts). IsPutOn value_on it (built_for platforms) early profile) host c.apply_build_platforms-profile.ensures) in
    chosen_run cx inputs config reads early found profile on (record { settings = settings; profile = profile }) refl
    (none_repeats inputs c.in_ok-host.ensures.1 c.in_ok-target.ensures.1) c.in_ok-settings.ensures.text c.in_ok-settings.ensures.limits
    (c.in_ok-settings.ensures.groups ∙ c.in_ok-known_groups.ensures)
