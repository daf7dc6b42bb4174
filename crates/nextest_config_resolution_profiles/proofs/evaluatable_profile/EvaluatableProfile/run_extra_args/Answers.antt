use Rattle.std.proofs.Common.{◌≡◌, ℕ, List, [], Option, unwrap_or, sym, ap, ◌∙◌, subst}
use Rattle.std.specs.Option.{option_copied}
use Rattle.nextest_config_resolution_keys.specs.Command.{run_extra_args_of}
use Rattle.nextest_config_resolution_keys.specs.Command.{run_extra_args_fallback}
use Rattle.nextest_config_resolution_settings.specs.Layers.{in_command}
use Rattle.nextest_config_resolution_settings.specs.Profile.{OfProfiles}
use Rattle.nextest_config_resolution_profiles.proofs.evaluatable_profile.EvaluatableProfile.run_extra_args.Goals as goal

pub returns-in-Some : goal.returns-in-Some
returns-in-Some g c =
    let same : unwrap_or (option_copied c.value_of.result) run_extra_args_fallback ≡ c.as_slice.result.now =
    ap (λ (found : Option _). unwrap_or (option_copied found) run_extra_args_fallback) c.in-Some.is ∙ sym c.as_slice.ensures in
    subst (λ (value : List (List ℕ)). OfProfiles (in_command run_extra_args_of) c.args.self.now.chain run_extra_args_fallback value) same (c.value_of.ensures run_extra_args_fallback)

pub returns-in-None : goal.returns-in-None
returns-in-None g c =
    let same : unwrap_or (option_copied c.value_of.result) run_extra_args_fallback ≡ [] =
    ap (λ (found : Option _). unwrap_or (option_copied found) run_extra_args_fallback) c.in-None.is in
    subst (λ (value : List (List ℕ)). OfProfiles (in_command run_extra_args_of) c.args.self.now.chain run_extra_args_fallback value) same (c.value_of.ensures run_extra_args_fallback)
