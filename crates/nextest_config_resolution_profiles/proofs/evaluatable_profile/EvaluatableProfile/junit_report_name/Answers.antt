use Rattle.std.proofs.Common.{◌≡◌, ℕ, List, Option, unwrap_or, sym, ap, ◌∙◌, subst}
use Rattle.std.specs.Option.{option_copied}
use Rattle.nextest_config_resolution_keys.specs.Junit.{junit_report_name_fallback}
use Rattle.nextest_config_resolution_keys.specs.Own.{junit_report_name_of}
use Rattle.nextest_config_resolution_settings.specs.Layers.{in_own}
use Rattle.nextest_config_resolution_settings.specs.Profile.{OfProfiles}
use Rattle.nextest_config_resolution_profiles.proofs.evaluatable_profile.EvaluatableProfile.junit_report_name.Goals as goal

pub returns-in-Some : goal.returns-in-Some
returns-in-Some g c =
    let same : unwrap_or (option_copied c.value_of.result) junit_report_name_fallback ≡ c.as_str.result.now =
    ap (λ (found : Option _). unwrap_or (option_copied found) junit_report_name_fallback) c.in-Some.is ∙ sym c.as_str.ensures in
    subst (λ (value : List ℕ). OfProfiles (in_own junit_report_name_of) c.args.self.now.chain junit_report_name_fallback value) same (c.value_of.ensures junit_report_name_fallback)

pub returns-in-None : goal.returns-in-None
returns-in-None g c =
    let same : unwrap_or (option_copied c.value_of.result) junit_report_name_fallback ≡ c.junit_report_name_fallback.result.now =
    ap (λ (found : Option _). unwrap_or (option_copied found) junit_report_name_fallback) c.in-None.is ∙ sym c.junit_report_name_fallback.ensures in
    subst (λ (value : List ℕ). OfProfiles (in_own junit_report_name_of) c.args.self.now.chain junit_report_name_fallback value) same (c.value_of.ensures junit_report_name_fallback)
