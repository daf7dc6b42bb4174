use Rattle.std.proofs.Common.{◌≡◌, Option, unwrap_or, sym, ap, ◌∙◌, subst}
use Rattle.std.specs.Option.{option_copied}
use Rattle.nextest_config_elements_identifiers.specs.declared.test_group.TestGroup.{TestGroup}
use Rattle.nextest_config_resolution_overrides.specs.RuleKeys.{test_group_of}
use Rattle.nextest_config_resolution_overrides.specs.Schedule.{test_group_fallback}
use Rattle.nextest_config_resolution_settings.specs.Layers.{layers_in}
use Rattle.nextest_config_resolution_settings.specs.TestSettings.{group_of}
use Rattle.nextest_config_resolution_settings.specs.Tracked.{IsRuleSetting}
use Rattle.nextest_config_resolution_settings.proofs.tracking.test_group_by.Goals as goal

pub returns-in-Some : goal.returns-in-Some
returns-in-Some g c =
    let same : unwrap_or (option_copied c.found_by-source.result.0) test_group_fallback ≡ group_of c.new.result =
    ap (λ (found : Option _). unwrap_or (option_copied found) test_group_fallback) c.in-Some.is ∙ sym c.new.ensures in
    subst (λ (value : TestGroup). IsRuleSetting g.T.TrackSource.tells (layers_in c.args.layers) test_group_of test_group_fallback (value, c.found_by-source.result.1))
    same (c.found_by-source.ensures test_group_fallback)

pub returns-in-None : goal.returns-in-None
returns-in-None g c =
    let same : unwrap_or (option_copied c.found_by-source.result.0) test_group_fallback ≡ test_group_fallback =
    ap (λ (found : Option _). unwrap_or (option_copied found) test_group_fallback) c.in-None.is in
    subst (λ (value : TestGroup). IsRuleSetting g.T.TrackSource.tells (layers_in c.args.layers) test_group_of test_group_fallback (value, c.found_by-source.result.1))
    same (c.found_by-source.ensures test_group_fallback)
