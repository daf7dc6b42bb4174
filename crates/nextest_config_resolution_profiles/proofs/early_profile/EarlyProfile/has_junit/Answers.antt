use Rattle.std.proofs.Common.{◌≡◌, ap, subst, ◌∙◌}
use Rattle.nextest_config_resolution_profiles.specs.Early.{Early}
use Rattle.nextest_config_resolution_profiles.proofs.early_profile.EarlyProfile.has_junit.Goals as goal
use Rattle.nextest_config_resolution_settings.specs.Layers.{in_own}
use Rattle.nextest_config_resolution_settings.specs.Nearest.{IsNearest, lent_layers}
use Rattle.nextest_config_resolution_keys.specs.Own as own_key

pub returns-in-Some-clause-yes : goal.returns-in-Some-clause-yes
returns-in-Some-clause-yes g c =
    let same : lent_layers c.as_slice.result.now ≡ c.args.self.now.chain = ap lent_layers c.as_slice.ensures.value ∙ ap (λ (it : Early g.row.F.Denot g.row.S.Denot). it.chain) c.self.view_is in
    let place = c.in-Some.field-0.0 in
    let path = c.in-Some.field-0.1.now in
    (place, path, subst (λ chain. IsNearest (in_own own_key.junit_path_of) chain place path) same c.in-Some.ensures.found)
