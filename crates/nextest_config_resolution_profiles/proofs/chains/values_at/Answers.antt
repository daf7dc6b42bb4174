use Rattle.std.proofs.Common.{Bor, List, map, subst, sym, take, ◌+◌, ap}
use Rattle.nextest_config_resolution_load.specs.Load.{named_of}
use Rattle.nextest_config_resolution_settings.specs.Nearest.{lent_layers}
use Rattle.nextest_config_resolution_profiles.specs.Chains.{AreAt}
use Rattle.nextest_config_resolution_profiles.proofs.Names.{one_lent}
use Rattle.nextest_config_resolution_keys.specs.declared.profile_config.ProfileConfig.{ProfileConfig}
use Rattle.nextest_config_resolution_profiles.proofs.chains.values_at.Goals as goal

pub loop-place-preserved : goal.loop-place-preserved
loop-place-preserved c =
    let all = c.args.profiles.now in
    let places = c.args.places.now in
    let i = c.loop-place.place-index in
    subst (λ vs. AreAt (map named_of all) (take (i + 1) places) (lent_layers vs)) (sym {A = List (Bor ProfileConfig)} c.in_ok-push.ensures.items)
    (one_lent all places i 0 c.loop-place.values.items c.index-profiles-place.result _ c.loop-place-test.true
    (c.requires i 0 c.loop-place-test.true) c.index-profiles-place.is (ap (λ p. p.config) (sym c.index-profiles-place.is)) c.loop-place.invariant)
