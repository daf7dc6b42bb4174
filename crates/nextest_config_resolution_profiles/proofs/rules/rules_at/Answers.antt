use Rattle.std.proofs.Common.{sym, ◌∙◌}
use Rattle.nextest_config_resolution_profiles.proofs.Names.{name_is}
use Rattle.nextest_config_resolution_profiles.proofs.Ruled.{ruled_more}
use Rattle.nextest_config_resolution_profiles.specs.Early.{in_profile}
use Rattle.nextest_config_resolution_profiles.proofs.rules.rules_at.Goals as goal

pub loop-place-preserved : goal.loop-place-preserved
loop-place-preserved g c =
    let profiles = c.args.profiles.now in
    let places = c.args.places.now in
    let i = c.loop-place.place-index in
    let it = c.index-profiles-place.result in
    ruled_more (in_profile g.P.InProfile.profile_of) profiles places i 0 c.args.all.now _ _ _ c.loop-place-test.true
    (c.as_str.ensures ∙ sym (name_is profiles _ it (c.requires i 0 c.loop-place-test.true)))
    c.loop-place.invariant c.in_ok-push_profile.ensures
