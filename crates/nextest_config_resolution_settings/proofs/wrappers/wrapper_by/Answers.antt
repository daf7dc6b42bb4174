use Rattle.std.proofs.Common.{Bor, ap, inl, subst, sym}
use Rattle.nextest_config_resolution_scripts.specs.declared.script_rule.PlacedScriptRule.{PlacedScriptRule}
use Rattle.nextest_config_resolution_settings.specs.Nearest.{a_script_rule}
use Rattle.nextest_config_resolution_settings.proofs.Searching.{nearest_is}
use Rattle.nextest_config_resolution_settings.proofs.wrappers.wrapper_by.Goals as goal

pub returns-in-Some : goal.returns-in-Some
returns-in-Some g c =
    let rule = c.index-rules-place.result in
    let found = c.in-Some.ensures.found in
    record {
      from = a_script_rule rule.now.id;
      is = inl (record {
        place = c.in-Some.place;
        id = c.in-Some.id.now;
        nearest = found;
        found = c.script_named-found.ensures;
        written = ap (λ (it : PlacedScriptRule). a_script_rule it.id) (nearest_is g.bound-4.value c.args.rules.now c.in-Some.place c.in-Some.id.now rule found c.index-rules-place.is);
      });
      kept = subst (λ (it : Bor PlacedScriptRule). g.T.TrackSource.tells c.track.result (a_script_rule it.now.id)) (sym c.index-rules-place.is) c.track.ensures;
    }
