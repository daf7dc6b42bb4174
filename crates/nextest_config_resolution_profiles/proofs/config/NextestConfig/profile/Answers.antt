use Rattle.std.proofs.Common.{◌≡◌, List, Option, map, ap, ◌∙◌, subst}
use Rattle.nextest_config_resolution_inheritance.specs.Inheritance.{name_at}
use Rattle.nextest_config_resolution_load.specs.declared.loaded_config.NamedProfile.{NamedProfile}
use Rattle.nextest_config_resolution_load.specs.Load.{LoadedOverride, LoadedScriptRule}
use Rattle.nextest_config_resolution_profiles.specs.Chains.{IsChained}
use Rattle.nextest_config_resolution_profiles.specs.Config.{dir_in_store}
use Rattle.nextest_config_resolution_profiles.proofs.Names.{all_of, known_rise, name_is}
use Rattle.nextest_config_resolution_profiles.proofs.PutOn.{early_askable}
use Rattle.nextest_config_resolution_profiles.proofs.config.NextestConfig.profile.Goals as goal

pub returns-in_ok-dir_in_store-in-Some : goal.returns-in_ok-dir_in_store-in-Some
returns-in_ok-dir_in_store-in-Some g c =
    let profiles = c.as_slice-profiles.result.now in
    let filters = c.as_slice-filters.result.now in
    let all = c.as_slice-all.result.now in
    let scripts = c.as_slice-all_scripts.result.now in
    let whole = c.args.self.now in
    let name = c.args.name.now in
    let it = c.in_ok-values-in-Some.field-0 in
    let same : profiles ≡ whole.loaded.profiles = c.as_slice-profiles.ensures ∙ ap (λ it. it.profiles) c.loaded-loaded.ensures in
    let read : filters ≡ whole.loaded.default_filters = c.as_slice-filters.ensures ∙ ap (λ it. it.default_filters) c.loaded-loaded.ensures in
    let ruled : all ≡ whole.loaded.rules = c.as_slice-all.ensures ∙ ap (λ it. it.rules) c.loaded-loaded.ensures in
    let scripted : scripts ≡ whole.loaded.script_rules = c.as_slice-all_scripts.ensures ∙ ap (λ it. it.script_rules) c.loaded-loaded.ensures in
    let named = subst (λ n. IsChained {F = g.row.F.Denot} {S = g.row.S.Denot} profiles filters all scripts n it) c.in-Some.ensures.found c.in_ok-values-in-Some.ensures in
    let chained = subst (λ (rs : List (LoadedScriptRule g.row.F.Denot g.row.S.Denot)). IsChained whole.loaded.profiles whole.loaded.default_filters whole.loaded.rules rs name it) scripted
    (subst (λ (rs : List (LoadedOverride g.row.F.Denot g.row.S.Denot)). IsChained whole.loaded.profiles whole.loaded.default_filters rs scripts name it) ruled
    (subst (λ (fs : List (Option g.row.F.Denot)). IsChained whole.loaded.profiles fs all scripts name it) read
    (subst (λ (ps : List NamedProfile). IsChained ps filters all scripts name it) same named))) in
    let called : c.as_str-name.result.now ≡ name =
    cc (c.as_str-name.ensures, name_is profiles c.in-Some.place c.index-profiles-place.result c.in-Some.ensures.within, c.in-Some.ensures.found) in
    let root : c.as_str.result.now ≡ whole.root = cc (c.as_str.ensures, ap (λ whole. whole.root) c.self.view_is) in
    let groups : c.as_slice-groups.result.now ≡ whole.loaded.groups = c.as_slice-groups.ensures ∙ ap (λ it. it.groups) c.loaded-loaded.ensures in
    let dir = c.store.result.now in
    record {
      exact = record {
        named = called;
        stored = (dir, c.store.ensures, c.in_ok-dir_in_store-in-Some.ensures ∙ ap (λ r. dir_in_store r dir c.as_str-name.result.now) root ∙ ap (dir_in_store whole.root dir) called);
        chained = chained.chained;
        filtered = chained.filtered;
        ruled = chained.ruled;
        scripted = chained.scripted;
        grouped = groups;
        defined = ap (λ it. it.scripts) c.loaded-loaded.ensures;
      };
      rises = tt;
    }

pub returns-in_ok-all_names-in-None-clause-rises : goal.returns-in_ok-all_names-in-None-clause-rises
returns-in_ok-all_names-in-None-clause-rises g c =
    let loaded = c.self.inside.loaded.value in
    let same : c.loaded-loaded.result.now ≡ loaded = cc (c.loaded-loaded.ensures, ap (λ whole. whole.loaded) c.self.view_is) in
    known_rise loaded.profiles c.in_ok-all_names-in-None.field-0 c.self.invariant.rises
    (c.in_ok-all_names-in-None.ensures ∙ ap (map (λ (it : NamedProfile). it.name)) (c.as_slice-profiles.ensures ∙ ap (λ it. it.profiles) same))

pub invariant_of-result : goal.invariant_of-result
invariant_of-result g c =
    let loaded = c.self.inside.loaded.value in
    let same : c.loaded-loaded.result.now ≡ loaded = cc (c.loaded-loaded.ensures, ap (λ whole. whole.loaded) c.self.view_is) in
    let profiles = c.as_slice-profiles.result.now in
    let filters = c.as_slice-filters.result.now in
    let all = c.as_slice-all.result.now in
    let scripts = c.as_slice-all_scripts.result.now in
    let it = c.in_ok-values-in-Some.field-0 in
    let name = name_at (all_of profiles) c.in-Some.place in
    early_askable g.F.Filters.serves_as_default g.F.Filters.asks_groups loaded name it c.self.invariant
    (subst (λ (rs : List (LoadedScriptRule g.row.F.Denot g.row.S.Denot)). IsChained loaded.profiles loaded.default_filters loaded.rules rs name it) (c.as_slice-all_scripts.ensures ∙ ap (λ it. it.script_rules) same)
    (subst (λ (rs : List (LoadedOverride g.row.F.Denot g.row.S.Denot)). IsChained loaded.profiles loaded.default_filters rs scripts name it) (c.as_slice-all.ensures ∙ ap (λ it. it.rules) same)
    (subst (λ (fs : List (Option g.row.F.Denot)). IsChained loaded.profiles fs all scripts name it) (c.as_slice-filters.ensures ∙ ap (λ it. it.default_filters) same)
    (subst (λ (ps : List NamedProfile). IsChained ps filters all scripts name it) (c.as_slice-profiles.ensures ∙ ap (λ it. it.profiles) same) c.in_ok-values-in-Some.ensures))))
