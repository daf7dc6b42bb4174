use Rattle.std.proofs.Common.{ℕ, List, ◌≡◌, map, subst, sym}
use Rattle.std.specs.List.{Contains}
use Rattle.nextest_config_resolution_inheritance.specs.Inheritance.{IsAccepted, Rise, default, names, names_at}
use Rattle.nextest_config_resolution_load.proofs.Configs.{same_parents}
use Rattle.nextest_config_resolution_load.specs.Load.{named_of}
use Rattle.nextest_config_resolution_settings.specs.Layers.{in_command}
use Rattle.nextest_config_resolution_settings.specs.Nearest.{SetsNone, lent_layers}
use Rattle.nextest_config_resolution_settings.specs.Rules.{profile_of, rules_of, script_profile_of}
use Rattle.nextest_config_resolution_profiles.specs.ChainRules.{rules_in}
use Rattle.nextest_config_resolution_profiles.specs.Config.{IsDefaultFilterOf}
use Rattle.nextest_config_resolution_profiles.specs.Early.{in_profile}
use Rattle.nextest_config_resolution_profiles.proofs.Names.{all_of, chained, is_chained}
use Rattle.nextest_config_resolution_profiles.proofs.SetsAll.{chain_sets_filter}
use Rattle.nextest_config_resolution_profiles.proofs.chains.chain_at.Goals as goal
use Rattle.nextest_config_resolution_keys.specs.Command as command_key

pub chain_of-requires-clause-rise : goal.chain_of-requires-clause-rise
chain_of-requires-clause-rise g c = subst Rise (same_parents c.args.profiles.now) c.requires.rise

pub chain_of-requires-clause-accepted : goal.chain_of-requires-clause-accepted
chain_of-requires-clause-accepted g c = subst IsAccepted (same_parents c.args.profiles.now) c.requires.accepted

pub chain_of-requires-clause-has_default : goal.chain_of-requires-clause-has_default
chain_of-requires-clause-has_default g c = subst (λ ps. Contains (names ps) default) (same_parents c.args.profiles.now) c.requires.has_default

pub default_filter_of-default_filter-requires-clause-set : goal.default_filter_of-default_filter-requires-clause-set
default_filter_of-default_filter-requires-clause-set g c =
    let all = c.args.profiles.now in
    let sets = c.requires.sets_filter in
    let at = c.in_ok-values.ensures in
    let chain = chained all c.args.place c.in_ok-found.found.items c.as_slice-places.result.now (lent_layers c.in_ok-values.values.items) c.requires.rise c.as_slice-places.ensures.value
    c.in_ok-found.ensures.chain at in
    subst (λ vs. ¬ SetsNone (in_command command_key.default_filter_of) (lent_layers vs)) (sym c.as_slice-layers.ensures.value)
    (chain_sets_filter (map named_of all) sets.values sets.text sets.there sets.sets _ (lent_layers c.in_ok-values.values.items) chain)

pub returns : goal.returns
returns g c =
    let all = c.args.profiles.now in
    let filters = c.args.filters.now in
    let values = lent_layers c.in_ok-values.values.items in
    let found = c.default_filter_of-default_filter.result in
    let valued = subst (λ vs. IsDefaultFilterOf {F = g.row.F.Denot} all filters (names_at (all_of all) c.as_slice-places.result.now) (lent_layers vs) found) c.as_slice-layers.ensures.value c.default_filter_of-default_filter.ensures in
    let filtered = subst (λ (ps : List ℕ). IsDefaultFilterOf {F = g.row.F.Denot} all filters (names_at (all_of all) ps) values found) c.as_slice-places.ensures.value valued in
    let ruled = subst (λ (ps : List ℕ). rules_in c.in_ok-rules.rules.items ≡ rules_of (in_profile profile_of) c.args.all.now (names_at (all_of all) ps)) c.as_slice-places.ensures.value c.in_ok-rules.ensures in
    let scripted = subst (λ (ps : List ℕ). rules_in c.in_ok-script_rules.script_rules.items ≡ rules_of (in_profile script_profile_of) c.args.scripts.now (names_at (all_of all) ps)) c.as_slice-places.ensures.value
    c.in_ok-script_rules.ensures in
    is_chained all filters c.args.all.now c.args.scripts.now c.args.place c.in_ok-found.found.items c.as_slice-places.result.now _ c.requires.rise c.as_slice-places.ensures.value c.in_ok-found.ensures.chain
    c.in_ok-values.ensures filtered ruled scripted
