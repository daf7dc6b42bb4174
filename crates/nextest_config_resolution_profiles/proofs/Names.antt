-- The names of profiles at their places.
use Rattle.std.proofs.Common.{◌≡◌, ◌≢◌, ℕ, ◌<◌, ◌≤◌, ◌+◌, List, [], ◌∷◌, ◌++◌, length, get_or, map, take, Bor, Option, None, Some, option_map, refl, ap, sym, ◌∙◌, subst, arith, ◌⊎◌, inl, inr}
use Rattle.std.proofs.lemmas.Bool.{cases_lt}
use Rattle.std.specs.List.{Contains, slice_get}
use Rattle.std.specs.List.Sorted.{IsStrictlySortedBy}
use Rattle.std.specs.Cmp.Lexicographic.{slice_cmp}
use Rattle.std.specs.Ordering.{nat_cmp}
use Rattle.std.proofs.lemmas.Option.{slice_get-map, slice_get_read}
use Rattle.std.proofs.lemmas.List.{get_or-map, length-map, map_push, take_more}
use Rattle.std.proofs.lemmas.List.Elements.{All-nil, All-push}
use Rattle.nextest_config_resolution_inheritance.specs.Inheritance.{Name, Profile, Parents, IsChain, Rise, names, name_at, names_at}
use Rattle.nextest_config_resolution_load.specs.Checks.{parents_of}
use Rattle.nextest_config_resolution_load.specs.Load.{named_of}
use Rattle.nextest_config_resolution_load.specs.declared.loaded_config.NamedProfile.{NamedProfile}
use Rattle.nextest_config_resolution_load.specs.Load.{LoadedOverride, LoadedScriptRule}
use Rattle.nextest_config_resolution_load.proofs.Configs.{same_names, same_parents}
use Rattle.nextest_config_resolution_keys.specs.File.{Named, inherits_in}
use Rattle.nextest_config_resolution_keys.specs.declared.profile_config.ProfileConfig.{ProfileConfig}
use Rattle.nextest_config_resolution_settings.specs.Nearest.{lent_layers}
use Rattle.nextest_config_resolution_settings.specs.Rules.{profile_of, rules_of, script_profile_of}
use Rattle.nextest_config_resolution_profiles.specs.ChainRules.{rules_in}
use Rattle.nextest_config_resolution_profiles.specs.Chains.{AreAt, IsChained}
use Rattle.nextest_config_resolution_profiles.specs.Config.{IsDefaultFilterOf, IsChainOf, values_of}
use Rattle.nextest_config_resolution_profiles.specs.Early.{in_profile}
use Rattle.nextest_config_resolution_profiles.specs.declared.chains.Chained.{Chained}
use Rattle.nextest_config_resolution_profiles.proofs.Values.{values_in}

abbrev pub all_of : List NamedProfile → Parents
all_of all = parents_of (map named_of all)

pub name_is : (all : List NamedProfile) (k : ℕ) (d : NamedProfile) → k < length all → name_at (all_of all) k ≡ (get_or all k d).name
name_is all k d within =
    ap (λ (ps : Parents). name_at ps k) (same_parents all)
    ∙ ap (λ (p : Profile). p.0) (get_or-map (λ (it : NamedProfile). (it.name, inherits_in it.config)) all k d ([], None) within)

pub length_names : (all : List NamedProfile) → length (names (all_of all)) ≡ length all
length_names all = ap length (same_names (map named_of all)) ∙ length-map (map named_of all) (λ (it : Named). it.0) ∙ length-map all named_of

abbrev pub Apart : List NamedProfile → Name → ℕ → Type 0
Apart all name place = (k : ℕ) → k < place → name_at (all_of all) k ≢ name

-- no name so far, and none at one more place
pub one_apart : (all : List NamedProfile) (name : Name) (place : ℕ) (d : NamedProfile) → place < length all → Apart all name place → (get_or all place d).name ≢ name → Apart all name (place + 1)
one_apart all name place d within apart other k below same = elim (split k place below) [
  | inl before ↦ apart k before same
  | inr here ↦ other (sym (name_is all place d within) ∙ sym (ap (λ (j : ℕ). name_at (all_of all) j) here) ∙ same)
]
  where
    split : (k place : ℕ) → k < place + 1 → (k < place) ⊎ (k ≡ place)
    split k place below = elim (cases_lt k place) [ inl before ↦ inl before | inr from ↦ inr (omega (arith, below, from)) ]

pub none_has : (all : List NamedProfile) (name : Name) (place : ℕ) → length all ≤ place → Apart all name place → ¬ Contains (names (all_of all)) name
none_has all name place past apart (k, within, is) =
    let inside : k < length (all_of all) = omega (arith, within, length-map (all_of all) (λ (p : Profile). p.0)) in
    apart k (omega (arith, within, length_names all, past))
    (sym (get_or-map (λ (p : Profile). p.0) (all_of all) k ([], None) name inside) ∙ is)

-- the values at no places, and at one more
pub none_at : (profiles : List Named) → AreAt profiles [] []
none_at profiles = record { chain = []; each = All-nil (Contains profiles); placed = refl; valued = refl; stand = refl }

pub one_at : (all : List NamedProfile) (places : List ℕ) (values : List ProfileConfig) (place : ℕ) (it : NamedProfile) → place < length all → it ≡ get_or all place it
    → AreAt (map named_of all) places values → AreAt (map named_of all) (places ++ place ∷ []) (values ++ it.config ∷ [])
one_at all places values place it within is so_far = record {
  chain = so_far.chain ++ named_of it ∷ [];
  each = All-push (Contains (map named_of all)) so_far.chain (named_of it) so_far.each
      (place, omega (arith, within, length-map all named_of), get_or-map named_of all place it (named_of it) within ∙ ap named_of (sym is));
  placed = map_push (λ (p : Named). p.0) so_far.chain (named_of it)
      ∙ ap (λ (ns : List Name). ns ++ it.name ∷ []) so_far.placed
      ∙ ap (λ (n : Name). names_at (all_of all) places ++ n ∷ []) (sym (name_is all place it within ∙ ap (λ (p : NamedProfile). p.name) (sym is)))
      ∙ sym (map_push (name_at (all_of all)) places place);
  valued = ap (λ (vs : List ProfileConfig). vs ++ it.config ∷ []) so_far.valued ∙ sym (map_push (λ (p : Named). p.1) so_far.chain (named_of it));
  stand =
      let at : ℕ → Option ProfileConfig = λ k. option_map (λ (p : Named). p.1) (slice_get (map named_of all) k) in
      let here : at place ≡ Some it.config =
      ap (option_map (λ (p : Named). p.1)) (slice_get-map named_of all place ∙ ap (option_map named_of) (slice_get_read all (length all) place it refl within is)) in
      map_push Some values it.config
      ∙ ap (λ (vs : List (Option ProfileConfig)). vs ++ Some it.config ∷ []) so_far.stand
      ∙ ap (λ (v : Option ProfileConfig). map at places ++ v ∷ []) (sym here)
      ∙ sym (map_push at places place);
}

-- the same of lent values, by a place in the list of places
pub one_lent : (all : List NamedProfile) (places : List ℕ) (i d : ℕ) (values : List (Bor ProfileConfig)) (it : NamedProfile) (value : Bor ProfileConfig)
    → i < length places → get_or places i d < length all → it ≡ get_or all (get_or places i d) it → value.now ≡ it.config
    → AreAt (map named_of all) (take i places) (lent_layers values) → AreAt (map named_of all) (take (i + 1) places) (lent_layers (values ++ value ∷ []))
one_lent all places i d values it value within inside is config so_far =
    subst (λ (ps : List ℕ). AreAt (map named_of all) ps (lent_layers (values ++ value ∷ []))) (sym (take_more places i d within))
    (subst (AreAt (map named_of all) (take i places ++ get_or places i d ∷ [])) (sym (map_push (λ (v : Bor ProfileConfig). v.now) values value ∙ ap (λ (c : ProfileConfig). lent_layers values ++ c ∷ []) config))
    (one_at all (take i places) (lent_layers values) (get_or places i d) it inside is so_far))

-- the names in both forms
pub names_are : (all : List NamedProfile) → names (all_of all) ≡ map (λ it. it.name) all
names_are [] = refl
names_are (it ∷ all) = ap (λ (more : List Name). it.name ∷ more) (names_are all)

-- the chain of a profile, by places
pub chained : (all : List NamedProfile) (place : ℕ) (places given : List ℕ) (values : List ProfileConfig) → Rise (all_of all) → given ≡ places
    → IsChain (map (λ it. (it.name, inherits_in it.config)) all) (name_at (map (λ it. (it.name, inherits_in it.config)) all) place) (names_at (map (λ it. (it.name, inherits_in it.config)) all) places)
    → AreAt (map named_of all) given values → IsChainOf (map named_of all) (name_at (all_of all) place) values
chained all place places given values rise same chain at = record {
  names = names_at (all_of all) places;
  in_order = subst (λ (ps : Parents). IsChain ps (name_at ps place) (names_at ps places)) (sym (same_parents all)) chain;
  valued = ap (map (values_of (map named_of all))) (ap (names_at (all_of all)) (sym same) ∙ sym at.placed)
      ∙ values_in (map named_of all) at.chain rise at.each
      ∙ ap (map Some) (sym at.valued);
}

-- with its default filter and its rules
pub is_chained : {F S : Type 0} (all : List NamedProfile) (filters : List (Option F)) (rules : List (LoadedOverride F S)) (scripts : List (LoadedScriptRule F S)) (place : ℕ) (places given : List ℕ) (it : Chained F S) → Rise (all_of all) → given ≡ places
    → IsChain (map (λ it. (it.name, inherits_in it.config)) all) (name_at (map (λ it. (it.name, inherits_in it.config)) all) place) (names_at (map (λ it. (it.name, inherits_in it.config)) all) places)
    → AreAt (map named_of all) given (lent_layers it.values.items) → IsDefaultFilterOf all filters (names_at (all_of all) places) (lent_layers it.values.items) it.default_filter
    → rules_in it.rules.items ≡ rules_of (in_profile profile_of) rules (names_at (all_of all) places)
    → rules_in it.script_rules.items ≡ rules_of (in_profile script_profile_of) scripts (names_at (all_of all) places)
    → IsChained all filters rules scripts (name_at (all_of all) place) it
unfolding chained
is_chained all filters rules scripts place places given it rise same chain at filtered ruled scripted =
    record { chained = chained all place places given (lent_layers it.values.items) rise same chain at; filtered = filtered; ruled = ruled; scripted = scripted }

profile_names : (all : List NamedProfile) → names (all_of all) ≡ map (λ (it : NamedProfile). it.name) all
profile_names [] = refl
profile_names (it ∷ all) = ap (λ more. it.name ∷ more) (profile_names all)

-- names that are those of profiles which rise do so
pub known_rise : (all : List NamedProfile) (known : List Name) → Rise (all_of all) → known ≡ map (λ (it : NamedProfile). it.name) all
    → IsStrictlySortedBy (slice_cmp nat_cmp) known
known_rise all known rise is = subst (IsStrictlySortedBy (slice_cmp nat_cmp)) (profile_names all ∙ sym is) rise
