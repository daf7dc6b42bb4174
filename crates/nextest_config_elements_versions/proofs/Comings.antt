-- What lists of sources come to.
use Rattle.std.proofs.Common.{◌≡◌, ℕ, ◌+◌, ◌<◌, length, get_or, map, take, drop, Bool, true, false, ◌||◌, List, [], ◌∷◌, ◌++◌, Option, None, Some, Result, Ok, Err, refl, sym, ap, ◌∙◌, subst}
use Rattle.std.proofs.lemmas.Grind.{flat_map-append}
use Rattle.std.proofs.lemmas.List.{append_assoc, drop_more, map-append, take_more, take-append-drop}
use Rattle.std.proofs.lemmas.List.Folds.{list_any-append}
use Rattle.std.specs.List.{flat_map}
use Rattle.nextest_config_elements_toml.specs.Paths.{Gives}
use Rattle.nextest_config_elements_toml.specs.Reading.{Path, Reading}
use Rattle.nextest_config_elements_toml.specs.declared.bad_value.BadValue.{BadValue}
use Rattle.nextest_config_elements_toml.specs.declared.value_error.ValueError.{ValueError}
use Rattle.nextest_config_elements_toml.specs.declared.value_error.ValueError.TheVariants as value_error
use Rattle.nextest_config_elements_versions.specs.Features.{known_in, union}
use Rattle.nextest_config_elements_versions.specs.Laws.{OneConfig, EachComes, Partition, PartitionOfSources, Associative, Neutral}
use Rattle.nextest_config_elements_versions.specs.Sources.{Asking, Comes, GivesConfig, GivesDemand, IsRefusal, Reason, bad_value, ask_of, Refusal, TellsReason, read_for, add, askings, config_in, config_of, demand_in, features_in, merge_of, origin_of, recommended_in, required_in, unknown_of, Source, version_source_of}
use Rattle.nextest_config_elements_versions.specs.Verdict.{Ask, IsReq, asked_by, later_of}
use Rattle.nextest_config_elements_versions.specs.declared.demand.VersionDemand.{VersionDemand}
use Rattle.nextest_config_elements_versions.specs.declared.experimental.UnknownFeatures.{UnknownFeatures}
use Rattle.nextest_config_elements_versions.specs.declared.feature.FeatureSet.{FeatureSet}
use Rattle.nextest_config_elements_versions.specs.declared.origin.VersionOrigin.{VersionOrigin}
use Rattle.nextest_config_elements_versions.specs.declared.origin.VersionSource.{VersionSource}
use Rattle.nextest_config_elements_versions.specs.declared.source_fault.VersionOnlyError.{VersionOnlyError}
use Rattle.nextest_config_elements_versions.specs.declared.source_fault.VersionOnlyError.TheVariants as error
use Rattle.nextest_config_elements_versions.specs.declared.source_fault.VersionSourceFault.{VersionSourceFault}
use Rattle.nextest_config_elements_versions.specs.declared.source_fault.VersionSourceReason.{VersionSourceReason}
use Rattle.nextest_config_elements_versions.specs.declared.source_fault.VersionSourceReason.TheVariants as reason
use Rattle.nextest_config_elements_versions.specs.declared.version_only.VersionOnlyConfig.{VersionOnlyConfig}
use Rattle.nextest_config_elements_versions.specs.declared.version_req.NextestVersionReq.{NextestVersionReq}
use Rattle.nextest_config_elements_versions.specs.declared.version_req.NextestVersionReq.TheVariants as req
use Rattle.nextest_config_elements_versions.proofs.Counting.{counted_is, is_req_append, later_assoc, later_none}

-- sets of features
known_append : (one other : List (List ℕ)) → known_in (one ++ other) ≡ union (known_in one) (known_in other)
known_append one other = rw (list_any-append, list_any-append, list_any-append) refl

or_assoc : (a b c : Bool) → ((a || b) || c) ≡ (a || (b || c))
or_assoc true b c = refl
or_assoc false b c = refl

or_false : (a : Bool) → (a || false) ≡ a
or_false true = refl
or_false false = refl

abbrev set_of : Bool → Bool → Bool → FeatureSet
set_of a b c = record { setup_scripts = a; wrapper_scripts = b; benchmarks = c }

same_sets : (a b c x y z : Bool) → a ≡ x → b ≡ y → c ≡ z → set_of a b c ≡ set_of x y z
same_sets a b c x y z p q r = rw (p, q, r) refl

union_assoc : (one other third : FeatureSet) → union (union one other) third ≡ union one (union other third)
union_assoc one other third =
    same_sets _ _ _ _ _ _ (or_assoc one.setup_scripts other.setup_scripts third.setup_scripts)
    (or_assoc one.wrapper_scripts other.wrapper_scripts third.wrapper_scripts) (or_assoc one.benchmarks other.benchmarks third.benchmarks)

union_none : (one : FeatureSet) → union one (set_of false false false) ≡ one
union_none one = same_sets _ _ _ _ _ _ (or_false one.setup_scripts) (or_false one.wrapper_scripts) (or_false one.benchmarks)

append_none : {A : Type 0} (all : List A) → all ++ [] ≡ all
append_none [] = refl
append_none {A} (x ∷ more) = ap (λ (l : List A). x ∷ l) (append_none more)

-- a result by its four parts
abbrev config : NextestVersionReq → NextestVersionReq → FeatureSet → List UnknownFeatures → VersionOnlyConfig
config required recommended known unknown = record {
  nextest_version = record { required = required; recommended = recommended };
  experimental = record { known = known; unknown = unknown };
}

same_configs : (r s : NextestVersionReq) (k : FeatureSet) (u : List UnknownFeatures) (a b : NextestVersionReq) (c : FeatureSet) (d : List UnknownFeatures)
    → r ≡ a → s ≡ b → k ≡ c → u ≡ d → config r s k u ≡ config a b c d
same_configs r s k u a b c d e f g h = rw (e, f, g, h) refl

-- the laws
pub one_config : OneConfig
one_config all one other a b =
    same_configs _ _ _ _ _ _ _ _
    (counted_is (required_in all) one.nextest_version.required a.required ∙ sym (counted_is (required_in all) other.nextest_version.required b.required))
    (counted_is (recommended_in all) one.nextest_version.recommended a.recommended ∙ sym (counted_is (recommended_in all) other.nextest_version.recommended b.recommended))
    (a.known ∙ sym b.known)
    (a.unknown ∙ sym b.unknown)

asks_append : (f : Asking → List Ask) (front rest : List Asking) (one other : NextestVersionReq) → IsReq (flat_map f front) one → IsReq (flat_map f rest) other
    → IsReq (flat_map f (front ++ rest)) (later_of one other)
asks_append f front rest one other a b =
    subst (λ (asks : List Ask). IsReq asks (later_of one other)) (sym (flat_map-append f front rest))
    (is_req_append (flat_map f front) (flat_map f rest) one other a b)

pub partition : Partition
partition front rest one other a b = record {
  required = asks_append _ front rest one.nextest_version.required other.nextest_version.required a.required b.required;
  recommended = asks_append _ front rest one.nextest_version.recommended other.nextest_version.recommended a.recommended b.recommended;
  known = ap (λ (it : FeatureSet). union it other.experimental.known) a.known
      ∙ ap (union (known_in (features_in front))) b.known
      ∙ sym (ap known_in (flat_map-append _ front rest) ∙ known_append (features_in front) (features_in rest));
  unknown = ap (λ (it : List UnknownFeatures). it ++ other.experimental.unknown) a.unknown
      ∙ ap (λ (it : List UnknownFeatures). unknown_of front ++ it) b.unknown
      ∙ sym (flat_map-append _ front rest);
}

pub associative : Associative
associative one other third =
    same_configs _ _ _ _ _ _ _ _
    (later_assoc one.nextest_version.required other.nextest_version.required third.nextest_version.required)
    (later_assoc one.nextest_version.recommended other.nextest_version.recommended third.nextest_version.recommended)
    (union_assoc one.experimental.known other.experimental.known third.experimental.known)
    (append_assoc one.experimental.unknown other.experimental.unknown third.experimental.unknown)

-- what no sources come to
abbrev none_config : VersionOnlyConfig
none_config = config req.None req.None (set_of false false false) []

comes_none : Comes [] none_config
comes_none = record { required = refl; recommended = refl; known = refl; unknown = refl }

neutral_one : (one : VersionOnlyConfig) → (merge_of none_config one ≡ one) × (merge_of one none_config ≡ one)
neutral_one one = (
  same_configs _ _ _ _ _ _ _ _ (later_none one.nextest_version.required) (later_none one.nextest_version.recommended) refl refl,
  same_configs _ _ _ _ _ _ _ _ refl refl (union_none one.experimental.known) (append_none one.experimental.unknown),
)

pub neutral : Neutral
neutral none one comes =
    subst (λ (it : VersionOnlyConfig). (merge_of it one ≡ one) × (merge_of one it ≡ one)) (one_config [] none_config none comes_none comes)
    (neutral_one one)

-- lists of sources in a row
abbrev before : List Asking → Result (List Asking) Refusal → Result (List Asking) Refusal
before all (Ok more) = Ok (all ++ more)
before all (Err refusal) = Err refusal

before_none : (asked : Result (List Asking) Refusal) → asked ≡ before [] asked
before_none (Ok more) = refl
before_none (Err refusal) = refl

add_before : (source : Source) (demand : VersionDemand) (more : List Asking) (rest : Result (List Asking) Refusal)
    → add source (Ok demand) (before more rest) ≡ before ((demand, origin_of source) ∷ more) rest
add_before source demand more (Ok others) = refl
add_before source demand more (Err refusal) = refl

add_append : (source : Source) (asked : Result VersionDemand Reason) (here whole rest : Result (List Asking) Refusal) (all : List Asking)
    → add source asked here ≡ Ok all → ((more : List Asking) → here ≡ Ok more → whole ≡ before more rest)
    → add source asked whole ≡ before all rest
add_append source (Err why) here whole rest all is next = cc is
add_append source (Ok demand) (Err refusal) whole rest all is next = cc is
add_append source (Ok demand) (Ok more) whole rest all is next =
    let same : (demand, origin_of source) ∷ more ≡ all = cc is in
    ap (add source (Ok demand)) (next more refl) ∙ add_before source demand more rest ∙ ap (λ (l : List Asking). before l rest) same

askings_append : (front rest : List Source) (all : List Asking) → askings front ≡ Ok all
    → askings (front ++ rest) ≡ before all (askings rest)
askings_append [] rest all is =
    let none : [] ≡ all = cc is in
    before_none (askings rest) ∙ ap (λ (l : List Asking). before l (askings rest)) none
askings_append (source ∷ front) rest all is =
    add_append source (demand_in source.kind source.text) (askings front) (askings (front ++ rest)) (askings rest) all is
    (λ more here. askings_append front rest more here)

pub gives_none : (config : VersionOnlyConfig) → Comes [] config → GivesConfig [] (Ok config)
gives_none config comes = ([], refl, comes)

pub gives_more : (front rest : List Source) (one other : VersionOnlyConfig) → GivesConfig front (Ok one) → GivesConfig rest (Ok other)
    → GivesConfig (front ++ rest) (Ok (merge_of one other))
gives_more front rest one other a b =
    (a.0 ++ b.0, askings_append front rest a.0 a.1 ∙ ap (before a.0) b.1, partition a.0 b.0 one other a.2 b.2)

add_refused : (source : Source) (asked : Result VersionDemand Reason) (here whole : Result (List Asking) Refusal) (refusal : Refusal)
    → add source asked here ≡ Err refusal → (here ≡ Err refusal → whole ≡ Err refusal) → add source asked whole ≡ Err refusal
add_refused source (Err why) here whole refusal is next = is
add_refused source (Ok demand) (Err first) whole refusal is next = ap (add source (Ok demand)) (next is)
add_refused source (Ok demand) (Ok more) whole refusal is next = cc is

refused_append : (front rest : List Source) (refusal : Refusal) → askings front ≡ Err refusal → askings (front ++ rest) ≡ Err refusal
refused_append [] rest refusal is = cc is
refused_append (source ∷ front) rest refusal is =
    add_refused source (demand_in source.kind source.text) (askings front) (askings (front ++ rest)) refusal is (refused_append front rest refusal)

pub partition_of_sources : PartitionOfSources
partition_of_sources = record {
  comes = gives_more;
  front_refused = refused_append;
  rest_refused = λ front rest all refusal accepted refused. askings_append front rest all accepted ∙ ap (before all) refused;
}

refused_first : (source : Source) (asked : Result VersionDemand Reason) (refusal : Refusal) (more : Result (List Asking) Refusal)
    → add source asked (Ok []) ≡ Err refusal → add source asked more ≡ Err refusal
refused_first source (Err why) refusal more is = is
refused_first source (Ok demand) refusal more is = cc is

pub gives_refusal : (front : List Source) (source : Source) (behind : List Source) (one : VersionOnlyConfig) (why : VersionOnlyError)
    → GivesConfig front (Ok one) → GivesConfig (source ∷ []) (Err why) → GivesConfig (front ++ source ∷ behind) (Err why)
gives_refusal front source behind one (error.Refused fault) a b = (
  b.0,
  askings_append front (source ∷ behind) a.0 a.1
      ∙ ap (before a.0) (refused_first source (demand_in source.kind source.text) b.0 (askings behind) b.1),
  b.2,
)
gives_refusal front source behind one error.OutOfMemory a b = tt

-- what one source comes to
asked_is : (asked : Option (ℕ × ℕ × ℕ × List ℕ × List ℕ)) (source : VersionOrigin) (asks : List Ask) → ask_of asked source ≡ asks → IsReq (asks ++ []) (asked_by asked source)
asked_is None source asks is = rw (← is) refl
asked_is (Some version) source asks is =
    rw (← is) (record { before = []; behind = []; whole = refl; none_above = refl; later_below = refl })

pub comes_one : (demand : VersionDemand) (source : VersionOrigin) → Comes ((demand, source) ∷ []) (config_of demand source)
comes_one demand source = record {
  required = asked_is demand.versions.required source _ refl;
  recommended = asked_is demand.versions.recommended source _ refl;
  known = ap known_in (sym (append_none demand.features));
  unknown = sym (append_none _);
}

pub gives_one : (source : Source) (demand : VersionDemand) → demand_in source.kind source.text ≡ Ok demand
    → GivesConfig (source ∷ []) (Ok (config_of demand (origin_of source)))
gives_one source demand is = ((demand, origin_of source) ∷ [], ap (λ it. add source it (Ok [])) is, comes_one demand (origin_of source))

pub refuses_one : (source : Source) (why : VersionOnlyError) → GivesDemand source (demand_in source.kind source.text) (Err why)
    → GivesConfig (source ∷ []) (Err why)
refuses_one source (error.Refused fault) gives = ((source.path, gives.0), ap (λ it. add source it (Ok [])) gives.1, gives.2)
refuses_one source error.OutOfMemory gives = tt

-- a value that is refused
tells_bad : (fault : VersionSourceFault) (bad : BadValue) (inner : Path) → fault.reason ≡ reason.BadValue bad → inner ≡ bad.path.keys
    → TellsReason fault.reason (bad_value inner)
tells_bad fault bad inner told keys =
    subst (λ (it : VersionSourceReason). TellsReason it (bad_value inner)) (sym told) (ap bad_value keys)

refuses_bad : (source : Source) (read : Reading VersionDemand) (bad : BadValue) (why : VersionOnlyError)
    → Gives [] (Err (value_error.Refused bad)) read → IsRefusal source.path (reason.BadValue bad) why
    → GivesDemand source (read_for source.kind read) (Err why)
refuses_bad source (Ok demand) bad (error.Refused fault) gives is = cc gives
refuses_bad source (Err inner) bad (error.Refused fault) gives is =
    let keys : inner ≡ bad.path.keys = cc gives in
    (bad_value inner, refl, (is.0, tells_bad fault bad inner is.1 keys))
refuses_bad source read bad error.OutOfMemory gives is = tt

pub refuses_value : (source : Source) (read : Reading VersionDemand) (given : ValueError) (bad : BadValue) (why : VersionOnlyError)
    → given ≡ value_error.Refused bad → Gives [] (Err given) read → IsRefusal source.path (reason.BadValue bad) why
    → GivesDemand source (read_for source.kind read) (Err why)
refuses_value source read given bad why same gives is =
    refuses_bad source read bad why (subst (λ (it : ValueError). Gives [] (Err it) read) same gives) is

-- each list comes to what its sources come to
pub comes_in : EachComes
comes_in [] = comes_none
comes_in (asking ∷ more) = partition (asking ∷ []) more (config_of asking.0 asking.1) (config_in more) (comes_one asking.0 asking.1) (comes_in more)

-- a walk over a list of sources that are lent
pub walk_more : (sources : List VersionSource) (place : ℕ) (source : VersionSource) (one other : VersionOnlyConfig) → place < length sources
    → source ≡ get_or sources place source → GivesConfig (map version_source_of (take place sources)) (Ok one) → GivesConfig (version_source_of source ∷ []) (Ok other)
    → GivesConfig (map version_source_of (take (place + 1) sources)) (Ok (merge_of one other))
walk_more sources place source one other within is a b =
    let whole : take (place + 1) sources ≡ take place sources ++ source ∷ [] =
    take_more sources place source within ∙ ap (λ (it : VersionSource). take place sources ++ it ∷ []) (sym is) in
    let told : map version_source_of (take (place + 1) sources) ≡ map version_source_of (take place sources) ++ version_source_of source ∷ [] =
    ap (λ (l : List VersionSource). map version_source_of l) whole ∙ map-append version_source_of (take place sources) (source ∷ []) in
    subst (λ (l : List Source). GivesConfig l (Ok (merge_of one other))) (sym told)
    (gives_more (map version_source_of (take place sources)) (version_source_of source ∷ []) one other a b)

pub walk_refused : (sources : List VersionSource) (place : ℕ) (source : VersionSource) (one : VersionOnlyConfig) (why : VersionOnlyError)
    → place < length sources → source ≡ get_or sources place source → GivesConfig (map version_source_of (take place sources)) (Ok one) → GivesConfig (version_source_of source ∷ []) (Err why)
    → GivesConfig (map version_source_of sources) (Err why)
walk_refused sources place source one why within is a b =
    let rest : drop place sources ≡ source ∷ drop (place + 1) sources =
    drop_more sources place source within ∙ ap (λ (it : VersionSource). it ∷ drop (place + 1) sources) (sym is) in
    let whole : sources ≡ take place sources ++ source ∷ drop (place + 1) sources =
    sym (take-append-drop place sources) ∙ ap (λ (l : List VersionSource). take place sources ++ l) rest in
    let told : map version_source_of sources ≡ map version_source_of (take place sources) ++ version_source_of source ∷ map version_source_of (drop (place + 1) sources) =
    ap (λ (l : List VersionSource). map version_source_of l) whole ∙ map-append version_source_of (take place sources) (source ∷ drop (place + 1) sources) in
    subst (λ (l : List Source). GivesConfig l (Err why)) (sym told)
    (gives_refusal (map version_source_of (take place sources)) (version_source_of source) (map version_source_of (drop (place + 1) sources)) one why a b)
