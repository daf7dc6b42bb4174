-- A limit that inputs set is one at least.
use Rattle.std.proofs.Common.{◌≡◌, ◌<◌, ℕ, Bool, true, false, List, [], ◌∷◌, ◌++◌, map, codes, Option, None, Some, Result, Ok, Err, refl, subst, cond, arith, find}
use Rattle.std.specs.Prelude.{⊤, nat_lt, pos, negsuc, if◌then◌else◌}
use Rattle.std.proofs.lemmas.Bool.Decides.{nat_tests}
use Rattle.std.specs.List.{AllByRecursion}
use Rattle.std.specs.Option.{option_map, option_map_or}
use Rattle.std.specs.Str.{bytes_eq}
use Rattle.toml.specs.Data.{Data, string, integer, float, boolean, datetime, array, table, Members, no_members, member, get_member}
use Rattle.nextest_config_elements_choices.specs.declared.max_fail.MaxFail.{MaxFail}
use Rattle.nextest_config_elements_choices.specs.declared.max_fail.TerminateMode.{TerminateMode}
use Rattle.nextest_config_elements_choices.specs.declared.max_fail.TerminateMode.TheVariants.{Wait}
use Rattle.nextest_config_elements_toml.specs.Reading.{Path, Reading, ◌>>=◌, defaulted, leaf, required, some, under}
use Rattle.nextest_config_elements_choices.specs.MaxFail.{of_fail_fast}
use Rattle.nextest_config_elements_deserialize.specs.Limits.{fail_fast_in, limit, limit_in, stopped_at, switch_in}
use Rattle.nextest_config_elements_deserialize.specs.Values.{above_none, truth}
use Rattle.nextest_config_elements_deserialize.specs.Words.{terminate_mode}
use Rattle.nextest_config_resolution_load.specs.Checks.{MergedConfig, config_in, merged_in}
use Rattle.nextest_config_resolution_overrides.specs.Groups.{groups_at}
use Rattle.nextest_config_resolution_profiles.specs.Config.{values_of}
use Rattle.nextest_config_resolution_settings.specs.Layers.{in_own}
use Rattle.nextest_config_resolution_keys.specs.Run as run_key
use Rattle.nextest_config_resolution_settings.specs.Nearest.{IsOfProfiles, Source, of_fallback, of_profile}
use Rattle.nextest_config_resolution_scripts.specs.Scripts.{scripts_at}
use Rattle.nextest_config_resolution_keys.specs.Keys.{value_in, value_of}
use Rattle.nextest_config_resolution_keys.specs.Run.{fail_fast}
use Rattle.nextest_config_resolution_keys.specs.File.{Named, profiles_at, profiles_in, profiles_of, store_dir_at}
use Rattle.nextest_config_resolution_keys.specs.Profile.{profile_in, profile_of}
use Rattle.nextest_config_resolution_keys.specs.declared.profile_config.ProfileConfig.{ProfileConfig}
use Rattle.nextest_config_resolution_keys.specs.Own as own_key
use Rattle.nextest_config_resolution_keys.proofs.Accepting.{profile_parts}
use Rattle.test_runner_core_settings.specs.Laws.{IsOneAtLeast, SetsLimit}

-- ---- what holds of each value that is given

abbrev Holds : {A E : Type 0} → Result A E → (A → Type 0) → Type 0
Holds (Ok x) P = P x
Holds (Err refusal) P = ⊤

abbrev HoldsIfSome : {A : Type 0} → Option A → (A → Type 0) → Type 0
HoldsIfSome None P = ⊤
HoldsIfSome (Some x) P = P x

next_holds : {A B : Type 0} (first : Reading A) (next : A → Reading B) (P : A → Type 0) (Q : B → Type 0)
    → Holds first P → ((x : A) → P x → Holds (next x) Q) → Holds (first >>= next) Q
next_holds (Ok x) next P Q here there = there x here
next_holds (Err path) next P Q here there = tt

anything : {A : Type 0} (reading : Reading A) → Holds reading (λ x. ⊤)
anything (Ok x) = tt
anything (Err path) = tt

under_holds : {A : Type 0} (key : List ℕ) (reading : Reading A) (P : A → Type 0) → Holds reading P → Holds (under key reading) P
under_holds key (Ok x) P here = here
under_holds key (Err path) P here = tt

leaf_holds : {A : Type 0} (found : Option A) (P : A → Type 0) → HoldsIfSome found P → Holds {A = A} {E = Path} (option_map_or Ok found (Err [])) P
leaf_holds None P here = tt
leaf_holds (Some x) P here = here

-- ---- a limit

above_none_holds : {L : Type 0} (f : ℕ → L) (P : L → Type 0) (number : ℕ) → (0 < number → P (f number)) → HoldsIfSome (option_map f (above_none number)) P
above_none_holds f P number fine = by_test (nat_lt 0 number) refl
  where
    by_test : (b : Bool) → nat_lt 0 number ≡ b → HoldsIfSome (option_map f (if b then Some number else None)) P
    by_test true e = fine (let above : 0 < number = grind (arith, nat_tests, e) in above)
    by_test false e = tt

if_holds : {L : Type 0} (x : L) (P : L → Type 0) (b : Bool) → P x → HoldsIfSome (if b then Some x else None) P
if_holds x P true here = here
if_holds x P false here = tt

limit_above : (given : Data) → HoldsIfSome (limit given) (λ found. (mode : TerminateMode) → IsOneAtLeast (stopped_at found mode))
limit_above (integer (pos number)) = above_none_holds _ _ number (λ above mode. above)
limit_above (integer (negsuc number)) = tt
limit_above (string text) = if_holds _ _ (bytes_eq text (codes "all")) (λ mode. tt)
limit_above (float number) = tt
limit_above (boolean holds) = tt
limit_above (datetime at) = tt
limit_above (array items) = tt
limit_above (table entries) = tt

found_above : (found : Option Data) → Holds (option_map_or (leaf limit) found (Err [])) (λ found. (mode : TerminateMode) → IsOneAtLeast (stopped_at found mode))
found_above None = tt
found_above (Some given) = leaf_holds (limit given) _ (limit_above given)

-- how a run stops at it
abbrev mode_in : Members → Reading TerminateMode
mode_in members = defaulted (codes "terminate") terminate_mode Wait members

table_limit : (members : Members) → Holds (limit_in members) IsOneAtLeast
table_limit members =
    next_holds (required (codes "max-fail") limit members) _ (λ found. (mode : TerminateMode) → IsOneAtLeast (stopped_at found mode)) IsOneAtLeast
    (under_holds (codes "max-fail") (option_map_or (leaf limit) (get_member (codes "max-fail") members) (Err [])) _ (found_above (get_member (codes "max-fail") members)))
    (λ found stops. next_holds (mode_in members) (λ mode. Ok (stopped_at found mode)) (λ mode. ⊤) IsOneAtLeast (anything (mode_in members)) (λ mode _. stops mode))

switches : (stops : Bool) → IsOneAtLeast (of_fail_fast stops)
switches true = omega arith
switches false = tt

switch_limit : (given : Data) → Holds (switch_in given) IsOneAtLeast
switch_limit given = next_holds (leaf truth given) _ (λ stops. ⊤) IsOneAtLeast (anything (leaf truth given)) (λ stops _. switches stops)

read_limit : (given : Data) → Holds (fail_fast_in given) IsOneAtLeast
read_limit (table members) = table_limit members
read_limit (string text) = switch_limit (string text)
read_limit (integer number) = switch_limit (integer number)
read_limit (float number) = switch_limit (float number)
read_limit (boolean holds) = switch_limit (boolean holds)
read_limit (datetime at) = switch_limit (datetime at)
read_limit (array items) = switch_limit (array items)

-- ---- profiles

-- a limit that a profile sets is one at least
abbrev HasLimit : ProfileConfig → Type 0
HasLimit config = HoldsIfSome ((in_own own_key.fail_fast_of) config) IsOneAtLeast

-- what stands at a key is read so
value_holds : {A : Type 0} (reading : Data → Reading A) (found : Option Data) (P : A → Type 0) → ((given : Data) → Holds (reading given) P)
    → Holds (option_map_or (value_in [] reading) found (Ok None)) (λ (x : Option A). HoldsIfSome x P)
value_holds reading None P each = tt
value_holds {A} reading (Some given) P each = by_reading (reading given) (each given) where
  by_reading : (read : Reading A) → Holds read P → Holds (some read) (λ (x : Option A). HoldsIfSome x P)
  by_reading (Ok x) holds = holds
  by_reading (Err path) holds = tt

table_has : (members : Members) → Holds (profile_in members) HasLimit
table_has top = by_reading (profile_in top) refl
  where
    at_key : Holds (value_of fail_fast top) (λ (x : Option MaxFail). HoldsIfSome x IsOneAtLeast)
    at_key = under_holds (codes "fail-fast") (option_map_or (value_in [] fail_fast_in) (get_member (codes "fail-fast") top) (Ok None)) (λ (x : Option MaxFail). HoldsIfSome x IsOneAtLeast)
        (value_holds fail_fast_in (get_member (codes "fail-fast") top) IsOneAtLeast read_limit)

    by_reading : (reading : Reading ProfileConfig) → profile_in top ≡ reading → Holds reading HasLimit
    by_reading (Ok config) e = subst (λ (reading : Reading (Option MaxFail)). Holds reading (λ (x : Option MaxFail). HoldsIfSome x IsOneAtLeast)) (profile_parts top config e).own.fail_fast at_key
    by_reading (Err path) e = tt

profile_has : (given : Data) → Holds (profile_of given) HasLimit
profile_has (table members) = table_has members
profile_has (string text) = tt
profile_has (integer number) = tt
profile_has (float number) = tt
profile_has (boolean holds) = tt
profile_has (datetime at) = tt
profile_has (array items) = tt

abbrev HaveLimits : List Named → Type 0
HaveLimits profiles = AllByRecursion (λ (named : Named). HasLimit named.1) profiles

members_have : (members : Members) → Holds (profiles_in members) HaveLimits
members_have no_members = tt
members_have (member name given more) =
    next_holds (under name (profile_of given)) _ HasLimit HaveLimits (under_holds name (profile_of given) HasLimit (profile_has given))
    (λ profile has. next_holds (profiles_in more) _ HaveLimits HaveLimits (members_have more) (λ profiles have. (has, have)))

found_have : (found : Option Data) → Holds (profiles_of found) HaveLimits
found_have None = tt
found_have (Some (table members)) = members_have members
found_have (Some (string text)) = tt
found_have (Some (integer number)) = tt
found_have (Some (float number)) = tt
found_have (Some (boolean holds)) = tt
found_have (Some (datetime at)) = tt
found_have (Some (array items)) = tt

abbrev AreLimited : MergedConfig → Type 0
AreLimited config = HaveLimits config.profiles

tree_has : (top : Members) → Holds (config_in top) AreLimited
tree_has top =
    next_holds (profiles_at top) _ HaveLimits AreLimited
    (under_holds (codes "profile") (profiles_of (get_member (codes "profile") top)) HaveLimits (found_have (get_member (codes "profile") top)))
    (λ profiles have. next_holds (scripts_at top) _ (λ scripts. ⊤) AreLimited (anything (scripts_at top))
    (λ scripts _. next_holds (store_dir_at top) _ (λ dir. ⊤) AreLimited (anything (store_dir_at top))
    (λ dir _. next_holds (groups_at top) _ (λ groups. ⊤) AreLimited (anything (groups_at top)) (λ groups _. have))))

-- ---- a chain

found_has : (test : Named → Bool) (profiles : List Named) → HaveLimits profiles → HoldsIfSome (option_map (λ (named : Named). named.1) (find test profiles)) HasLimit
found_has test [] have = tt
found_has test (named ∷ profiles) have = by_test (test named) (found_has test profiles have.1)
  where
    by_test : (b : Bool) → HoldsIfSome (option_map (λ (it : Named). it.1) (find test profiles)) HasLimit
        → HoldsIfSome (option_map (λ (it : Named). it.1) (cond b (Some named) (find test profiles))) HasLimit
    by_test true behind = have.0
    by_test false behind = behind

chain_has : (profiles : List Named) (names : List (List ℕ)) (values : List ProfileConfig) → HaveLimits profiles → map (values_of profiles) names ≡ map Some values
    → AllByRecursion HasLimit values
chain_has profiles [] [] have e = tt
chain_has profiles [] (value ∷ values) have e = absurd (let f = e in cc)
chain_has profiles (name ∷ names) [] have e = absurd (let f = e in cc)
chain_has profiles (name ∷ names) (value ∷ values) have e =
    let first : values_of profiles name ≡ Some value = let f = e in cc in
    let rest : map (values_of profiles) names ≡ map Some values = let f = e in cc in (
      subst (λ (found : Option ProfileConfig). HoldsIfSome found HasLimit) first (found_has (λ (named : Named). bytes_eq name named.0) profiles have),
      chain_has profiles names values have rest,
    )

one_of : (front back : List ProfileConfig) (config : ProfileConfig) → AllByRecursion HasLimit (front ++ config ∷ back) → HasLimit config
one_of [] back config have = have.0
one_of (first ∷ front) back config have = one_of front back config have.1

has_limit : (chain : List ProfileConfig) (limit : MaxFail) (from : Source) → AllByRecursion HasLimit chain → IsOfProfiles (in_own own_key.fail_fast_of) chain run_key.fail_fast_fallback limit from → IsOneAtLeast limit
has_limit chain _ _ have (of_profile place limit is) =
    subst (λ (found : Option MaxFail). HoldsIfSome found IsOneAtLeast) is.sets
    (one_of is.front is.back is.layer (subst (λ (all : List ProfileConfig). AllByRecursion HasLimit all) is.divided have))
has_limit chain _ _ have (of_fallback unset) = omega arith

pub sets_limit : SetsLimit
sets_limit cx inputs it by =
    let chosen = by.chosen in
    let have = subst (λ (given : Reading MergedConfig). Holds given AreLimited) chosen.reads.1.values (tree_has (merged_in _ inputs.sources)) in
    let limit = by.settings.limits.max_fail in
    has_limit by.profile.chain it.max_fail limit.from (chain_has _ chosen.chained.names by.profile.chain have chosen.chained.valued) limit.is
