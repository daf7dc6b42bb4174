-- The default filter of a chain stands with its profile, and is the one of its text.
use Rattle.std.proofs.Common.{◌≡◌, ℕ, zero, suc, ◌<◌, true, false, List, [], ◌∷◌, ◌++◌, length, map, get_or, Option, None, Some, option_map, refl, sym, ap, ◌∙◌, subst, arith, is_some}
use Rattle.std.proofs.Math.Seq.{get_or-append_seam}
use Rattle.std.proofs.lemmas.List.{length-append, length-map}
use Rattle.std.proofs.lemmas.Option.{none-some, slice_get-get_or, slice_get-map, slice_get_read, slice_get_within}
use Rattle.std.specs.List.{All, AllZip, slice_get}
use Rattle.nextest_config_resolution_load.specs.Load.{IsFilterBy, IsReadAs, IsSpecBy, named_of}
use Rattle.nextest_config_resolution_load.specs.declared.languages.FilterPurpose.TheVariants as purpose
use Rattle.nextest_config_resolution_load.specs.declared.loaded_config.NamedProfile.{NamedProfile}
use Rattle.nextest_config_resolution_profiles.specs.Chains.{AreAt}
use Rattle.nextest_config_resolution_profiles.specs.Laws.{DefaultIsRead}
use Rattle.nextest_config_resolution_profiles.specs.Whole.{AreFiltered}
use Rattle.nextest_config_resolution_settings.specs.Layers.{in_command}
use Rattle.nextest_config_resolution_settings.specs.Nearest.{IsNearest}
use Rattle.nextest_config_resolution_keys.specs.File.{Named, default_filter_in}
use Rattle.nextest_config_resolution_keys.specs.declared.profile_config.ProfileConfig.{ProfileConfig}
use Rattle.nextest_config_resolution_keys.specs.Command as command_key

-- what stands at a place of two lists
pub zip_at : {A B : Type 0} (R : A → B → Type 0) (xs : List A) (ys : List B) (i : ℕ) (x : A) → AllZip R xs ys → slice_get xs i ≡ Some x → (y : B) × (slice_get ys i ≡ Some y) × R x y
zip_at R [] [] i x all e = absurd (none-some x e)
zip_at R [] (y ∷ ys) i x all e = absurd all
zip_at R (a ∷ xs) [] i x all e = absurd all
zip_at R (a ∷ xs) (b ∷ ys) zero x all e = let same : a ≡ x = let f = e in cc in (b, refl, subst (λ it. R it b) same all.0)
zip_at R (a ∷ xs) (b ∷ ys) (suc i) x all e = zip_at R xs ys i x all.1 e

-- the nearest layer stands at its place
pub nearest_at : {L V : Type 0} (set_by : L → Option V) (layers : List L) (place : ℕ) (value : V) (it : IsNearest set_by layers place value) → slice_get layers place ≡ Some it.layer
nearest_at set_by layers place value it =
    let all = it.front ++ it.layer ∷ it.back in
    let within : length it.front < length all = omega (arith, length-append it.front (it.layer ∷ it.back)) in
    ap (λ ls. slice_get ls place) it.divided
    ∙ ap (slice_get all) it.placed
    ∙ slice_get_read all (length all) (length it.front) it.layer refl within (sym (get_or-append_seam it.front it.layer it.back it.layer))

-- there are as many places as values
pub as_many : (profiles : List Named) (places : List ℕ) (values : List ProfileConfig) → AreAt profiles places values → length values ≡ length places
as_many profiles places values at =
    sym (length-map values Some) ∙ ap length at.stand ∙ length-map places (λ place. option_map (λ (profile : Named). profile.1) (slice_get profiles place))

-- the profile at a place has the values there
pub config_at : (profiles : List NamedProfile) (places : List ℕ) (values : List ProfileConfig) (i place : ℕ) (profile : NamedProfile) (config : ProfileConfig) → AreAt (map named_of profiles) places values
    → slice_get values i ≡ Some config → slice_get places i ≡ Some place → slice_get profiles place ≡ Some profile → profile.config ≡ config
config_at profiles places values i place profile config at here there stands =
    let at_place : ℕ → Option ProfileConfig = λ k. option_map (λ (p : Named). p.1) (slice_get (map named_of profiles) k) in
    let one : Some (Some config) ≡ Some (at_place place) =
    sym (slice_get-map Some values i ∙ ap (option_map Some) here) ∙ ap (λ all. slice_get all i) at.stand ∙ slice_get-map at_place places i ∙ ap (option_map at_place) there in
    let other : at_place place ≡ Some profile.config = ap (option_map (λ (p : Named). p.1)) (slice_get-map named_of profiles place ∙ ap (option_map named_of) stands) in
    let same : Some config ≡ Some profile.config = (let f : Some config ≡ at_place place = cc in f ∙ other) in
    let is : config ≡ profile.config = cc in
    sym is

-- there is a filter where there is a text
shape : {F : Type 0} (Is : List ℕ → F → Type 0) (text : Option (List ℕ)) (found : Option F) → IsReadAs Is text found → is_some found ≡ is_some text
shape Is None None is = refl
shape Is None (Some it) is = absurd is
shape Is (Some text) None is = absurd is
shape Is (Some text) (Some it) is = refl

pub all_filtered : {F : Type 0} (Is : List ℕ → F → Type 0) (profiles : List NamedProfile) (filters : List (Option F))
    → AllZip (λ profile found. IsReadAs Is (default_filter_in profile.1) found) (map named_of profiles) filters → AreFiltered profiles filters
all_filtered Is [] [] all = tt
all_filtered Is [] (found ∷ filters) all = absurd all
all_filtered Is (profile ∷ profiles) [] all = absurd all
all_filtered Is (profile ∷ profiles) (found ∷ filters) all = (shape Is (default_filter_in profile.config) found all.0, all_filtered Is profiles filters all.1)

-- a filter is the one of its text
pub default_is_read : {F S : Type 0} (Is : IsFilterBy F) (IsSpec : IsSpecBy S) (IsTooDeep : List ℕ → Type 0) → DefaultIsRead Is IsSpec IsTooDeep
default_is_read {F} {S} Is IsSpec IsTooDeep features root sources config names chain it loaded of =
    let profiles = config.loaded.profiles in
    let stands : slice_get (map named_of profiles) of.at ≡ Some (named_of of.from) = slice_get-map named_of profiles of.at ∙ ap (option_map named_of) of.stands in
    let found = zip_at (λ (profile : Named) (found : Option F). IsReadAs (Is purpose.Default) (default_filter_in profile.1) found) (map named_of profiles) config.loaded.default_filters of.at (named_of of.from) loaded.1.filters stands in
    let same : found.0 ≡ Some it.filter.now = (let f : Some found.0 ≡ Some (Some it.filter.now) = sym found.1 ∙ of.read in cc) in
    subst (λ (text : Option (List ℕ)). IsReadAs (Is purpose.Default) text (Some it.filter.now)) of.sets
    (subst (λ (filter : Option F). IsReadAs (Is purpose.Default) (default_filter_in of.from.config) filter) same found.2)

-- ---- the default filter of a chain

stands_at : {X : Type 0} (xs : List X) (i : ℕ) → i < length xs → (x : X) × (slice_get xs i ≡ Some x)
stands_at [] i within = absurd (omega (arith, within))
stands_at (x ∷ xs) zero within = (x, refl)
stands_at (x ∷ xs) (suc i) within = stands_at xs i (omega (arith, within))

some_found : {F : Type 0} (set : Option (List ℕ)) (found : Option F) (text : List ℕ) → is_some found ≡ is_some set → set ≡ Some text → (filter : F) × (found ≡ Some filter)
some_found None found text shape sets = absurd (none-some text sets)
some_found (Some other) None text shape sets = absurd (let f : false ≡ true = shape in cc)
some_found (Some other) (Some filter) text shape sets = (filter, refl)

-- what stands at the place of the nearest profile of a chain that sets one
pub record DefaultAt {F : Type 0} (profiles : List NamedProfile) (filters : List (Option F)) (places : List ℕ) (near : ℕ) (text : List ℕ) : Type 0 where
  pub within : near < length places
  pub profile : NamedProfile
  pub stands : slice_get profiles (get_or places near 0) ≡ Some profile
  pub sets : default_filter_in profile.config ≡ Some text
  pub found : F
  pub read : slice_get filters (get_or places near 0) ≡ Some (Some found)

pub default_at : {F : Type 0} (profiles : List NamedProfile) (filters : List (Option F)) (places : List ℕ) (values : List ProfileConfig) (near : ℕ) (text : List ℕ)
    → All (λ place. place < length profiles) places → AreAt (map named_of profiles) places values → AreFiltered profiles filters → IsNearest (in_command command_key.default_filter_of) values near text
    → DefaultAt profiles filters places near text
default_at profiles filters places values near text inside at filtered nearest =
    let here = nearest_at (in_command command_key.default_filter_of) values near text nearest in
    let within : near < length places = omega (arith, slice_get_within values near nearest.layer here, as_many (map named_of profiles) places values at) in
    let place = get_or places near 0 in
    let there = stands_at profiles place (inside near 0 within) in
    let sets : default_filter_in there.0.config ≡ Some text =
    ap (in_command command_key.default_filter_of) (config_at profiles places values near place there.0 nearest.layer at here (slice_get-get_or places near 0 within) there.1) ∙ nearest.sets in
    let beside = zip_at (λ profile found. is_some found ≡ is_some (default_filter_in profile.config)) profiles filters place there.0 filtered there.1 in
    let found = some_found (default_filter_in there.0.config) beside.0 text beside.2 sets in
    record { within = within; profile = there.0; stands = there.1; sets = sets; found = found.0; read = beside.1 ∙ ap Some found.1 }

-- a filter stands there
pub filter_within : {F : Type 0} (profiles : List NamedProfile) (filters : List (Option F)) (places : List ℕ) (near : ℕ) (text : List ℕ) → DefaultAt profiles filters places near text
    → get_or places near 0 < length filters
filter_within profiles filters places near text it = slice_get_within filters (get_or places near 0) (Some it.found) it.read

pub never_none : {F : Type 0} (profiles : List NamedProfile) (filters : List (Option F)) (places : List ℕ) (near : ℕ) (text : List ℕ) (found : Option F) → DefaultAt profiles filters places near text
    → found ≡ get_or filters (get_or places near 0) found → found ≡ None → ⊥
never_none profiles filters places near text found it is none =
    let place = get_or places near 0 in
    let read = slice_get_read filters (length filters) place found refl (filter_within profiles filters places near text it) is in
    absurd (let f : Some (Some it.found) ≡ Some None = sym it.read ∙ read ∙ ap Some none in cc)
