-- A setting has at most one value.
use Rattle.std.proofs.Common.{◌≡◌, ℕ, ◌<◌, List, ◌∷◌, ◌++◌, Option, Some, None, length, get_or, refl, sym, ap, ◌∙◌, arith}
use Rattle.std.proofs.Math.Seq.{get_or-append_seam}
use Rattle.std.proofs.lemmas.List.{get_or_append_left, length-append}
use Rattle.std.proofs.lemmas.Option.{none-some, same_Some}
use Rattle.nextest_config_resolution_overrides.specs.declared.override_id.OverrideId.{OverrideId}
use Rattle.nextest_config_resolution_settings.specs.Laws.{OneSetting}
use Rattle.nextest_config_resolution_settings.specs.Nearest.{IsNearest, IsOfProfiles, SetsNone, Source, an_override, a_profile, of_fallback, of_profile, of_profiles, of_rule}

pub layer_at : {L V : Type 0} {set_by : L → Option V} {layers : List L} {place : ℕ} {value : V}
    → (n : IsNearest set_by layers place value) → (d : L) → n.layer ≡ get_or layers place d
layer_at {place = place} n d = sym (
    ap (λ xs. get_or xs place d) n.divided ∙ ap (λ k. get_or (n.front ++ n.layer ∷ n.back) k d) n.placed ∙ get_or-append_seam n.front n.layer n.back d
    )

at_place : {L V : Type 0} {set_by : L → Option V} {layers : List L} {place : ℕ} {value : V}
    → IsNearest set_by layers place value → (d : L) → set_by (get_or layers place d) ≡ Some value
at_place {set_by = set_by} {place = place} n d =
    ap (λ xs. set_by (get_or xs place d)) n.divided ∙ ap (λ k. set_by (get_or (n.front ++ n.layer ∷ n.back) k d)) n.placed
    ∙ ap set_by (get_or-append_seam n.front n.layer n.back d) ∙ n.sets

before_place : {L V : Type 0} {set_by : L → Option V} {layers : List L} {place : ℕ} {value : V}
    → IsNearest set_by layers place value → (k : ℕ) → k < place → (d : L) → set_by (get_or layers k d) ≡ None
before_place {set_by = set_by} n k below d =
    let inside : k < length n.front = omega (arith, n.placed) in
    ap (λ xs. set_by (get_or xs k d)) n.divided ∙ ap set_by (get_or_append_left n.front (n.layer ∷ n.back) d k inside) ∙ n.before k d inside

pub within : {L V : Type 0} {set_by : L → Option V} {layers : List L} {place : ℕ} {value : V}
    → IsNearest set_by layers place value → place < length layers
within n = omega (arith, n.placed, ap length n.divided, length-append n.front (n.layer ∷ n.back))

not_before : {L V : Type 0} {set_by : L → Option V} {layers : List L} {place other : ℕ} {value second : V}
    → IsNearest set_by layers place value → IsNearest set_by layers other second → place < other → ⊥
not_before one two below = none-some _ (sym (before_place two _ below one.layer) ∙ at_place one one.layer)

-- none sets it, and one does
pub set_and_unset : {L V : Type 0} {set_by : L → Option V} {layers : List L} {place : ℕ} {value : V}
    → IsNearest set_by layers place value → SetsNone set_by layers → ⊥
set_and_unset n unset = none-some _ (sym (unset _ n.layer (within n)) ∙ at_place n n.layer)

pub one_nearest : {L V : Type 0} {set_by : L → Option V} {layers : List L} {place other : ℕ} {value second : V}
    → IsNearest set_by layers place value → IsNearest set_by layers other second → (value ≡ second) × (place ≡ other)
one_nearest {set_by = set_by} {layers = layers} {place = place} {other = other} one two =
    let same : place ≡ other = omega (arith, not_before one two, not_before two one) in
    (same_Some _ _ (sym (at_place one one.layer) ∙ ap (λ k. set_by (get_or layers k one.layer)) same ∙ at_place two one.layer), same)

-- and it is one layer
pub one_layer : {L V : Type 0} {set_by : L → Option V} {layers : List L} {place other : ℕ} {value second : V}
    → (one : IsNearest set_by layers place value) → (two : IsNearest set_by layers other second) → one.layer ≡ two.layer
one_layer {layers = layers} one two =
    layer_at one one.layer ∙ ap (λ k. get_or layers k one.layer) (one_nearest one two).1 ∙ sym (layer_at two one.layer)

-- profiles have one value of a setting, which comes from one place
pub one_of_profiles : {P V : Type 0} (by_profile : P → Option V) (profiles : List P) (fallback one second : V) (from other : Source)
    → IsOfProfiles by_profile profiles fallback one from → IsOfProfiles by_profile profiles fallback second other → (one ≡ second) × (from ≡ other)
one_of_profiles by_profile profiles fallback _ _ _ _ (of_profile p one this) (of_profile q second that) =
    let both = one_nearest this that in (both.0, ap a_profile both.1)
one_of_profiles by_profile profiles fallback _ _ _ _ (of_profile p one this) (of_fallback unset) = absurd (set_and_unset this unset)
one_of_profiles by_profile profiles fallback _ _ _ _ (of_fallback unset) (of_profile q second that) = absurd (set_and_unset that unset)
one_of_profiles by_profile profiles fallback _ _ _ _ (of_fallback unset) (of_fallback also) = (refl, refl)

pub one_setting : {R P V : Type 0} (id_of : R → OverrideId) (by_rule : R → Option V) (by_profile : P → Option V) → OneSetting id_of by_rule by_profile
one_setting id_of by_rule by_profile rules profiles fallback _ _ _ _ (of_rule one a this) (of_rule second b that) =
    let both = one_nearest this.nearest that.nearest in
    (both.0, ap an_override (this.named ∙ ap id_of (one_layer this.nearest that.nearest) ∙ sym that.named))
one_setting id_of by_rule by_profile rules profiles fallback _ _ _ _ (of_rule one a this) (of_profiles second other unset that) =
    absurd (set_and_unset this.nearest unset)
one_setting id_of by_rule by_profile rules profiles fallback _ _ _ _ (of_profiles one from unset this) (of_rule second b that) =
    absurd (set_and_unset that.nearest unset)
one_setting id_of by_rule by_profile rules profiles fallback _ _ _ _ (of_profiles one from unset this) (of_profiles second other also that) =
    one_of_profiles by_profile profiles fallback one second from other this that
