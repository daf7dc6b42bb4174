use Rattle.std.proofs.Common.{◌≡◌, ℕ, ◌+◌, ◌<◌, ◌++◌, [], ◌∷◌, List, length, get_or, subst, sym, arith, inl, inr}
use Rattle.std.proofs.lemmas.Bool.{cases_lt}
use Rattle.std.proofs.Math.ListN.{get_or-append}
use Rattle.std.proofs.Math.Seq.{get_or-append_seam}
use Rattle.std.proofs.lemmas.Result.{err_from_is_err_and}
use Rattle.nextest_config_resolution_inheritance.specs.Inheritance.{Parents, Profile, profile_at}
use Rattle.nextest_config_resolution_inheritance.specs.Inherits.{parents_in}
use Rattle.nextest_config_resolution_inheritance.specs.Places.{IsPlaceOf}
use Rattle.nextest_config_resolution_inheritance.proofs.Found.{length_all, standing}
use Rattle.nextest_config_resolution_inheritance.proofs.Stages.{unknown_first}
use Rattle.nextest_config_resolution_inheritance.proofs.places.places_of_parents.Goals as goal

-- what holds of the items at their places holds with one more
one_more : (Holds : ℕ → ℕ → Type 0) (items : List ℕ) (size item : ℕ) → length items ≡ size → ((k : ℕ) → k < size → Holds k (get_or items k 0)) → Holds size item
    → (k : ℕ) → k < size + 1 → Holds k (get_or (items ++ item ∷ []) k 0)
one_more Holds items size item is below here k within = elim (cases_lt k size) [
  | inl before ↦ subst (Holds k) (sym (get_or-append items (item ∷ []) 0 k (omega arith))) (below k before)
  | inr from ↦
      let last : length items ≡ k = omega arith in
      let at : size ≡ k = omega arith in
      subst (λ j. Holds k (get_or (items ++ item ∷ []) j 0)) last (subst (Holds k) (sym (get_or-append_seam items item [] 0)) (subst (λ j. Holds j item) at here))
]

pub loop-profile-preserved : goal.loop-profile-preserved
loop-profile-preserved g c =
    let name_of = g.P.Inherits.name_of in
    let parent_of = g.P.Inherits.parent_of in
    let values = c.args.profiles.now in
    let all : Parents = parents_in name_of parent_of values in
    let k = c.loop-profile.profile-index in
    let item = c.profile-item.result in
    let is = standing name_of parent_of values k item c.loop-profile-test.true c.profile-item.is in
    let here = subst (λ (profile : Profile). IsPlaceOf all profile.1 c.in_ok-place.place) (sym is) c.in_ok-place.ensures.place in
    let size : length c.loop-profile.places.items ≡ k = omega (arith, c.loop-profile.places.ok.0, c.loop-profile.invariant.0) in
    let placed = one_more (λ j place. IsPlaceOf all (profile_at all j).1 place) c.loop-profile.places.items k c.in_ok-place.place size c.loop-profile.invariant.1 here in (
      omega (arith, c.in_ok-push.ensures.len),
      subst (λ (items : List ℕ). (j : ℕ) → j < k + 1 → IsPlaceOf all (profile_at all j).1 (get_or items j 0)) (sym c.in_ok-push.ensures.items) placed,
    )

pub returns-clause-places : goal.returns-clause-places
returns-clause-places g c =
    let size = length_all g.P.Inherits.name_of g.P.Inherits.parent_of c.args.profiles.now in
    let end = c.loop-profile.auto.profile-index-end in
    record {
      each = omega (arith, size, end, c.loop-profile.places.ok.0, c.loop-profile.invariant.0, c.loop-profile-test.false);
      placed = λ k within. c.loop-profile.invariant.1 k (omega (arith, size, end, c.loop-profile-test.false, within));
    }

pub returns-in_err-place-clause-err : goal.returns-in_err-place-clause-err
returns-in_err-place-clause-err g c =
    let name_of = g.P.Inherits.name_of in
    let parent_of = g.P.Inherits.parent_of in
    let values = c.args.profiles.now in
    let all : Parents = parents_in name_of parent_of values in
    let k = c.loop-profile.profile-index in
    let item = c.profile-item.result in
    let is = standing name_of parent_of values k item c.loop-profile-test.true c.profile-item.is in
    let told = err_from_is_err_and c.from_residual-in_err-place.result c.from_residual-in_err-place.ensures.1 in
    rw (told.1, told.2) (unknown_first all c.loop-profile.places.items k (name_of item) (parent_of item) c.in_err-place.field-0.0
    (omega (arith, length_all name_of parent_of values, c.loop-profile-test.true)) is c.requires.reserved c.loop-profile.invariant.1 c.in_err-place.ensures.err)
