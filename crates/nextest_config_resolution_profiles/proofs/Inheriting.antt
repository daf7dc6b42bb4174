-- The two profiles keep the rules of inheritance.
use Rattle.std.proofs.Common.{[], ◌∷◌, None, refl}
use Rattle.std.specs.Prelude.{All, codes}
use Rattle.std.proofs.lemmas.List.Elements.{All-nil, All-cons}
use Rattle.nextest_config_resolution_inheritance.specs.Inheritance.{Profile, Parents, Ends, KnowsParent, SetsNoneIfReserved}
use Rattle.nextest_config_resolution_profiles.specs.BuiltInLaws.{Accepted}

abbrev first : Profile
first = (codes "default", None)

abbrev second : Profile
second = (codes "default-miri", None)

abbrev both : Parents
both = first ∷ second ∷ []

of_both : (P : Profile → Type 0) → P first → P second → All P both
of_both P one other = All-cons P first (second ∷ []) one (All-cons P second [] other (All-nil P))

pub both_accepted : Accepted
both_accepted = record {
  reserved = of_both SetsNoneIfReserved (λ _. refl) (λ _. refl);
  known = of_both (KnowsParent both) tt tt;
  ending = of_both (λ profile. Ends both profile.0) (0, refl) (1, refl);
}
