-- The chain of a profile hangs on the profiles in it alone.
use Rattle.std.proofs.Common.{◌≡◌, suc, List, [], ◌∷◌, map, Option, refl, sym, ap, ◌∙◌, subst, arith}
use Rattle.std.specs.List.{All}
use Rattle.nextest_config_resolution_inheritance.specs.Inheritance.{Name, IsChain, next}
use Rattle.nextest_config_resolution_inheritance.specs.Inheritance.IsChain.{ends, goes_on}
use Rattle.nextest_config_resolution_load.specs.Checks.{parents_of}
use Rattle.nextest_config_resolution_profiles.specs.Config.{values_of}
use Rattle.nextest_config_resolution_profiles.specs.Laws.{SameChain}
use Rattle.nextest_config_resolution_profiles.proofs.Found.{next_by, next_of}
use Rattle.nextest_config_resolution_keys.specs.File.{Named}
use Rattle.nextest_config_resolution_keys.specs.declared.profile_config.ProfileConfig.{ProfileConfig}

module _ (profiles others : List Named) where
  abbrev pub Same : Name → Type 0
  Same it = values_of others it ≡ values_of profiles it

  same_next : (name : Name) → Same name → next (parents_of others) name ≡ next (parents_of profiles) name
  same_next name same = next_of others name ∙ ap next_by same ∙ sym (next_of profiles name)

  pub same_order : {name : Name} {names : List Name} → All Same names → IsChain (parents_of profiles) name names → IsChain (parents_of others) name names
  same_order each (ends is) = ends is
  same_order each (goes_on {name = name} {chain = chain} apart more) =
      goes_on apart
      (subst (λ (n : Name). IsChain (parents_of others) n chain) (sym (same_next name (each 0 name (omega arith))))
      (same_order (λ k d within. each (suc k) d (omega (arith, within))) more))

  same_values : (names : List Name) → All Same names → map (values_of others) names ≡ map (values_of profiles) names
  same_values [] each = refl
  same_values (name ∷ names) each =
      ap (λ (first : Option ProfileConfig). first ∷ map (values_of others) names) (each 0 name (omega arith))
      ∙ ap (λ (more : List (Option ProfileConfig)). values_of profiles name ∷ more) (same_values names (λ k d within. each (suc k) d (omega (arith, within))))

pub same_chain : SameChain
same_chain profiles others name values chain each = record {
  names = chain.names;
  in_order = same_order profiles others each chain.in_order;
  valued = same_values profiles others chain.names each ∙ chain.valued;
}
