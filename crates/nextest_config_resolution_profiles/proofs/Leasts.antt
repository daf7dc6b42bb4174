-- The least of the rules of a list that holds and sets a value, as a loop looks for it.
use Rattle.std.proofs.Common.{◌≡◌, ℕ, ◌+◌, ◌<◌, ◌≤◌, List, ◌∷◌, Option, Some, length, get_or, map, take, drop, sym, ap, ◌∙◌, subst}
use Rattle.std.proofs.lemmas.List.{map-append, map_push, take_all}
use Rattle.std.proofs.lemmas.List.Elements.{All-nil, All-push}
use Rattle.nextest_config_resolution_load.proofs.Passing.{parted_at, taken_more}
use Rattle.nextest_config_resolution_settings.specs.Rules.{HoldsAndSets, IsLeast, NoneHoldsAndSets}

module _ {X R V : Type 0} (Holds : R → Type 0) (set_by : R → Option V) (seen : X → R) where
  abbrev pub NoneYet : List X → ℕ → Type 0
  NoneYet all place = NoneHoldsAndSets Holds set_by (map seen (take place all))

  pub none_yet : (all : List X) → NoneYet all 0
  none_yet all = All-nil (λ rule. ¬ HoldsAndSets Holds set_by rule)

  pub none_more : (all : List X) (place : ℕ) (x : X) → place < length all → x ≡ get_or all place x → NoneYet all place → ¬ HoldsAndSets Holds set_by (seen x) → NoneYet all (place + 1)
  none_more all place x within is before none =
      subst (NoneHoldsAndSets Holds set_by) (sym (ap (map seen) (taken_more all place x within is) ∙ map_push seen (take place all) x))
      (All-push (λ rule. ¬ HoldsAndSets Holds set_by rule) (map seen (take place all)) (seen x) before none)

  pub least_here : (all : List X) (place : ℕ) (x : X) (value : V) → place < length all → x ≡ get_or all place x → NoneYet all place → Holds (seen x) → set_by (seen x) ≡ Some value
      → IsLeast Holds set_by (map seen all) (seen x) value
  least_here all place x value within is before holds sets = record {
    front = map seen (take place all);
    back = map seen (drop (place + 1) all);
    divided = ap (map seen) (parted_at all place x within is) ∙ map-append seen (take place all) (x ∷ drop (place + 1) all);
    before = before;
    holds = holds;
    sets = sets;
  }

  pub none_at_all : (all : List X) (place : ℕ) → length all ≤ place → NoneYet all place → NoneHoldsAndSets Holds set_by (map seen all)
  none_at_all all place over before = subst (λ (front : List X). NoneHoldsAndSets Holds set_by (map seen front)) (take_all place all over) before
