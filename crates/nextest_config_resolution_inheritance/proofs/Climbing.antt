-- The way from a profile to `default`.
use Rattle.std.proofs.Common.{◌≡◌, ◌≢◌, ℕ, zero, suc, ◌+◌, ◌-◌, ◌<◌, ◌≤◌, List, [], ◌∷◌, ◌++◌, length, get_or, Bool, true, false, not, eqb, refl, ap, sym, ◌∙◌, subst, inl, inr, arith, append_assoc}
use Rattle.std.proofs.Math.Seq.{get_or-append_seam}
use Rattle.std.proofs.lemmas.Bool.{cases_lt, eqb-true}
use Rattle.std.proofs.lemmas.Bool.Decides.{not_from_Decides}
use Rattle.std.proofs.lemmas.Slice.Eq.{bytes_eq-Decides}
use Rattle.std.specs.Str.{bytes_eq}
use Rattle.std.proofs.lemmas.List.{get_or_default, get_or_append_left, length-append, map-append}
use Rattle.std.proofs.lemmas.List.Folds.{Any-from_list_any}
use Rattle.std.proofs.lemmas.Map.Keys.{IsDistinct-from_apart}
use Rattle.std.proofs.lemmas.Map.Steps.{length-le_from_distinct_below}
use Rattle.std.specs.List.{All}
use Rattle.nextest_config_resolution_inheritance.specs.Inheritance.{Name, Parents, default, next, ancestor, Ends, IsChain, IsAccepted, name_at, names_at}
use Rattle.nextest_config_resolution_inheritance.specs.Inheritance.IsChain.{ends, goes_on}
use Rattle.nextest_config_resolution_inheritance.proofs.Found.{at_all}

-- steps in a row
ancestor-add : (all : Parents) (a b : ℕ) (name : Name) → ancestor all (a + b) name ≡ ancestor all b (ancestor all a name)
ancestor-add all zero b name = ap (λ (n : ℕ). ancestor all n name) (let e : 0 + b ≡ b = omega arith in e)
ancestor-add all (suc a) b name =
    ap (λ (n : ℕ). ancestor all n name) (let e : suc a + b ≡ suc (a + b) = omega arith in e) ∙ ancestor-add all a b (next all name)

ancestor-next : (all : Parents) (n : ℕ) (name : Name) → ancestor all (n + 1) name ≡ next all (ancestor all n name)
ancestor-next all n name = ancestor-add all n 1 name

-- what comes back before it ends never does
pub never : (all : Parents) (name : Name) (i j : ℕ) → i < j → ancestor all i name ≡ ancestor all j name → ((k : ℕ) → k < j → ancestor all k name ≢ default)
    → (fuel t : ℕ) → t < fuel → ancestor all t name ≢ default
never all name i j below same passed zero t short ended = omega (arith, short)
never all name i j below same passed (suc fuel) t short ended =
    elim (cases_lt t j) [
      | inl early ↦ passed t early ended
      | inr late ↦
          let left = t - j in
          let sum : j + left ≡ t = omega (arith, late) in
          let back : ancestor all (i + left) name ≡ default =
          ancestor-add all i left name ∙ ap (λ (from : Name). ancestor all left from) same ∙ sym (ancestor-add all j left name) ∙ ap (λ (n : ℕ). ancestor all n name) sum ∙ ended in
          never all name i j below same passed fuel (i + left) (omega (arith, below, late, short, sum)) back
    ]

-- how far the way has come: it passed the places of a chain, none of which is that of `default`
pub record Climbing (all : Parents) (place : ℕ) (chain : List ℕ) (here : ℕ) : Type 0 where
  pub within : here < length all
  pub inside : All (λ p. p < length all) chain
  pub leads : (rest : List Name) → IsChain all (name_at all here) rest → IsChain all (name_at all place) (names_at all chain ++ rest)
  pub stands : name_at all here ≡ ancestor all (length chain) (name_at all place)
  pub passed : (k : ℕ) → k < length chain → (name_at all (get_or chain k 0) ≡ ancestor all k (name_at all place)) × (ancestor all k (name_at all place) ≢ default)

pub sets_out : (all : Parents) (place : ℕ) → place < length all → Climbing all place [] place
sets_out all place within = record {
  within = within;
  inside = λ k d short. absurd (omega (arith, short));
  leads = λ rest chain. chain;
  stands = refl;
  passed = λ k short. absurd (omega (arith, short));
}

one_more : (chain : List ℕ) (here : ℕ) → length (chain ++ here ∷ []) ≡ length chain + 1
one_more chain here = omega (arith, length-append chain (here ∷ []))

more : (P : ℕ → ℕ → Type 0) (chain : List ℕ) (here d : ℕ) → ((k : ℕ) → k < length chain → P k (get_or chain k d)) → P (length chain) here
    → (k : ℕ) → k < length (chain ++ here ∷ []) → P k (get_or (chain ++ here ∷ []) k d)
more P chain here d each last k inside =
    elim (cases_lt k (length chain)) [
      | inl below ↦ subst (P k) (sym (get_or_append_left chain (here ∷ []) d k below)) (each k below)
      | inr from ↦
          let is : length chain ≡ k = omega (arith, from, inside, one_more chain here) in
          subst (λ (n : ℕ). P n (get_or (chain ++ here ∷ []) n d)) is (subst (P (length chain)) (sym (get_or-append_seam chain here [] d)) last)
    ]

pub climbs : (all : Parents) (place : ℕ) (chain : List ℕ) (here then : ℕ) → Climbing all place chain here → name_at all here ≢ default
    → then < length all → name_at all then ≡ next all (name_at all here) → Climbing all place (chain ++ here ∷ []) then
climbs all place chain here then climbing apart within is = record {
  within = within;
  inside = λ k d short. more (λ k p. p < length all) chain here d (λ j below. climbing.inside j d below) climbing.within k short;
  leads = λ rest behind.
      let on : IsChain all (name_at all here) (name_at all here ∷ rest) = goes_on apart (subst (λ (name : Name). IsChain all name rest) is behind) in
      let row : names_at all chain ++ name_at all here ∷ rest ≡ names_at all (chain ++ here ∷ []) ++ rest =
      sym (ap (λ (names : List Name). names ++ rest) (map-append (name_at all) chain (here ∷ [])) ∙ append_assoc (names_at all chain) (name_at all here ∷ []) rest) in
      subst (λ (names : List Name). IsChain all (name_at all place) names) row (climbing.leads (name_at all here ∷ rest) on);
  stands = is ∙ ap (next all) climbing.stands ∙ sym (ancestor-next all (length chain) (name_at all place)) ∙ ap (λ (n : ℕ). ancestor all n (name_at all place)) (sym (one_more chain here));
  passed = more (λ k p. (name_at all p ≡ ancestor all k (name_at all place)) × (ancestor all k (name_at all place) ≢ default)) chain here 0 climbing.passed
      (climbing.stands, λ ended. apart (climbing.stands ∙ ended));
}

-- the places that it passed differ, so they are few
pub few : (all : Parents) (place : ℕ) (chain : List ℕ) (here : ℕ) → place < length all → IsAccepted all → Climbing all place chain here → length chain ≤ length all
few all place chain here start accepted climbing =
    length-le_from_distinct_below chain (length all) (IsDistinct-from_apart eqb chain apart)
    (λ q is. let any = Any-from_list_any (eqb q) chain is in
    let same : q ≡ any.1 = eqb-true q any.1 any.4 in
    subst (λ (p : ℕ). p < length all) (any.3 ∙ sym same) (climbing.inside any.0 any.1 any.2))
  where
    end : Ends all (name_at all place)
    end = at_all (λ profile. Ends all profile.0) all accepted.ending place start

    differs : (i j : ℕ) → i < j → j < length chain → get_or chain i 0 ≡ get_or chain j 0 → ⊥
    differs i j below inside same =
        let again : ancestor all i (name_at all place) ≡ ancestor all j (name_at all place) =
        sym (climbing.passed i (omega (arith, below, inside))).0 ∙ ap (name_at all) same ∙ (climbing.passed j inside).0 in
        never all (name_at all place) i j below again (λ k short. (climbing.passed k (omega (arith, short, inside))).1) (suc end.0) end.0 (omega arith) end.1

    apart : (i j d : ℕ) → i < j → j < length chain → eqb (get_or chain i d) (get_or chain j d) ≡ false
    apart i j d below inside = by_test (eqb (get_or chain i d) (get_or chain j d)) refl
      where
        by_test : (b : Bool) → eqb (get_or chain i d) (get_or chain j d) ≡ b → b ≡ false
        by_test true is =
            absurd (differs i j below inside
            (get_or_default chain i 0 d (omega (arith, below, inside)) ∙ eqb-true (get_or chain i d) (get_or chain j d) is ∙ get_or_default chain j d 0 inside))
        by_test false is = refl

-- it arrives at `default`
pub arrives : (all : Parents) (place : ℕ) (chain : List ℕ) (here : ℕ) → Climbing all place chain here → name_at all here ≡ default
    → IsChain all (name_at all place) (names_at all (chain ++ here ∷ []))
arrives all place chain here climbing is =
    subst (λ (names : List Name). IsChain all (name_at all place) names) (sym (map-append (name_at all) chain (here ∷ []))) (climbing.leads (name_at all here ∷ []) (ends is))

pub all_inside : (all : Parents) (place : ℕ) (chain : List ℕ) (here : ℕ) → Climbing all place chain here → All (λ p. p < length all) (chain ++ here ∷ [])
all_inside all place chain here climbing k d short = more (λ k p. p < length all) chain here d (λ j below. climbing.inside j d below) climbing.within k short

-- what the code asks of a name
pub is_default : (name : Name) → false ≡ not (bytes_eq name default) → name ≡ default
is_default name asked = (bytes_eq-Decides name default).0 (turned (bytes_eq name default) asked)
  where
    turned : (b : Bool) → false ≡ not b → b ≡ true
    turned true is = refl
    turned false is = cc

pub is_other : (name : Name) → true ≡ not (bytes_eq name default) → name ≢ default
is_other name asked = not_from_Decides (bytes_eq name default) (bytes_eq-Decides name default) (turned (bytes_eq name default) asked)
  where
    turned : (b : Bool) → true ≡ not b → b ≡ false
    turned true is = cc
    turned false is = refl

-- one more place is passed, and still no more than there are
pub closer : (all : Parents) (place : ℕ) (chain : List ℕ) (here then : ℕ) → place < length all → IsAccepted all → Climbing all place (chain ++ here ∷ []) then
    → length all - length (chain ++ here ∷ []) < length all - length chain
closer all place chain here then start accepted climbing =
    omega (arith, few all place (chain ++ here ∷ []) then start accepted climbing, one_more chain here)
