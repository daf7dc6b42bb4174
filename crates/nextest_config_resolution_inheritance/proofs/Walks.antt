-- Walks from place to place.
use Rattle.std.proofs.Common.{◌≡◌, ◌≢◌, ℕ, zero, suc, ◌+◌, ◌<◌, ◌≤◌, List, length, get_or, set, cond, Bool, true, false, not, nat_eq, eq-eqb, refl, ap, sym, ◌∙◌, subst, ◌⊎◌, inl, inr, arith}
use Rattle.std.proofs.lemmas.Bool.{cases_eq, eqb-true}
use Rattle.std.proofs.lemmas.Bool.Decides.{nat_tests}
use Rattle.std.proofs.lemmas.List.Sums.{sum_by-set}
use Rattle.std.specs.Bool.{OnFalse}
use Rattle.std.specs.List.{sum_by}
use Rattle.std.proofs.lemmas.List.{get_or_default, get_or-set_same, get_or-set_other, length-set}
use Rattle.nextest_config_resolution_inheritance.specs.Places.{after, Leaves, AreKnown}

-- the walk that came by a place
abbrev pub walk_at : List ℕ → ℕ → ℕ
walk_at walks place = get_or walks place 0

-- the place of a place's parent
abbrev pub next_of : List ℕ → ℕ → ℕ
next_of parents place = get_or parents place (length parents)

-- a walk on its way: it came by some places, all of which lead to the one where it stands
pub record Walking (parents : List ℕ) (start : ℕ) (walks : List ℕ) (place : ℕ) : Type 0 where
  pub each : length walks ≡ length parents
  pub elsewhere : (p : ℕ) → p < length parents → walk_at walks p ≢ length parents → (walk_at walks p ≡ start) ⊎ ((walk_at walks p < start) × Leaves parents p)
  pub leads : (p : ℕ) → p < length parents → walk_at walks p ≡ start → Leaves parents place → Leaves parents p
  pub closed : (p : ℕ) → p < length parents → walk_at walks p ≡ start → ((next_of parents p < length parents) × (walk_at walks (next_of parents p) ≡ start)) ⊎ (next_of parents p ≡ place)
  pub begun : (walk_at walks start ≡ start) ⊎ (place ≡ start)

-- it begins
pub begins : (parents walks : List ℕ) (start : ℕ) → start < length parents → length walks ≡ length parents → AreKnown parents walks start → Walking parents start walks start
begins parents walks start within each known = record {
  each = each;
  elsewhere = λ p inside visited. inr (known p inside visited);
  leads = λ p inside is. absurd (fresh p inside is);
  closed = λ p inside is. absurd (fresh p inside is);
  begun = inr refl;
}
  where
    fresh : (p : ℕ) → p < length parents → walk_at walks p ≡ start → ⊥
    fresh p inside is =
        let visited : walk_at walks p ≢ length parents = omega arith in
        let below = (known p inside visited).0 in omega (arith, below, is)

-- it goes one step on
pub steps : (parents walks : List ℕ) (start place : ℕ) → start < length parents → place < length parents → walk_at walks place ≡ length parents
    → Walking parents start walks place → Walking parents start (set walks place start) (get_or parents place 0)
steps parents walks start place within inside unvisited walking = record {
  each = length-set walks place start ∙ walking.each;
  elsewhere = λ p below visited. elim (cases_eq p place) [
    | inl is ↦ inl (marked p is)
    | inr other ↦ subst (λ (w : ℕ). (w ≡ start) ⊎ ((w < start) × Leaves parents p)) (sym (kept p other))
        (walking.elsewhere p below (λ is. visited (kept p other ∙ is)))
  ];
  leads = λ p below is leaves. elim (cases_eq p place) [
    | inl same ↦ subst (λ (q : ℕ). Leaves parents q) (sym same) (back leaves)
    | inr other ↦ walking.leads p below (sym (kept p other) ∙ is) (back leaves)
  ];
  closed = λ p below is. elim (cases_eq p place) [
    | inl same ↦ inr (ap (λ (q : ℕ). next_of parents q) same ∙ sym goes)
    | inr other ↦ elim (walking.closed p below (sym (kept p other) ∙ is)) [
      | inl there ↦
          let apart : next_of parents p ≢ place = λ e. omega (arith, there.1, unvisited, within, ap (λ (q : ℕ). walk_at walks q) e) in
          inl (there.0, kept (next_of parents p) apart ∙ there.1)
      | inr here ↦ inl (subst (λ (q : ℕ). q < length parents) (sym here) inside, marked (next_of parents p) here)
    ]
  ];
  begun = elim (cases_eq start place) [
    | inl same ↦ inl (marked start same)
    | inr other ↦ elim walking.begun [
      | inl is ↦ inl (kept start other ∙ is)
      | inr same ↦ absurd (other (sym same))
    ]
  ];
}
  where
    marked : (p : ℕ) → p ≡ place → walk_at (set walks place start) p ≡ start
    marked p is = ap (λ (q : ℕ). walk_at (set walks place start) q) is ∙ get_or-set_same walks place start 0 (omega (arith, walking.each, inside))

    kept : (p : ℕ) → p ≢ place → walk_at (set walks place start) p ≡ walk_at walks p
    kept p other = get_or-set_other walks place p start 0 other

    goes : get_or parents place 0 ≡ next_of parents place
    goes = get_or_default parents place 0 (length parents) inside

    back : Leaves parents (get_or parents place 0) → Leaves parents place
    back leaves = (suc leaves.0, subst (λ (q : ℕ). length parents ≤ after parents leaves.0 q) goes leaves.1)

from_here : (parents walks : List ℕ) (start place : ℕ) → start < length parents → Walking parents start walks place → Leaves parents place → Leaves parents start
from_here parents walks start place within walking leaves =
    elim walking.begun [
      | inl is ↦ walking.leads start within is leaves
      | inr same ↦ subst (λ (q : ℕ). Leaves parents q) same leaves
    ]

all_known : (parents walks : List ℕ) (start place : ℕ) → Walking parents start walks place → Leaves parents place → AreKnown parents walks (start + 1)
all_known parents walks start place walking leaves p inside visited =
    elim (walking.elsewhere p inside visited) [
      | inl is ↦ (omega (arith, is), walking.leads p inside is leaves)
      | inr known ↦ (omega (arith, known.0), known.1)
    ]

-- it stands where it leaves: past the end, or at a place of another walk
pub leaves_here : (parents walks : List ℕ) (start place : ℕ) → Walking parents start walks place
    → (length parents ≤ place) ⊎ ((place < length parents) × (walk_at walks place ≢ length parents) × (walk_at walks place ≢ start)) → Leaves parents place
leaves_here parents walks start place walking (inl past) = (0, past)
leaves_here parents walks start place walking (inr (inside, visited, other)) =
    elim (walking.elsewhere place inside visited) [
      | inl is ↦ absurd (other is)
      | inr known ↦ known.1
    ]

pub record Left (parents walks : List ℕ) (start : ℕ) : Type 0 where
  pub known : AreKnown parents walks (start + 1)
  pub leaves : Leaves parents start

pub left : (parents walks : List ℕ) (start place : ℕ) → start < length parents → Walking parents start walks place
    → (length parents ≤ place) ⊎ ((place < length parents) × (walk_at walks place ≢ length parents) × (walk_at walks place ≢ start)) → Left parents walks start
left parents walks start place within walking where_it_stands =
    let leaves = leaves_here parents walks start place walking where_it_stands in
    record { known = all_known parents walks start place walking leaves; leaves = from_here parents walks start place within walking leaves }

-- it stands where it came by: then it never leaves
stays : (parents walks : List ℕ) (start place : ℕ) → Walking parents start walks place → place < length parents → walk_at walks place ≡ start
    → (n p : ℕ) → p < length parents → walk_at walks p ≡ start → after parents n p < length parents
stays parents walks start place walking inside is zero p below came = below
stays parents walks start place walking inside is (suc n) p below came =
    elim (walking.closed p below came) [
      | inl there ↦ stays parents walks start place walking inside is n (next_of parents p) there.0 there.1
      | inr here ↦ stays parents walks start place walking inside is n (next_of parents p)
          (subst (λ (q : ℕ). q < length parents) (sym here) inside) (ap (λ (q : ℕ). walk_at walks q) here ∙ is)
    ]

pub never : (parents walks : List ℕ) (start place : ℕ) → start < length parents → Walking parents start walks place → place < length parents → walk_at walks place ≡ start
    → ¬ Leaves parents start
never parents walks start place within walking inside is leaves =
    let began : walk_at walks start ≡ start = elim walking.begun [
      | inl came ↦ came
      | inr same ↦ ap (λ (q : ℕ). walk_at walks q) (sym same) ∙ is
    ] in
    let below = stays parents walks start place walking inside is leaves.0 start within began in
    omega (arith, below, leaves.1)

-- what the code asks where a walk stands
pub turned : (parents walks : List ℕ) (start place : ℕ) → start < length parents → Walking parents start walks place → place < length parents
    → (came : Bool) → nat_eq (walk_at walks place) start ≡ came → OnFalse (not came) (¬ Leaves parents start)
turned parents walks start place within walking inside true is = never parents walks start place within walking inside (eqb-true (walk_at walks place) start is)
turned parents walks start place within walking inside false is = tt

-- how many places no walk came by
pub weight : ℕ → ℕ → ℕ
weight n walk = cond (nat_eq walk n) 1 0

abbrev pub unvisited : List ℕ → List ℕ → ℕ
unvisited parents walks = sum_by (weight (length parents)) walks

heavy : (n walk : ℕ) → walk ≡ n → weight n walk ≡ 1
unfolding weight
heavy n walk is = ap (λ (b : Bool). cond b 1 0) (eq-eqb walk n is)

light : (n walk : ℕ) → walk < n → weight n walk ≡ 0
unfolding weight
light n walk below = grind (arith, nat_tests)

pub fewer : (parents walks : List ℕ) (start place : ℕ) → start < length parents → place < length walks → walk_at walks place ≡ length parents
    → unvisited parents (set walks place start) < unvisited parents walks
fewer parents walks start place within inside is =
    omega (arith, sum_by-set (weight (length parents)) walks place start 0 inside, heavy (length parents) (get_or walks place 0) is, light (length parents) start within)
