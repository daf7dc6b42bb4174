-- What the steps of an evaluation come to.
use Rattle.std.proofs.Common.{◌≡◌, refl, ℕ, ◌<◌, ◌≤◌, Bool, true, false, List, [], ◌∷◌, ◌++◌, length, Option, None, Some, ap, sym, ◌∙◌, subst, inl, inr, arith, length-append}
use Rattle.std.specs.Prelude.{◌==◌, ◌≢◌, not, option_map}
use Rattle.std.proofs.lemmas.Bool.{eqb-false}
use Rattle.std.proofs.lemmas.List.{same_from_push}
use Rattle.test_runner_core_platforms.specs.Spec.{Condition, fact, fact_value, negation, all_of, any_of, Conditions, no_conditions, with_first}
use Rattle.test_runner_core_platforms.specs.Evaluating.{value_in, LeadsInside, IsApart, IsEither}
use Rattle.test_runner_core_platforms.specs.Facts.{answer_of}
use Rattle.test_runner_core_platforms.specs.Flat.{with_last, joined_by, flat, flat_all, condition_of, conditions_of, IsFlat, AreFlat, IsLastChild}
use Rattle.test_runner_core_platforms.specs.Joints.{join_by, none_by, outcome, value_by}
use Rattle.test_runner_core_platforms.specs.Meaning.{both, either, condition_value}
use Rattle.test_runner_core_platforms.specs.declared.fact.Fact.{Fact}
use Rattle.test_runner_core_platforms.specs.declared.outcomes.Outcomes.{Outcomes}
use Rattle.test_runner_core_platforms.specs.declared.part.Joint.{Joint}
use Rattle.test_runner_core_platforms.specs.declared.part.Joint.TheVariants as joints
use Rattle.test_runner_core_platforms.specs.declared.part.Part.{Part}
use Rattle.test_runner_core_platforms.specs.declared.part.Part.TheVariants as part
use Rattle.test_runner_core_platforms.proofs.Flat.{condition-flat, conditions-flat, is_flat, are_flat, flat_some}

-- ---- three values

both_comm : (x y : Option Bool) → both x y ≡ both y x
both_comm (Some true) (Some true) = refl
both_comm (Some true) (Some false) = refl
both_comm (Some true) None = refl
both_comm (Some false) (Some true) = refl
both_comm (Some false) (Some false) = refl
both_comm (Some false) None = refl
both_comm None (Some true) = refl
both_comm None (Some false) = refl
both_comm None None = refl

either_comm : (x y : Option Bool) → either x y ≡ either y x
either_comm (Some true) (Some true) = refl
either_comm (Some true) (Some false) = refl
either_comm (Some true) None = refl
either_comm (Some false) (Some true) = refl
either_comm (Some false) (Some false) = refl
either_comm (Some false) None = refl
either_comm None (Some true) = refl
either_comm None (Some false) = refl
either_comm None None = refl

both_assoc : (x y z : Option Bool) → both (both x y) z ≡ both x (both y z)
both_assoc (Some true) y z = refl
both_assoc (Some false) y z = refl
both_assoc None (Some true) z = refl
both_assoc None (Some false) z = refl
both_assoc None None (Some true) = refl
both_assoc None None (Some false) = refl
both_assoc None None None = refl

either_assoc : (x y z : Option Bool) → either (either x y) z ≡ either x (either y z)
either_assoc (Some true) y z = refl
either_assoc (Some false) y z = refl
either_assoc None (Some true) z = refl
either_assoc None (Some false) z = refl
either_assoc None None (Some true) = refl
either_assoc None None (Some false) = refl
either_assoc None None None = refl

join_comm : (joint : Joint) (x y : Option Bool) → join_by joint x y ≡ join_by joint y x
join_comm joints.All x y = both_comm x y
join_comm joints.Any x y = either_comm x y

join_assoc : (joint : Joint) (x y z : Option Bool) → join_by joint (join_by joint x y) z ≡ join_by joint x (join_by joint y z)
join_assoc joints.All x y z = both_assoc x y z
join_assoc joints.Any x y z = either_assoc x y z

join-none : (joint : Joint) (x : Option Bool) → join_by joint (none_by joint) x ≡ x
join-none joints.All x = refl
join-none joints.Any x = refl

none-join : (joint : Joint) (x : Option Bool) → join_by joint x (none_by joint) ≡ x
none-join joint x = join_comm joint x (none_by joint) ∙ join-none joint x

-- ---- conditions that are joined

value_none : (joint : Joint) (known : List Fact) → value_by joint known no_conditions ≡ none_by joint
value_none joints.All known = refl
value_none joints.Any known = refl

value_first : (joint : Joint) (known : List Fact) (it : Condition) (each : Conditions) → value_by joint known (with_first it each) ≡ join_by joint (condition_value known it) (value_by joint known each)
value_first joints.All known it each = refl
value_first joints.Any known it each = refl

value_joined : (joint : Joint) (known : List Fact) (each : Conditions) → condition_value known (joined_by joint each) ≡ value_by joint known each
value_joined joints.All known each = refl
value_joined joints.Any known each = refl

value_last : (joint : Joint) (known : List Fact) (each : Conditions) (it : Condition) → value_by joint known (with_last each it) ≡ join_by joint (value_by joint known each) (condition_value known it)
value_last joint known no_conditions it =
    value_first joint known it no_conditions
    ∙ (join_comm joint (condition_value known it) (value_by joint known no_conditions))
value_last joint known (with_first first each) it =
    value_first joint known first (with_last each it)
    ∙ (ap (join_by joint (condition_value known first)) (value_last joint known each it)
    ∙ (sym (join_assoc joint (condition_value known first) (value_by joint known each) (condition_value known it))
    ∙ ap (λ (v : Option Bool). join_by joint v (condition_value known it)) (sym (value_first joint known first each))))

-- ---- what a condition ends in

-- the condition that the last part makes of those before it
abbrev made_by : List Part → Part → Condition
made_by front (part.Fact name) = fact name
made_by front (part.FactValue name value) = fact_value name value
made_by front (part.Not inside) = negation (condition_of front)
made_by front (part.Joined joint inside) = joined_by joint (conditions_of front)

abbrev InFront : List Part → Part → Type 0
InFront front (part.Fact name) = Unit {0}
InFront front (part.FactValue name value) = Unit {0}
InFront front (part.Not inside) = IsFlat front
InFront front (part.Joined joint inside) = AreFlat front

record Ends (front : List Part) (last : Part) (it : Condition) : Type 0 where
  pub is : it ≡ made_by front last
  pub before : InFront front last

ends_same : (it : Condition) (front one : List Part) (last other : Part) → Ends one other it → one ++ other ∷ [] ≡ front ++ last ∷ [] → Ends front last it
ends_same it front one last other ends is =
    let same = same_from_push one front other last is in
    subst (λ (l : List Part). Ends l last it) same.0 (subst (λ (p : Part). Ends one p it) same.1 ends)

ends_as : (it : Condition) (front : List Part) (last : Part) → flat it ≡ front ++ last ∷ [] → Ends front last it
ends_as (fact name) front last is = ends_same (fact name) front [] last (part.Fact name) (record { is = refl; before = tt }) is
ends_as (fact_value name value) front last is = ends_same (fact_value name value) front [] last (part.FactValue name value) (record { is = refl; before = tt }) is
ends_as (negation it) front last is =
    ends_same (negation it) front (flat it) last (part.Not (length (flat it))) (record { is = ap negation (sym (condition-flat it)); before = is_flat (flat it) it refl }) is
ends_as (all_of each) front last is =
    ends_same (all_of each) front (flat_all each) last (part.Joined joints.All (length (flat_all each)))
    (record { is = ap all_of (sym (conditions-flat each)); before = are_flat (flat_all each) each refl }) is
ends_as (any_of each) front last is =
    ends_same (any_of each) front (flat_all each) last (part.Joined joints.Any (length (flat_all each)))
    (record { is = ap any_of (sym (conditions-flat each)); before = are_flat (flat_all each) each refl }) is

ends_in : (parts front : List Part) (last other : Part) → IsFlat parts → parts ≡ front ++ last ∷ [] → last ≡ other → Ends front other (condition_of parts)
ends_in parts front last other flat at is = subst (λ (p : Part). Ends front p (condition_of parts)) is (ends_as (condition_of parts) front last (sym flat ∙ at))

-- ---- one step down

pub fact_leads : (known : List Fact) (parts front : List Part) (last : Part) (name : List ℕ) (value : Option Bool) → IsFlat parts → parts ≡ front ++ last ∷ [] → last ≡ part.Fact name
    → value ≡ answer_of known name None → value ≡ value_in known parts
fact_leads known parts front last name value flat at is answer = answer ∙ ap (condition_value known) (sym (ends_in parts front last (part.Fact name) flat at is).is)

pub value_leads : (known : List Fact) (parts front : List Part) (last : Part) (name text : List ℕ) (value : Option Bool) → IsFlat parts → parts ≡ front ++ last ∷ [] → last ≡ part.FactValue name text
    → value ≡ answer_of known name (Some text) → value ≡ value_in known parts
value_leads known parts front last name text value flat at is answer = answer ∙ ap (condition_value known) (sym (ends_in parts front last (part.FactValue name text) flat at is).is)

pub fewer : (parts front : List Part) (last : Part) → parts ≡ front ++ last ∷ [] → length front < length parts
fewer parts front last at = Prim.omega (arith, ap length at, length-append front (last ∷ []))

pub some_left : (parts : List Part) (none : Bool) → none ≡ (length parts == 0) → none ≡ false → 0 < length parts
some_left parts none is not_none = let some : length parts ≢ 0 = eqb-false (length parts) 0 (sym is ∙ not_none) in Prim.omega arith

pub negation_leads : (known : List Fact) (parts front : List Part) (last : Part) (inside : ℕ) (outcomes : Outcomes) → IsFlat parts → parts ≡ front ++ last ∷ [] → last ≡ part.Not inside
    → ((value : Option Bool) → outcome outcomes value ≡ option_map not value) → LeadsInside known parts outcomes front
negation_leads known parts front last inside outcomes flat at is negates =
    let ends = ends_in parts front last (part.Not inside) flat at is in
    record {
      flat = ends.before;
      fewer = fewer parts front last at;
      value = negates (value_in known front) ∙ ap (condition_value known) (sym ends.is);
    }

pub joined_front : (parts front : List Part) (last : Part) (joint : Joint) (inside : ℕ) → IsFlat parts → parts ≡ front ++ last ∷ [] → last ≡ part.Joined joint inside → AreFlat front
joined_front parts front last joint inside flat at is = (ends_in parts front last (part.Joined joint inside) flat at is).before

joined_value : (known : List Fact) (parts front : List Part) (last : Part) (joint : Joint) (inside : ℕ) → IsFlat parts → parts ≡ front ++ last ∷ [] → last ≡ part.Joined joint inside
    → value_by joint known (conditions_of front) ≡ value_in known parts
joined_value known parts front last joint inside flat at is =
    sym (value_joined joint known (conditions_of front)) ∙ ap (condition_value known) (sym (ends_in parts front last (part.Joined joint inside) flat at is).is)

none_value : (known : List Fact) (parts : List Part) (joint : Joint) → parts ≡ [] → value_by joint known (conditions_of parts) ≡ none_by joint
none_value known parts joint none = ap (λ (l : List Part). value_by joint known (conditions_of l)) none ∙ value_none joint known

pub none_leads : (known : List Fact) (parts front : List Part) (last : Part) (joint : Joint) (inside : ℕ) (value : Option Bool) → IsFlat parts → parts ≡ front ++ last ∷ [] → last ≡ part.Joined joint inside
    → front ≡ [] → value ≡ none_by joint → value ≡ value_in known parts
none_leads known parts front last joint inside value flat at is none same =
    same ∙ (sym (none_value known front joint none) ∙ joined_value known parts front last joint inside flat at is)

pub joined_leads : (known : List Fact) (parts front : List Part) (last : Part) (joint : Joint) (inside : ℕ) (found : Option Bool) (largest : List Part) (outcomes : Outcomes)
    → IsFlat parts → parts ≡ front ++ last ∷ [] → last ≡ part.Joined joint inside → IsApart joint known front found largest
    → ((value : Option Bool) → outcome outcomes value ≡ join_by joint found value) → LeadsInside known parts outcomes largest
joined_leads known parts front last joint inside found largest outcomes flat at is apart joins = record {
  flat = apart.flat;
  fewer = Prim.omega (arith, apart.within, fewer parts front last at);
  value = joins (value_in known largest) ∙ (apart.value ∙ joined_value known parts front last joint inside flat at is);
}

-- ---- one step after another

-- the value of a condition is told by that of a part of it, or of itself
pub record Down (known : List Fact) (parts : List Part) (outcomes : Outcomes) (inside : List Part) : Type 0 where
  pub flat : IsFlat inside
  pub within : length inside ≤ length parts
  pub value : outcome outcomes (value_in known inside) ≡ value_in known parts

pub down_none : (known : List Fact) (parts : List Part) (outcomes : Outcomes) → IsFlat parts → ((value : Option Bool) → outcome outcomes value ≡ value) → Down known parts outcomes parts
down_none known parts outcomes flat same = record { flat = flat; within = Prim.omega arith; value = same (value_in known parts) }

pub down_once : (known : List Fact) (parts rest inside : List Part) (outcomes inner new : Outcomes) → Down known parts outcomes rest → LeadsInside known rest inner inside
    → ((value : Option Bool) → outcome new value ≡ outcome outcomes (outcome inner value)) → Down known parts new inside
down_once known parts rest inside outcomes inner new down leads through = record {
  flat = leads.flat;
  within = Prim.omega (arith, down.within, leads.fewer);
  value = through (value_in known inside) ∙ (ap (outcome outcomes) leads.value ∙ down.value);
}

pub down_known : (known : List Fact) (parts rest : List Part) (outcomes : Outcomes) (value whole : Option Bool) → Down known parts outcomes rest → value ≡ value_in known rest
    → whole ≡ outcome outcomes value → whole ≡ value_in known parts
down_known known parts rest outcomes value whole down is at = at ∙ (ap (outcome outcomes) is ∙ down.value)

-- ---- all conditions but one

-- so far, the conditions behind the rest come to this, joined with what the largest of them comes
-- to
pub record Apart (joint : Joint) (known : List Fact) (parts rest : List Part) (found : Option Bool) (largest : List Part) : Type 0 where
  pub rest_flat : AreFlat rest
  pub rest_within : length rest ≤ length parts
  pub flat : IsFlat largest
  pub within : length largest ≤ length parts
  pub value : join_by joint (join_by joint found (value_in known largest)) (value_by joint known (conditions_of rest)) ≡ value_by joint known (conditions_of parts)

child_value : (joint : Joint) (known : List Fact) (rest ahead child : List Part) → IsLastChild rest ahead child
    → value_by joint known (conditions_of rest) ≡ join_by joint (value_in known child) (value_by joint known (conditions_of ahead))
child_value joint known rest ahead child split =
    ap (value_by joint known) split.each
    ∙ (value_last joint known (conditions_of ahead) (condition_of child) ∙ join_comm joint (value_by joint known (conditions_of ahead)) (value_in known child))

pub apart_first : (joint : Joint) (known : List Fact) (parts ahead last : List Part) (found : Option Bool) → IsLastChild parts ahead last → found ≡ none_by joint → Apart joint known parts ahead found last
apart_first joint known parts ahead last found split none = record {
  rest_flat = split.ahead_flat;
  rest_within = Prim.omega (arith, ap length split.whole, length-append ahead last);
  flat = split.child_flat;
  within = Prim.omega (arith, ap length split.whole, length-append ahead last);
  value = ap (λ (v : Option Bool). join_by joint v (value_by joint known (conditions_of ahead)))
      (ap (λ (v : Option Bool). join_by joint v (value_in known last)) none ∙ join-none joint (value_in known last))
      ∙ sym (child_value joint known parts ahead last split);
}

-- the smaller one first, then the larger one, in either order
swapped : (joint : Joint) (found one other rest : Option Bool) → join_by joint (join_by joint (join_by joint found one) other) rest ≡ join_by joint (join_by joint found one) (join_by joint other rest)
swapped joint found one other rest = join_assoc joint (join_by joint found one) other rest

crossed : (joint : Joint) (found one other rest : Option Bool) → join_by joint (join_by joint (join_by joint found other) one) rest ≡ join_by joint (join_by joint found one) (join_by joint other rest)
crossed joint found one other rest =
    ap (λ (v : Option Bool). join_by joint v rest)
    (join_assoc joint found other one ∙ (ap (join_by joint found) (join_comm joint other one) ∙ sym (join_assoc joint found one other)))
    ∙ swapped joint found one other rest

pub apart_once : (joint : Joint) (known : List Fact) (parts rest before child largest larger smaller : List Part) (found value new : Option Bool)
    → Apart joint known parts rest found largest → IsLastChild rest before child → IsEither child largest larger smaller
    → value ≡ value_in known smaller → new ≡ join_by joint found value → Apart joint known parts before new larger
apart_once joint known parts rest before child largest larger smaller found value new so_far split (inl same) of joins =
    let step : new ≡ join_by joint found (value_in known largest) = joins ∙ ap (join_by joint found) (of ∙ ap (value_in known) same.1) in
    record {
      rest_flat = split.ahead_flat;
      rest_within = Prim.omega (arith, so_far.rest_within, ap length split.whole, length-append before child);
      flat = subst IsFlat (sym same.0) split.child_flat;
      within = Prim.omega (arith, so_far.rest_within, ap length same.0, ap length split.whole, length-append before child);
      value = ap (λ (v : Option Bool). join_by joint v (value_by joint known (conditions_of before)))
          (ap (λ (v : Option Bool). join_by joint v (value_in known larger)) step ∙ ap (λ (l : List Part). join_by joint (join_by joint found (value_in known largest)) (value_in known l)) same.0)
          ∙ (swapped joint found (value_in known largest) (value_in known child) (value_by joint known (conditions_of before))
          ∙ (ap (join_by joint (join_by joint found (value_in known largest))) (sym (child_value joint known rest before child split)) ∙ so_far.value));
    }
apart_once joint known parts rest before child largest larger smaller found value new so_far split (inr same) of joins =
    let step : new ≡ join_by joint found (value_in known child) = joins ∙ ap (join_by joint found) (of ∙ ap (value_in known) same.1) in
    record {
      rest_flat = split.ahead_flat;
      rest_within = Prim.omega (arith, so_far.rest_within, ap length split.whole, length-append before child);
      flat = subst IsFlat (sym same.0) so_far.flat;
      within = Prim.omega (arith, so_far.within, ap length same.0);
      value = ap (λ (v : Option Bool). join_by joint v (value_by joint known (conditions_of before)))
          (ap (λ (v : Option Bool). join_by joint v (value_in known larger)) step ∙ ap (λ (l : List Part). join_by joint (join_by joint found (value_in known child)) (value_in known l)) same.0)
          ∙ (crossed joint found (value_in known largest) (value_in known child) (value_by joint known (conditions_of before))
          ∙ (ap (join_by joint (join_by joint found (value_in known largest))) (sym (child_value joint known rest before child split)) ∙ so_far.value));
    }

-- the smaller one is the condition of its parts, which are no more
pub smaller_flat : (joint : Joint) (known : List Fact) (parts rest before child largest larger smaller : List Part) (found : Option Bool)
    → Apart joint known parts rest found largest → IsLastChild rest before child → IsEither child largest larger smaller → IsFlat smaller × (length smaller ≤ length parts)
smaller_flat joint known parts rest before child largest larger smaller found so_far split (inl same) =
    (subst IsFlat (sym same.1) so_far.flat, Prim.omega (arith, so_far.within, ap length same.1))
smaller_flat joint known parts rest before child largest larger smaller found so_far split (inr same) =
    (subst IsFlat (sym same.1) split.child_flat, Prim.omega (arith, so_far.rest_within, ap length same.1, ap length split.whole, length-append before child))

pub apart_all : (joint : Joint) (known : List Fact) (parts rest : List Part) (found : Option Bool) (largest : List Part) → Apart joint known parts rest found largest → rest ≡ []
    → IsApart joint known parts found largest
apart_all joint known parts rest found largest so_far none = record {
  flat = so_far.flat;
  within = so_far.within;
  value = sym (none-join joint (join_by joint found (value_in known largest)))
      ∙ (ap (join_by joint (join_by joint found (value_in known largest))) (sym (none_value known rest joint none)) ∙ so_far.value);
}

-- fewer parts are left
pub child_some : (rest before child : List Part) → IsLastChild rest before child → length before < length rest
child_some rest before child split = Prim.omega (arith, ap length split.whole, length-append before child, flat_some child split.child_flat)
