-- What a spec can come out as, and its value by three values, are the same.
use Rattle.std.proofs.Common.{◌≡◌, refl, Bool, true, false, List, [], ◌∷◌, ap, sym, ◌∙◌, subst}
use Rattle.std.specs.Prelude.{◌&&◌, ◌||◌, not, Option, None, Some, option_map}
use Rattle.std.specs.List.{list_all, list_any}
use Rattle.std.proofs.lemmas.Bool.{false≢true}
use Rattle.nextest_filtering_filters.specs.Formula.{IsValue}
use Rattle.test_runner_core_platforms.specs.declared.fact.Fact.{Fact}
use Rattle.test_runner_core_platforms.specs.Spec.{Condition, fact, fact_value, negation, all_of, any_of, Conditions, no_conditions, with_first, Spec, triple, condition}
use Rattle.test_runner_core_platforms.specs.Facts.{Facts}
use Rattle.test_runner_core_platforms.specs.Meaning.{MayBe, ComesOut, of_fact, of_value, of_negation, of_all, of_any, ComeOut, of_none, of_more, SpecComesOut, HasValue, both, either, condition_value, value_of_all, value_of_any, value_of}

-- ---- three values

not_may : (known : Option Bool) (value : Bool) → MayBe known value → MayBe (option_map not known) (not value)
not_may None value may = tt
not_may (Some holds) value may = ap not may

not_back : (known : Option Bool) (value : Bool) → MayBe (option_map not known) value → MayBe known (not value)
not_back None value may = tt
not_back (Some true) value may = ap not may
not_back (Some false) value may = ap not may

not_not : (value : Bool) → not (not value) ≡ value
not_not true = refl
not_not false = refl

and_false : (a : Bool) → (a && false) ≡ false
and_false true = refl
and_false false = refl

or_true : (a : Bool) → (a || true) ≡ true
or_true true = refl
or_true false = refl

both_may : (x y : Option Bool) (a b : Bool) → MayBe x a → MayBe y b → MayBe (both x y) (a && b)
both_may (Some true) None a b first second = tt
both_may (Some true) (Some other) a b first second = ap (λ (v : Bool). v && b) first ∙ second
both_may (Some false) y a b first second = ap (λ (v : Bool). v && b) first
both_may None (Some true) a b first second = tt
both_may None (Some false) a b first second = ap (λ (v : Bool). a && v) second ∙ and_false a
both_may None None a b first second = tt

either_may : (x y : Option Bool) (a b : Bool) → MayBe x a → MayBe y b → MayBe (either x y) (a || b)
either_may (Some true) y a b first second = ap (λ (v : Bool). v || b) first
either_may (Some false) None a b first second = tt
either_may (Some false) (Some other) a b first second = ap (λ (v : Bool). v || b) first ∙ second
either_may None (Some true) a b first second = ap (λ (v : Bool). a || v) second ∙ or_true a
either_may None (Some false) a b first second = tt
either_may None None a b first second = tt

-- two values that come to this one
abbrev Splits : (Bool → Bool → Bool) → Option Bool → Option Bool → Bool → Type 0
Splits joined x y value = (a b : Bool) × MayBe x a × MayBe y b × (joined a b ≡ value)

some_of : (x : Option Bool) → (a : Bool) × MayBe x a
some_of None = (true, tt)
some_of (Some holds) = (holds, refl)

both_back : (x y : Option Bool) (value : Bool) → MayBe (both x y) value → Splits (λ a b. a && b) x y value
both_back (Some true) None value may = (true, value, refl, tt, refl)
both_back (Some true) (Some other) value may = (true, other, refl, refl, sym may)
both_back (Some false) y value may = let other = some_of y in (false, other.0, refl, other.1, sym may)
both_back None (Some true) true may = (true, true, tt, refl, refl)
both_back None (Some true) false may = (false, true, tt, refl, refl)
both_back None (Some false) value may = (true, false, tt, refl, sym may)
both_back None None true may = (true, true, tt, tt, refl)
both_back None None false may = (false, true, tt, tt, refl)

either_back : (x y : Option Bool) (value : Bool) → MayBe (either x y) value → Splits (λ a b. a || b) x y value
either_back (Some true) y value may = let other = some_of y in (true, other.0, refl, other.1, sym may)
either_back (Some false) None value may = (false, value, refl, tt, refl)
either_back (Some false) (Some other) value may = (false, other, refl, refl, sym may)
either_back None (Some true) value may = (true, true, tt, refl, sym may)
either_back None (Some false) true may = (true, false, tt, refl, refl)
either_back None (Some false) false may = (false, false, tt, refl, refl)
either_back None None true may = (true, true, tt, tt, refl)
either_back None None false may = (false, false, tt, tt, refl)

-- ---- what comes out is by these values

mutual
  may_be : (known : List Fact) (it : Condition) (value : Bool) → ComesOut known it value → MayBe (condition_value known it) value
  may_be known _ _ (of_fact name value may) = may
  may_be known _ _ (of_value name text value may) = may
  may_be known _ _ (of_negation it value inside) = not_may (condition_value known it) value (may_be known it value inside)
  may_be known _ _ (of_all each values come) = all_may known each values come
  may_be known _ _ (of_any each values come) = any_may known each values come

  all_may : (known : List Fact) (each : Conditions) (values : List Bool) → ComeOut known each values → MayBe (value_of_all known each) (list_all (λ value. value) values)
  all_may known _ _ of_none = refl
  all_may known _ _ (of_more it each value values first rest) =
      both_may (condition_value known it) (value_of_all known each) value (list_all (λ value. value) values) (may_be known it value first) (all_may known each values rest)

  any_may : (known : List Fact) (each : Conditions) (values : List Bool) → ComeOut known each values → MayBe (value_of_any known each) (list_any (λ value. value) values)
  any_may known _ _ of_none = refl
  any_may known _ _ (of_more it each value values first rest) =
      either_may (condition_value known it) (value_of_any known each) value (list_any (λ value. value) values) (may_be known it value first) (any_may known each values rest)

-- ---- what these values let be comes out

-- conditions come out as values that all, or any, come to this one
abbrev CanAll : List Fact → Conditions → Bool → Type 0
CanAll known each value = (values : List Bool) × ComeOut known each values × (list_all (λ v. v) values ≡ value)

abbrev CanAny : List Fact → Conditions → Bool → Type 0
CanAny known each value = (values : List Bool) × ComeOut known each values × (list_any (λ v. v) values ≡ value)

mutual
  comes_out : (known : List Fact) (it : Condition) (value : Bool) → MayBe (condition_value known it) value → ComesOut known it value
  comes_out known (fact name) value may = of_fact name value may
  comes_out known (fact_value name text) value may = of_value name text value may
  comes_out known (negation it) value may =
      subst (λ (v : Bool). ComesOut known (negation it) v) (not_not value) (of_negation it (not value) (comes_out known it (not value) (not_back (condition_value known it) value may)))
  comes_out known (all_of each) value may =
      let can = can_all known each value may in
      subst (λ (v : Bool). ComesOut known (all_of each) v) can.2 (of_all each can.0 can.1)
  comes_out known (any_of each) value may =
      let can = can_any known each value may in
      subst (λ (v : Bool). ComesOut known (any_of each) v) can.2 (of_any each can.0 can.1)

  can_all : (known : List Fact) (each : Conditions) (value : Bool) → MayBe (value_of_all known each) value → CanAll known each value
  can_all known no_conditions value may = ([], of_none, sym may)
  can_all known (with_first it each) value may =
      let parts = both_back (condition_value known it) (value_of_all known each) value may in
      let rest = can_all known each parts.1 parts.3 in
      (parts.0 ∷ rest.0, of_more it each parts.0 rest.0 (comes_out known it parts.0 parts.2) rest.1, ap (λ (v : Bool). parts.0 && v) rest.2 ∙ parts.4)

  can_any : (known : List Fact) (each : Conditions) (value : Bool) → MayBe (value_of_any known each) value → CanAny known each value
  can_any known no_conditions value may = ([], of_none, sym may)
  can_any known (with_first it each) value may =
      let parts = either_back (condition_value known it) (value_of_any known each) value may in
      let rest = can_any known each parts.1 parts.3 in
      (parts.0 ∷ rest.0, of_more it each parts.0 rest.0 (comes_out known it parts.0 parts.2) rest.1, ap (λ (v : Bool). parts.0 || v) rest.2 ∙ parts.4)

-- ---- the one value

not_same : (value : Bool) → not value ≡ value → ⊥
not_same true e = false≢true e
not_same false e = false≢true (sym e)

value_is : (known : Option Bool) → IsValue (MayBe known) known
value_is (Some value) = (refl, not_same value)
value_is None = (tt, tt)

one_of : (known answer : Option Bool) → IsValue (MayBe known) answer → answer ≡ known
one_of (Some value) (Some other) is = ap Some is.0
one_of None (Some other) is = absurd (is.1 tt)
one_of (Some value) None is = absurd (false≢true (is.1 ∙ sym is.0))
one_of None None is = refl

-- where the same can be, the one value is the same
through : (One Other : Bool → Type 0) → ((value : Bool) → One value → Other value) → ((value : Bool) → Other value → One value) → (answer : Option Bool) → IsValue One answer → IsValue Other answer
through One Other there back (Some value) is = (there value is.0, λ other. is.1 (back (not value) other))
through One Other there back None is = (there true is.0, there false is.1)

spec_may : (facts : Facts) (it : Spec) (value : Bool) → SpecComesOut facts it value → MayBe (value_of facts it) value
spec_may facts (triple name) value comes = comes
spec_may facts (condition it) value comes = may_be facts.known it value comes

spec_comes : (facts : Facts) (it : Spec) (value : Bool) → MayBe (value_of facts it) value → SpecComesOut facts it value
spec_comes facts (triple name) value may = may
spec_comes facts (condition it) value may = comes_out facts.known it value may

pub has_value : (facts : Facts) (it : Spec) → HasValue facts it (value_of facts it)
has_value facts it = through (MayBe (value_of facts it)) (SpecComesOut facts it) (spec_comes facts it) (spec_may facts it) (value_of facts it) (value_is (value_of facts it))

pub one_value : (facts : Facts) (it : Spec) (value : Option Bool) → HasValue facts it value → value ≡ value_of facts it
one_value facts it value is = one_of (value_of facts it) value (through (SpecComesOut facts it) (MayBe (value_of facts it)) (spec_may facts it) (spec_comes facts it) value is)

pub value_stands : (facts : Facts) (it : Spec) (value : Option Bool) → value ≡ value_of facts it → HasValue facts it value
value_stands facts it value is = subst (HasValue facts it) (sym is) (has_value facts it)
