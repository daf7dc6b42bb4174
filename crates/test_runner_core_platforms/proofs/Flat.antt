-- The parts of a condition are those of no other, and which they are.
use Rattle.std.proofs.Common.{◌≡◌, refl, ℕ, ◌+◌, ◌-◌, ◌<◌, ◌≤◌, Bool, true, false, List, [], ◌∷◌, ◌++◌, length, take, drop, ap, sym, ◌∙◌, arith, length-append}
use Rattle.std.specs.Prelude.{◌==◌, if◌then◌else◌}
use Rattle.std.proofs.lemmas.Bool.{eqb-true}
use Rattle.std.proofs.lemmas.List.{append-nil, append_assoc, drop_at, same_from_push, take_at}
use Rattle.test_runner_core_platforms.specs.Spec.{Condition, fact, fact_value, negation, all_of, any_of, Conditions, no_conditions, with_first}
use Rattle.test_runner_core_platforms.specs.Flat.{append, with_last, joined_by, flat, flat_all, inside_of, last_conditions, after, last_of, condition_of, conditions_of, IsFlat, AreFlat, IsLastChild}
use Rattle.test_runner_core_platforms.specs.declared.part.Joint.{Joint}
use Rattle.test_runner_core_platforms.specs.declared.part.Joint.TheVariants as joints
use Rattle.test_runner_core_platforms.specs.declared.part.Part.{Part}
use Rattle.test_runner_core_platforms.specs.declared.part.Part.TheVariants as part

-- ---- conditions one after another

pub append-none : (each : Conditions) → append each no_conditions ≡ each
append-none no_conditions = refl
append-none (with_first it each) = ap (with_first it) (append-none each)

pub append_last : (each : Conditions) (it : Condition) (more : Conditions) → append (with_last each it) more ≡ append each (with_first it more)
append_last no_conditions it more = refl
append_last (with_first first each) it more = ap (with_first first) (append_last each it more)

flat_append : (each more : Conditions) → flat_all (append each more) ≡ flat_all each ++ flat_all more
flat_append no_conditions more = refl
flat_append (with_first it each) more = ap (λ (l : List Part). flat it ++ l) (flat_append each more) ∙ sym (append_assoc (flat it) (flat_all each) (flat_all more))

pub flat_last : (each : Conditions) (it : Condition) → flat_all (with_last each it) ≡ flat_all each ++ flat it
flat_last each it = flat_append each (with_first it no_conditions) ∙ ap (λ (l : List Part). flat_all each ++ l) (append-nil (flat it))

-- all but the last one, and that one
record Ended (each : Conditions) : Type 0 where
  pub ahead : Conditions
  pub last : Condition
  pub is : each ≡ with_last ahead last

ended : (first : Condition) (each : Conditions) → Ended (with_first first each)
ended first no_conditions = record { ahead = no_conditions; last = first; is = refl }
ended first (with_first next more) =
    let rest = ended next more in
    record { ahead = with_first first rest.ahead; last = rest.last; is = ap (with_first first) rest.is }

-- ---- the last part

-- the last part tells how many parts stand before it
record Ends (parts : List Part) : Type 0 where
  pub front : List Part
  pub last : Part
  pub is : parts ≡ front ++ last ∷ []
  pub inside : length front ≡ inside_of last

ends : (it : Condition) → Ends (flat it)
ends (fact name) = record { front = []; last = part.Fact name; is = refl; inside = refl }
ends (fact_value name value) = record { front = []; last = part.FactValue name value; is = refl; inside = refl }
ends (negation it) = record { front = flat it; last = part.Not (length (flat it)); is = refl; inside = refl }
ends (all_of each) = record { front = flat_all each; last = part.Joined joints.All (length (flat_all each)); is = refl; inside = refl }
ends (any_of each) = record { front = flat_all each; last = part.Joined joints.Any (length (flat_all each)); is = refl; inside = refl }

some_parts : (it : Condition) → 0 < length (flat it)
some_parts it = let e = ends it in Prim.omega (arith, ap length e.is, length-append e.front (e.last ∷ []))

-- ---- what parts make up

-- these in front of others, the last one first
abbrev pushed : Conditions → List Condition → List Condition
pushed no_conditions before = before
pushed (with_first it each) before = pushed each (it ∷ before)

taken_by : (it : Condition) (before : List Condition) (each : Conditions) (count more : ℕ) (b : Bool) → (count == 0) ≡ b → count ≡ length (flat it) + more
    → last_conditions count (it ∷ before) each ≡ last_conditions more before (with_first it each)
taken_by it before each count more true test sum =
    let none : count ≡ 0 = eqb-true count 0 test in
    absurd (Prim.omega (arith, none, some_parts it, sum))
taken_by it before each count more false test sum =
    ap (λ (b : Bool). if b then (each, it ∷ before) else last_conditions (count - length (flat it)) before (with_first it each)) test
    ∙ ap (λ (n : ℕ). last_conditions n before (with_first it each)) (Prim.omega (arith, sum))

taken_more : (each : Conditions) (before : List Condition) (behind : Conditions) (count more : ℕ) → count ≡ length (flat_all each) + more
    → last_conditions count (pushed each before) behind ≡ last_conditions more before (append each behind)
taken_more no_conditions before behind count more sum = ap (λ (n : ℕ). last_conditions n before behind) (Prim.omega (arith, sum))
taken_more (with_first it each) before behind count more sum =
    let rest : count ≡ length (flat_all each) + (length (flat it) + more) = Prim.omega (arith, sum, length-append (flat it) (flat_all each)) in
    taken_more each (it ∷ before) behind count (length (flat it) + more) rest
    ∙ taken_by it before (append each behind) (length (flat it) + more) more (length (flat it) + more == 0) refl refl

taken_none : (before : List Condition) (each : Conditions) → last_conditions 0 before each ≡ (each, before)
taken_none [] each = refl
taken_none (it ∷ before) each = refl

taken_all : (each : Conditions) (before : List Condition) → last_conditions (length (flat_all each)) (pushed each before) no_conditions ≡ (each, before)
taken_all each before =
    taken_more each before no_conditions (length (flat_all each)) 0 (Prim.omega arith)
    ∙ (taken_none before (append each no_conditions) ∙ ap (λ (e : Conditions). (e, before)) (append-none each))

mutual
  after-flat : (it : Condition) (more : List Part) (before : List Condition) → after (flat it ++ more) before ≡ after more (it ∷ before)
  after-flat (fact name) more before = refl
  after-flat (fact_value name value) more before = refl
  after-flat (negation it) more before =
      ap (λ (l : List Part). after l before) (append_assoc (flat it) (part.Not (length (flat it)) ∷ []) more)
      ∙ after-flat it (part.Not (length (flat it)) ∷ more) before
  after-flat (all_of each) more before =
      ap (λ (l : List Part). after l before) (append_assoc (flat_all each) (part.Joined joints.All (length (flat_all each)) ∷ []) more)
      ∙ (after-flat_all each (part.Joined joints.All (length (flat_all each)) ∷ more) before
      ∙ ap (λ (found : Conditions × List Condition). after more (all_of found.0 ∷ found.1)) (taken_all each before))
  after-flat (any_of each) more before =
      ap (λ (l : List Part). after l before) (append_assoc (flat_all each) (part.Joined joints.Any (length (flat_all each)) ∷ []) more)
      ∙ (after-flat_all each (part.Joined joints.Any (length (flat_all each)) ∷ more) before
      ∙ ap (λ (found : Conditions × List Condition). after more (any_of found.0 ∷ found.1)) (taken_all each before))

  after-flat_all : (each : Conditions) (more : List Part) (before : List Condition) → after (flat_all each ++ more) before ≡ after more (pushed each before)
  after-flat_all no_conditions more before = refl
  after-flat_all (with_first it each) more before =
      ap (λ (l : List Part). after l before) (append_assoc (flat it) (flat_all each) more)
      ∙ (after-flat it (flat_all each ++ more) before ∙ after-flat_all each more (it ∷ before))

pub condition-flat : (it : Condition) → condition_of (flat it) ≡ it
condition-flat it = ap last_of (ap (λ (l : List Part). after l []) (sym (append-nil (flat it))) ∙ after-flat it [] [])

pub conditions-flat : (each : Conditions) → conditions_of (flat_all each) ≡ each
conditions-flat each =
    ap (λ (before : List Condition). (last_conditions (length (flat_all each)) before no_conditions).0)
    (ap (λ (l : List Part). after l []) (sym (append-nil (flat_all each))) ∙ after-flat_all each [] [])
    ∙ ap (λ (found : Conditions × List Condition). found.0) (taken_all each [])

-- ---- parts that are those of conditions

pub condition_is : (parts : List Part) (it : Condition) → parts ≡ flat it → condition_of parts ≡ it
condition_is parts it is = ap condition_of is ∙ condition-flat it

pub conditions_are : (parts : List Part) (each : Conditions) → parts ≡ flat_all each → conditions_of parts ≡ each
conditions_are parts each is = ap conditions_of is ∙ conditions-flat each

pub is_flat : (parts : List Part) (it : Condition) → parts ≡ flat it → IsFlat parts
is_flat parts it is = is ∙ ap flat (sym (condition_is parts it is))

pub are_flat : (parts : List Part) (each : Conditions) → parts ≡ flat_all each → AreFlat parts
are_flat parts each is = is ∙ ap flat_all (sym (conditions_are parts each is))

-- they are some
pub flat_some : (parts : List Part) → IsFlat parts → 0 < length parts
flat_some parts flat = Prim.omega (arith, ap length flat, some_parts (condition_of parts))

pub joined_flat : (joint : Joint) (each : Conditions) → flat (joined_by joint each) ≡ flat_all each ++ part.Joined joint (length (flat_all each)) ∷ []
joined_flat joints.All each = refl
joined_flat joints.Any each = refl

-- ---- the last condition

-- where the last one begins
record Cut (parts : List Part) (before : ℕ) (inside : ℕ) : Type 0 where
  pub ahead : Conditions
  pub it : Condition
  pub is : conditions_of parts ≡ with_last ahead it
  pub whole : parts ≡ flat_all ahead ++ flat it
  pub place : before ≡ length (flat_all ahead) + inside

cut_ended : (parts before : List Part) (last : Part) (each : Conditions) → parts ≡ before ++ last ∷ [] → parts ≡ flat_all each → conditions_of parts ≡ each → Ended each → Cut parts (length before) (inside_of last)
cut_ended parts before last each at are is end =
    let e = ends end.last in
    let whole : parts ≡ flat_all end.ahead ++ flat end.last = are ∙ (ap flat_all end.is ∙ flat_last end.ahead end.last) in
    let two : before ++ last ∷ [] ≡ (flat_all end.ahead ++ e.front) ++ e.last ∷ [] =
    sym at ∙ (whole ∙ (ap (λ (l : List Part). flat_all end.ahead ++ l) e.is ∙ sym (append_assoc (flat_all end.ahead) e.front (e.last ∷ [])))) in
    let same = same_from_push before (flat_all end.ahead ++ e.front) last e.last two in
    record {
      ahead = end.ahead;
      it = end.last;
      is = is ∙ end.is;
      whole = whole;
      place = ap length same.0 ∙ (length-append (flat_all end.ahead) e.front ∙ ap (λ (n : ℕ). length (flat_all end.ahead) + n) (e.inside ∙ ap inside_of (sym same.1)));
    }

cut_by : (parts before : List Part) (last : Part) (each : Conditions) → parts ≡ before ++ last ∷ [] → parts ≡ flat_all each → conditions_of parts ≡ each → Cut parts (length before) (inside_of last)
cut_by parts before last no_conditions at are is = absurd (Prim.omega (arith, ap length (sym at ∙ are), length-append before (last ∷ [])))
cut_by parts before last (with_first it each) at are is = cut_ended parts before last (with_first it each) at are is (ended it each)

cut : (parts before : List Part) (last : Part) → parts ≡ before ++ last ∷ [] → AreFlat parts → Cut parts (length before) (inside_of last)
cut parts before last at are = cut_by parts before last (conditions_of parts) at are refl

pub cut_within : (parts before : List Part) (last : Part) → parts ≡ before ++ last ∷ [] → AreFlat parts → inside_of last ≤ length before
cut_within parts before last at are = let it = cut parts before last at are in Prim.omega (arith, it.place)

pub last_child : (parts before : List Part) (last : Part) (ahead child : List Part) (place : ℕ) → parts ≡ before ++ last ∷ [] → AreFlat parts → place ≡ length before - inside_of last
    → ahead ≡ take place parts → child ≡ drop place parts → IsLastChild parts ahead child
last_child parts before last ahead child place at are is front back =
    let it = cut parts before last at are in
    let here : length (flat_all it.ahead) ≡ place = Prim.omega (arith, it.place, is) in
    let front_is : ahead ≡ flat_all it.ahead = front ∙ (ap (take place) it.whole ∙ take_at (flat_all it.ahead) (flat it.it) place here) in
    let back_is : child ≡ flat it.it = back ∙ (ap (drop place) it.whole ∙ drop_at (flat_all it.ahead) (flat it.it) place here) in
    record {
      whole = it.whole ∙ (ap (λ (l : List Part). l ++ flat it.it) (sym front_is) ∙ ap (λ (l : List Part). ahead ++ l) (sym back_is));
      ahead_flat = are_flat ahead it.ahead front_is;
      child_flat = is_flat child it.it back_is;
      each = it.is ∙ (ap (λ (c : Conditions). with_last c it.it) (sym (conditions_are ahead it.ahead front_is)) ∙ ap (λ (c : Condition). with_last (conditions_of ahead) c) (sym (condition_is child it.it back_is)));
    }
