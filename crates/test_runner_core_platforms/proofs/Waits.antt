-- How a condition is read on from a place within it.
use Rattle.std.proofs.Common.{◌≡◌, refl, ℕ, ◌-◌, ◌≤◌, true, List, [], ◌∷◌, ◌++◌, length, ap, sym, ◌∙◌, subst, arith, length-append}
use Rattle.std.specs.Prelude.{codes, ⊤}
use Rattle.std.specs.Borrow.{Bor}
use Rattle.std.proofs.lemmas.Bool.{false≢true}
use Rattle.std.proofs.lemmas.List.{append-nil, append_assoc}
use Rattle.nextest_filtering_ast.specs.Grammar.{Behind}
use Rattle.test_runner_core_platforms.specs.Spec.{Condition, fact, fact_value, negation, all_of, any_of, Conditions, no_conditions, with_first}
use Rattle.test_runner_core_platforms.specs.Flat.{append, with_last, joined_by, flat, flat_all, condition_of, IsFlat}
use Rattle.test_runner_core_platforms.specs.Grammar.{ReadsName, IsCondition, is_negation, is_all, is_any, AreConditions, no_more, last_one, one_more}
use Rattle.test_runner_core_platforms.specs.Opened.{joint_name, more_go, part_of, takes_more}
use Rattle.test_runner_core_platforms.specs.Parsing.{ReadsOperation, IsOpened}
use Rattle.test_runner_core_platforms.specs.Single.{one_behind, one_condition, one_conditions, operation_only, closes_or_parts, differs}
use Rattle.test_runner_core_platforms.specs.Waiting.{Level, in_negation, in_joint, AreBehind, no_others, more_others, GoesOn, AwaitsOne, Awaits, Becomes, AreHeld, IsAhead, IsBehind, IsAt}
use Rattle.test_runner_core_platforms.specs.declared.opened.Opened.{Opened}
use Rattle.test_runner_core_platforms.specs.declared.opened.Operation.{Operation}
use Rattle.test_runner_core_platforms.specs.declared.opened.Operation.TheVariants as op
use Rattle.test_runner_core_platforms.specs.declared.part.Joint.{Joint}
use Rattle.test_runner_core_platforms.specs.declared.part.Joint.TheVariants as joints
use Rattle.test_runner_core_platforms.specs.declared.part.Part.{Part}
use Rattle.test_runner_core_platforms.specs.declared.parser.Place.{Place}
use Rattle.test_runner_core_platforms.specs.declared.parser.Place.TheVariants as place
use Rattle.test_runner_core_platforms.specs.declared.reading.Reading.{Reading}
use Rattle.test_runner_core_platforms.proofs.Flat.{append-none, append_last, flat_last, joined_flat, condition_is, is_flat}

-- ---- one step behind another

then : (From Through To : Condition → List ℕ → Type 0) → Becomes From Through → Becomes Through To → Becomes From To
then From Through To one other = record {
  reads = λ whole end it. one.reads whole end (other.reads whole end it);
  only = λ whole end it. other.only whole end (one.only whole end it);
}

-- ---- where a condition is to be read

first_read : (text r : List ℕ) (it : Condition) (behind : Conditions) (last : List ℕ) → IsCondition text it r → AreBehind r behind last → AreConditions text (with_first it behind) last
first_read text _ it _ _ read (no_others r last closes) = last_one text r last it read closes
first_read text _ it _ _ read (more_others r next last each parts are) = one_more text r next last it each read parts are

one_awaited : (levels : List Level) (text : List ℕ) (whole : Condition) (end : List ℕ) → AwaitsOne levels text whole end → Awaits levels text whole end
one_awaited [] text whole end it = it
one_awaited (in_negation ∷ more) text whole end it = it
one_awaited (in_joint joint each ∷ more) text whole end (it, rest, read, (behind, last, follows, goes)) =
    (with_first it behind, last, first_read text rest it behind last read follows, goes)

-- no `)` of an `all` or an `any` stands there
abbrev NoClose : List Level → List ℕ → Type 0
NoClose [] text = ⊤
NoClose (in_negation ∷ more) text = ⊤
NoClose (in_joint joint each ∷ more) text = (rest : List ℕ) → Behind (codes ")") text rest → ⊥

record First (text : List ℕ) (all : Conditions) (last : List ℕ) : Type 0 where
  pub it : Condition
  pub rest : List ℕ
  pub behind : Conditions
  pub read : IsCondition text it rest
  pub follows : AreBehind rest behind last
  pub is : all ≡ with_first it behind

first : (text : List ℕ) (all : Conditions) (last : List ℕ) → ((rest : List ℕ) → Behind (codes ")") text rest → ⊥) → AreConditions text all last → First text all last
first _ _ _ none (no_more text rest closes) = absurd (none rest closes)
first _ _ _ none (last_one text r rest it read closes) = record { it = it; rest = r; behind = no_conditions; read = read; follows = no_others r rest closes; is = refl }
first _ _ _ none (one_more text r s rest it each read parts more) = record { it = it; rest = r; behind = each; read = read; follows = more_others r s rest each parts more; is = refl }

awaited_one : (levels : List Level) (text : List ℕ) → NoClose levels text → (whole : Condition) (end : List ℕ) → Awaits levels text whole end → AwaitsOne levels text whole end
awaited_one [] text none whole end it = it
awaited_one (in_negation ∷ more) text none whole end it = it
awaited_one (in_joint joint each ∷ more) text none whole end (all, last, are, goes) =
    let found = first text all last none are in
    (found.it, found.rest, found.read, (found.behind, last, found.follows, subst (λ (c : Conditions). GoesOn more (joined_by joint (append each c)) last whole end) found.is goes))

awaits_one : (levels : List Level) (text : List ℕ) → NoClose levels text → Becomes (Awaits levels text) (AwaitsOne levels text)
awaits_one levels text none = record { reads = one_awaited levels text; only = awaited_one levels text none }

-- ---- a condition or an operation was read

whole_read : (levels : List Level) (text : List ℕ) (it : Condition) (rest : List ℕ) → IsCondition text it rest → Becomes (AwaitsOne levels text) (GoesOn levels it rest)
whole_read levels text it rest read = record {
  reads = λ whole end goes. (it, rest, read, goes);
  only = λ whole end found.
      let one = one_condition text found.0 found.1 it rest found.2 read in
      subst (λ (l : List ℕ). GoesOn levels it l whole end) one.1 (subst (λ (c : Condition). GoesOn levels c found.1 whole end) one.0 found.3);
}

negation_only : (levels : List Level) (text : List ℕ) (it : Condition) (rest : List ℕ) (whole : Condition) (end : List ℕ) → ReadsOperation (codes "not") text it rest
    → GoesOn levels it rest whole end → AwaitsOne (in_negation ∷ levels) text whole end
negation_only levels text (fact name) rest whole end is goes = absurd is
negation_only levels text (fact_value name value) rest whole end is goes = absurd is
negation_only levels text (negation it) rest whole end is goes = (it, is.1, is.2, (rest, is.3, goes))
negation_only levels text (all_of each) rest whole end is goes = absurd (differs (codes "not") (codes "all") refl refl is.0)
negation_only levels text (any_of each) rest whole end is goes = absurd (differs (codes "not") (codes "any") refl refl is.0)

negation_entered : (levels : List Level) (text r s : List ℕ) → ReadsName text (codes "not") r → Behind (codes "(") r s → Becomes (AwaitsOne levels text) (Awaits (in_negation ∷ levels) s)
negation_entered levels text r s named opens = record {
  reads = λ whole end found. (negation found.0, found.3.0, is_negation text r s found.1 found.3.0 found.0 named opens found.2 found.3.1, found.3.2);
  only = λ whole end found. negation_only levels s found.0 found.1 whole end (operation_only text (codes "not") r s found.0 found.1 named opens found.2) found.3;
}

joint_read : (joint : Joint) (text r s : List ℕ) (each : Conditions) (rest : List ℕ) → ReadsName text (joint_name joint) r → Behind (codes "(") r s → AreConditions s each rest → IsCondition text (joined_by joint each) rest
joint_read joints.All text r s each rest named opens are = is_all text r s rest each named opens are
joint_read joints.Any text r s each rest named opens are = is_any text r s rest each named opens are

joint_only : (joint : Joint) (levels : List Level) (text : List ℕ) (it : Condition) (rest : List ℕ) (whole : Condition) (end : List ℕ) → ReadsOperation (joint_name joint) text it rest
    → GoesOn levels it rest whole end → Awaits (in_joint joint no_conditions ∷ levels) text whole end
joint_only joint levels text (fact name) rest whole end is goes = absurd is
joint_only joint levels text (fact_value name value) rest whole end is goes = absurd is
joint_only joints.All levels text (negation it) rest whole end is goes = absurd (differs (codes "all") (codes "not") refl refl is.0)
joint_only joints.Any levels text (negation it) rest whole end is goes = absurd (differs (codes "any") (codes "not") refl refl is.0)
joint_only joints.All levels text (all_of each) rest whole end is goes = (each, rest, is.1, goes)
joint_only joints.Any levels text (all_of each) rest whole end is goes = absurd (differs (codes "any") (codes "all") refl refl is.0)
joint_only joints.All levels text (any_of each) rest whole end is goes = absurd (differs (codes "all") (codes "any") refl refl is.0)
joint_only joints.Any levels text (any_of each) rest whole end is goes = (each, rest, is.1, goes)

joint_entered : (joint : Joint) (levels : List Level) (text r s : List ℕ) → ReadsName text (joint_name joint) r → Behind (codes "(") r s
    → Becomes (AwaitsOne levels text) (Awaits (in_joint joint no_conditions ∷ levels) s)
joint_entered joint levels text r s named opens = record {
  reads = λ whole end found. (joined_by joint found.0, found.1, joint_read joint text r s found.0 found.1 named opens found.2, found.3);
  only = λ whole end found. joint_only joint levels s found.0 found.1 whole end (operation_only text (joint_name joint) r s found.0 found.1 named opens found.2) found.3;
}

-- ---- a `)` or a comma was read

none_closed : (joint : Joint) (each : Conditions) (more : List Level) (text last : List ℕ) → Behind (codes ")") text last
    → Becomes (Awaits (in_joint joint each ∷ more) text) (GoesOn more (joined_by joint each) last)
none_closed joint each more text last closes = record {
  reads = λ whole end goes.
      (no_conditions, last, no_more text last closes, subst (λ (c : Conditions). GoesOn more (joined_by joint c) last whole end) (sym (append-none each)) goes);
  only = λ whole end found.
      let one = one_conditions text found.0 found.1 no_conditions last found.2 (no_more text last closes) in
      subst (λ (l : List ℕ). GoesOn more (joined_by joint each) l whole end) one.1
      (subst (λ (c : Conditions). GoesOn more (joined_by joint c) found.1 whole end) (ap (append each) one.0 ∙ append-none each) found.3);
}

negation_closed : (more : List Level) (it : Condition) (text last : List ℕ) → Behind (codes ")") text last → Becomes (GoesOn (in_negation ∷ more) it text) (GoesOn more (negation it) last)
negation_closed more it text last closes = record {
  reads = λ whole end goes. (last, closes, goes);
  only = λ whole end found. subst (λ (l : List ℕ). GoesOn more (negation it) l whole end) (one_behind (codes ")") text found.0 last found.1 closes) found.2;
}

behind_closed : (text last : List ℕ) (behind : Conditions) (rest : List ℕ) → Behind (codes ")") text last → AreBehind text behind rest → (behind ≡ no_conditions) × (rest ≡ last)
behind_closed _ last _ _ closes (no_others text rest also) = (refl, one_behind (codes ")") text rest last also closes)
behind_closed _ last _ _ closes (more_others text next rest each parts are) = absurd (closes_or_parts text last next closes parts)

last_closed : (joint : Joint) (each : Conditions) (more : List Level) (it : Condition) (text last : List ℕ) → Behind (codes ")") text last
    → Becomes (GoesOn (in_joint joint each ∷ more) it text) (GoesOn more (joined_by joint (with_last each it)) last)
last_closed joint each more it text last closes = record {
  reads = λ whole end goes. (no_conditions, last, no_others text last closes, goes);
  only = λ whole end found.
      let one = behind_closed text last found.0 found.1 closes found.2 in
      subst (λ (l : List ℕ). GoesOn more (joined_by joint (with_last each it)) l whole end) one.1
      (subst (λ (c : Conditions). GoesOn more (joined_by joint (append each (with_first it c))) found.1 whole end) one.0 found.3);
}

behind_more : (text next : List ℕ) (behind : Conditions) (rest : List ℕ) → Behind (codes ",") text next → AreBehind text behind rest → AreConditions next behind rest
behind_more _ next _ _ parts (no_others text rest closes) = absurd (closes_or_parts text rest next closes parts)
behind_more _ next _ _ parts (more_others text s rest each part are) = subst (λ (l : List ℕ). AreConditions l each rest) (one_behind (codes ",") text s next part parts) are

more_follow : (joint : Joint) (each : Conditions) (more : List Level) (it : Condition) (text next : List ℕ) → Behind (codes ",") text next
    → Becomes (GoesOn (in_joint joint each ∷ more) it text) (Awaits (in_joint joint (with_last each it) ∷ more) next)
more_follow joint each more it text next parts = record {
  reads = λ whole end found.
      (found.0, found.1, more_others text next found.1 found.0 parts found.2, subst (λ (c : Conditions). GoesOn more (joined_by joint c) found.1 whole end) (append_last each it found.0) found.3);
  only = λ whole end found.
      (found.0, found.1, behind_more text next found.0 found.1 parts found.2, subst (λ (c : Conditions). GoesOn more (joined_by joint c) found.1 whole end) (sym (append_last each it found.0)) found.3);
}

-- ---- what is held

-- one more condition stands in it
more_held : (each : Conditions) (it : Condition) (front before parts : List Part) → before ≡ front ++ flat_all each → parts ≡ before ++ flat it → parts ≡ front ++ flat_all (with_last each it)
more_held each it front before parts is whole =
    whole ∙ (ap (λ (l : List Part). l ++ flat it) is ∙ (append_assoc front (flat_all each) (flat it) ∙ ap (λ (l : List Part). front ++ l) (sym (flat_last each it))))

-- the part of an operation right behind what it is over
part_behind : (operation : Operation) (opened : Opened) (front inside parts new : List Part) → opened ≡ record { operation = operation; before = length front } → parts ≡ front ++ inside
    → new ≡ parts ++ part_of opened.operation (length parts - opened.before) ∷ [] → new ≡ front ++ (inside ++ part_of operation (length inside) ∷ [])
part_behind operation opened front inside parts new is whole made =
    let count : length parts - opened.before ≡ length inside = Prim.omega (arith, ap length whole, length-append front inside, ap (λ (o : Opened). o.before) is) in
    made ∙ (ap (λ (n : ℕ). parts ++ part_of opened.operation n ∷ []) count
    ∙ (ap (λ (o : Operation). parts ++ part_of o (length inside) ∷ []) (ap (λ (o : Opened). o.operation) is)
    ∙ (ap (λ (l : List Part). l ++ part_of operation (length inside) ∷ []) whole ∙ append_assoc front inside (part_of operation (length inside) ∷ []))))

-- ---- from where a condition is to be read

-- which the innermost operation tells
takes : (operation : Operation) (opened : Opened) (before : ℕ) → opened ≡ record { operation = operation; before = before } → takes_more opened.operation ≡ takes_more operation
takes operation opened before is = ap (λ (o : Opened). takes_more o.operation) is

no_close : (levels : List Level) (opens : List Opened) (parts : List Part) (text : List ℕ) → AreHeld levels opens parts
    → (more_go opens ≡ true → (rest : List ℕ) → Behind (codes ")") text rest → ⊥) → NoClose levels text
no_close [] opens parts text held none = tt
no_close (in_negation ∷ more) opens parts text held none = tt
no_close (in_joint joint each ∷ more) [] parts text held none = absurd held
no_close (in_joint joint each ∷ more) (opened ∷ opens) parts text held none = none (takes (op.Joined joint) opened (length held.0) held.1)

pub starts_ahead : (text : List ℕ) (opens : List Opened) (parts : List Part) → opens ≡ [] → parts ≡ [] → IsAhead text opens parts text
starts_ahead text opens parts none empty =
    subst (λ (o : List Opened). IsAhead text o parts text) (sym none) record {
      levels = [];
      held = empty;
      becomes = record {
        reads = λ whole end found.
            subst (λ (l : List ℕ). IsCondition text whole l) (sym found.3.1) (subst (λ (c : Condition). IsCondition text c found.1) (sym found.3.0) found.2);
        only = λ whole end read. (whole, end, read, (refl, refl));
      };
    }

pub ahead_whole : (text : List ℕ) (opens : List Opened) (parts : List Part) (rest : List ℕ) (others : List Opened) (new : List Part) (it : Condition) (part : Part) (last : List ℕ)
    → IsAhead text opens parts rest → (more_go opens ≡ true → (r : List ℕ) → Behind (codes ")") rest r → ⊥) → flat it ≡ part ∷ [] → IsCondition rest it last
    → others ≡ opens → new ≡ parts ++ part ∷ [] → IsBehind text others new last
ahead_whole text opens parts rest others new it part last at none is read same made =
    subst (λ (o : List Opened). IsBehind text o new last) (sym same) record {
      levels = at.levels;
      it = it;
      before = parts;
      whole = made ∙ ap (λ (l : List Part). parts ++ l) (sym is);
      held = at.held;
      becomes = then (IsCondition text) (Awaits at.levels rest) (GoesOn at.levels it last) at.becomes
          (then (Awaits at.levels rest) (AwaitsOne at.levels rest) (GoesOn at.levels it last)
          (awaits_one at.levels rest (no_close at.levels opens parts rest at.held none)) (whole_read at.levels rest it last read));
    }

entered : (operation : Operation) (text : List ℕ) (opens : List Opened) (parts : List Part) (rest last : List ℕ)
    → IsAhead text opens parts rest → (more_go opens ≡ true → (r : List ℕ) → Behind (codes ")") rest r → ⊥) → IsOpened rest operation last
    → IsAhead text (record { operation = operation; before = length parts } ∷ opens) parts last
entered op.Not text opens parts rest last at none is = record {
  levels = in_negation ∷ at.levels;
  held = (refl, at.held);
  becomes = then (IsCondition text) (Awaits at.levels rest) (Awaits (in_negation ∷ at.levels) last) at.becomes
      (then (Awaits at.levels rest) (AwaitsOne at.levels rest) (Awaits (in_negation ∷ at.levels) last)
      (awaits_one at.levels rest (no_close at.levels opens parts rest at.held none)) (negation_entered at.levels rest is.0 last is.1 is.2));
}
entered (op.Joined joint) text opens parts rest last at none is = record {
  levels = in_joint joint no_conditions ∷ at.levels;
  held = (parts, refl, sym (append-nil parts), at.held);
  becomes = then (IsCondition text) (Awaits at.levels rest) (Awaits (in_joint joint no_conditions ∷ at.levels) last) at.becomes
      (then (Awaits at.levels rest) (AwaitsOne at.levels rest) (Awaits (in_joint joint no_conditions ∷ at.levels) last)
      (awaits_one at.levels rest (no_close at.levels opens parts rest at.held none)) (joint_entered joint at.levels rest is.0 last is.1 is.2));
}

pub ahead_entered : (operation : Operation) (text : List ℕ) (opens : List Opened) (parts : List Part) (rest : List ℕ) (others : List Opened) (new : List Part) (last : List ℕ)
    → IsAhead text opens parts rest → (more_go opens ≡ true → (r : List ℕ) → Behind (codes ")") rest r → ⊥) → IsOpened rest operation last
    → others ≡ record { operation = operation; before = length parts } ∷ opens → new ≡ parts → IsAhead text others new last
ahead_entered operation text opens parts rest others new last at none is same made =
    subst (λ (o : List Opened). IsAhead text o new last) (sym same)
    (subst (λ (l : List Part). IsAhead text (record { operation = operation; before = length parts } ∷ opens) l last) (sym made) (entered operation text opens parts rest last at none is))

pub ahead_none : (text : List ℕ) (opens : List Opened) (parts : List Part) (rest : List ℕ) → IsAhead text opens parts rest → (more_go opens ≡ true → (r : List ℕ) → Behind (codes ")") rest r → ⊥)
    → ((it : Condition) (last : List ℕ) → IsCondition rest it last → ⊥) → (it : Condition) (end : List ℕ) → IsCondition text it end → ⊥
ahead_none text opens parts rest at none never it end read =
    let found = awaited_one at.levels rest (no_close at.levels opens parts rest at.held none) it end (at.becomes.only it end read) in
    never found.0 found.1 found.2

closed_ahead : (levels : List Level) (text : List ℕ) (opened : Opened) (opens : List Opened) (parts : List Part) (rest last : List ℕ) (new : List Part)
    → AreHeld levels (opened ∷ opens) parts → Becomes (IsCondition text) (Awaits levels rest) → takes_more opened.operation ≡ true → Behind (codes ")") rest last
    → new ≡ parts ++ part_of opened.operation (length parts - opened.before) ∷ [] → IsBehind text opens new last
closed_ahead [] text opened opens parts rest last new held becomes goes closes made = absurd held
closed_ahead (in_negation ∷ more) text opened opens parts rest last new held becomes goes closes made = absurd (false≢true (sym (takes op.Not opened (length parts) held.0) ∙ goes))
closed_ahead (in_joint joint each ∷ more) text opened opens parts rest last new (front, is, whole, held) becomes goes closes made = record {
  levels = more;
  it = joined_by joint each;
  before = front;
  whole = part_behind (op.Joined joint) opened front (flat_all each) parts new is whole made ∙ ap (λ (l : List Part). front ++ l) (sym (joined_flat joint each));
  held = held;
  becomes = then (IsCondition text) (Awaits (in_joint joint each ∷ more) rest) (GoesOn more (joined_by joint each) last) becomes (none_closed joint each more rest last closes);
}

-- what taking off the innermost operation makes, with its part behind the others
abbrev IsClosed : List Opened → List Part → List Opened → List Part → Type 0
IsClosed opens parts others new =
    (opened : Opened) (more : List Opened) → opens ≡ opened ∷ more → (others ≡ more) × (new ≡ parts ++ part_of opened.operation (length parts - opened.before) ∷ [])

pub ahead_closed : (text : List ℕ) (opens : List Opened) (parts : List Part) (rest : List ℕ) (others : List Opened) (new : List Part) (last : List ℕ)
    → IsAhead text opens parts rest → more_go opens ≡ true → Behind (codes ")") rest last → IsClosed opens parts others new → IsBehind text others new last
ahead_closed text [] parts rest others new last at goes closes made = absurd (false≢true goes)
ahead_closed text (opened ∷ more) parts rest others new last at goes closes made =
    let is = made opened more refl in
    subst (λ (o : List Opened). IsBehind text o new last) (sym is.0) (closed_ahead at.levels text opened more parts rest last new at.held at.becomes goes closes is.1)

-- ---- from behind a condition

closed_behind : (levels : List Level) (it : Condition) (text : List ℕ) (opened : Opened) (opens : List Opened) (before parts : List Part) (rest last : List ℕ) (new : List Part)
    → AreHeld levels (opened ∷ opens) before → parts ≡ before ++ flat it → Becomes (IsCondition text) (GoesOn levels it rest) → Behind (codes ")") rest last
    → new ≡ parts ++ part_of opened.operation (length parts - opened.before) ∷ [] → IsBehind text opens new last
closed_behind [] it text opened opens before parts rest last new held whole becomes closes made = absurd held
closed_behind (in_negation ∷ more) it text opened opens before parts rest last new held whole becomes closes made = record {
  levels = more;
  it = negation it;
  before = before;
  whole = part_behind op.Not opened before (flat it) parts new held.0 whole made;
  held = held.1;
  becomes = then (IsCondition text) (GoesOn (in_negation ∷ more) it rest) (GoesOn more (negation it) last) becomes (negation_closed more it rest last closes);
}
closed_behind (in_joint joint each ∷ more) it text opened opens before parts rest last new (front, is, at, held) whole becomes closes made = record {
  levels = more;
  it = joined_by joint (with_last each it);
  before = front;
  whole = part_behind (op.Joined joint) opened front (flat_all (with_last each it)) parts new is (more_held each it front before parts at whole) made
      ∙ ap (λ (l : List Part). front ++ l) (sym (joined_flat joint (with_last each it)));
  held = held;
  becomes = then (IsCondition text) (GoesOn (in_joint joint each ∷ more) it rest) (GoesOn more (joined_by joint (with_last each it)) last) becomes (last_closed joint each more it rest last closes);
}

pub behind_closed_by : (text : List ℕ) (opens : List Opened) (parts : List Part) (rest : List ℕ) (others : List Opened) (new : List Part) (last : List ℕ)
    → IsBehind text opens parts rest → 1 ≤ length opens → Behind (codes ")") rest last → IsClosed opens parts others new → IsBehind text others new last
behind_closed_by text [] parts rest others new last at some closes made = absurd (Prim.omega arith)
behind_closed_by text (opened ∷ more) parts rest others new last at some closes made =
    let is = made opened more refl in
    subst (λ (o : List Opened). IsBehind text o new last) (sym is.0) (closed_behind at.levels at.it text opened more at.before parts rest last new at.held at.whole at.becomes closes is.1)

more_behind : (levels : List Level) (it : Condition) (text : List ℕ) (opens : List Opened) (before parts : List Part) (rest next : List ℕ) → AreHeld levels opens before → parts ≡ before ++ flat it
    → Becomes (IsCondition text) (GoesOn levels it rest) → more_go opens ≡ true → Behind (codes ",") rest next → IsAhead text opens parts next
more_behind [] it text [] before parts rest next held whole becomes goes commas = absurd (false≢true goes)
more_behind [] it text (opened ∷ opens) before parts rest next held whole becomes goes commas = absurd held
more_behind (in_negation ∷ more) it text [] before parts rest next held whole becomes goes commas = absurd held
more_behind (in_negation ∷ more) it text (opened ∷ opens) before parts rest next held whole becomes goes commas =
    absurd (false≢true (sym (takes op.Not opened (length before) held.0) ∙ goes))
more_behind (in_joint joint each ∷ more) it text [] before parts rest next held whole becomes goes commas = absurd held
more_behind (in_joint joint each ∷ more) it text (opened ∷ opens) before parts rest next (front, is, at, held) whole becomes goes commas = record {
  levels = in_joint joint (with_last each it) ∷ more;
  held = (front, is, more_held each it front before parts at whole, held);
  becomes = then (IsCondition text) (GoesOn (in_joint joint each ∷ more) it rest) (Awaits (in_joint joint (with_last each it) ∷ more) next) becomes (more_follow joint each more it rest next commas);
}

pub behind_comma : (text : List ℕ) (opens : List Opened) (parts : List Part) (rest next : List ℕ) → IsBehind text opens parts rest → more_go opens ≡ true → Behind (codes ",") rest next
    → IsAhead text opens parts next
behind_comma text opens parts rest next at goes commas = more_behind at.levels at.it text opens at.before parts rest next at.held at.whole at.becomes goes commas

stuck : (levels : List Level) (it : Condition) (opens : List Opened) (before : List Part) (rest : List ℕ) → AreHeld levels opens before → 1 ≤ length opens
    → (more_go opens ≡ true → (r : List ℕ) → Behind (codes ",") rest r → ⊥) → ((r : List ℕ) → Behind (codes ")") rest r → ⊥)
    → (whole : Condition) (end : List ℕ) → GoesOn levels it rest whole end → ⊥
stuck [] it [] before rest held some commas closes whole end goes = Prim.omega arith
stuck [] it (opened ∷ opens) before rest held some commas closes whole end goes = held
stuck (in_negation ∷ more) it opens before rest held some commas closes whole end goes = closes goes.0 goes.1
stuck (in_joint joint each ∷ more) it [] before rest held some commas closes whole end goes = held
stuck (in_joint joint each ∷ more) it (opened ∷ opens) before rest held some commas closes whole end goes =
    no_sign rest goes.0 goes.1 (commas (takes (op.Joined joint) opened (length held.0) held.1)) closes goes.2
  where
    no_sign : (text : List ℕ) (behind : Conditions) (last : List ℕ) → ((r : List ℕ) → Behind (codes ",") text r → ⊥) → ((r : List ℕ) → Behind (codes ")") text r → ⊥) → AreBehind text behind last → ⊥
    no_sign _ _ _ commas closes (no_others text last ends) = closes last ends
    no_sign _ _ _ commas closes (more_others text next last each parts are) = commas next parts

pub behind_none : (text : List ℕ) (opens : List Opened) (parts : List Part) (rest : List ℕ) → IsBehind text opens parts rest → 1 ≤ length opens
    → (more_go opens ≡ true → (r : List ℕ) → Behind (codes ",") rest r → ⊥) → ((r : List ℕ) → Behind (codes ")") rest r → ⊥)
    → (it : Condition) (end : List ℕ) → IsCondition text it end → ⊥
behind_none text opens parts rest at some commas closes it end read = stuck at.levels at.it opens at.before rest at.held some commas closes it end (at.becomes.only it end read)

-- ---- the whole

pub record Whole (text : List ℕ) (parts : List Part) (rest : List ℕ) : Type 0 where
  pub flat : IsFlat parts
  pub reads : IsCondition text (condition_of parts) rest

whole_by : (levels : List Level) (it : Condition) (text : List ℕ) (before parts : List Part) (rest : List ℕ) → AreHeld levels [] before → parts ≡ before ++ flat it
    → Becomes (IsCondition text) (GoesOn levels it rest) → Whole text parts rest
whole_by [] it text before parts rest none whole becomes =
    let is : parts ≡ flat it = whole ∙ ap (λ (l : List Part). l ++ flat it) none in
    record {
      flat = is_flat parts it is;
      reads = subst (λ (c : Condition). IsCondition text c rest) (sym (condition_is parts it is)) (becomes.reads it rest (refl, refl));
    }
whole_by (in_negation ∷ more) it text before parts rest held whole becomes = absurd held
whole_by (in_joint joint each ∷ more) it text before parts rest held whole becomes = absurd held

pub behind_whole : (text : List ℕ) (opens : List Opened) (parts : List Part) (rest : List ℕ) → IsBehind text opens parts rest → opens ≡ [] → Whole text parts rest
behind_whole text opens parts rest at none =
    whole_by at.levels at.it text at.before parts rest (subst (λ (o : List Opened). AreHeld at.levels o at.before) none at.held) at.whole at.becomes

pub at_behind : (text : List ℕ) (reading : Reading) (here : Place) (rest : Bor (List ℕ)) → here ≡ place.Behind rest → IsAt text reading here → IsBehind text reading.opened reading.parts.items rest.now
at_behind text reading here rest is at = subst (IsAt text reading) is at
