-- What was read of a condition so far, and how the whole is read on from there.
use Rattle.std.specs.Prelude.{◌≡◌, ℕ, ◌-◌, true, List, [], ◌∷◌, ◌++◌, length, codes, Option, None, Some}
use Rattle.std.specs.Borrow.{Bor}
use Rattle.nextest_filtering_ast.specs.Grammar.{Behind}
use Rattle.test_runner_core_platforms.specs.Spec.{Condition, negation, Conditions, no_conditions, with_first}
use Rattle.test_runner_core_platforms.specs.Grammar.{IsCondition, AreConditions}
use Rattle.test_runner_core_platforms.specs.Flat.{append, joined_by, flat, flat_all}
use Rattle.test_runner_core_platforms.specs.Opened.{more_go, part_of}
use Rattle.test_runner_core_platforms.specs.declared.opened.Opened.{Opened}
use Rattle.test_runner_core_platforms.specs.declared.opened.Operation.{Operation}
use Rattle.test_runner_core_platforms.specs.declared.opened.Operation.TheVariants as op
use Rattle.test_runner_core_platforms.specs.declared.part.Joint.{Joint}
use Rattle.test_runner_core_platforms.specs.declared.part.Part.{Part}
use Rattle.test_runner_core_platforms.specs.declared.parser.Place.{Place}
use Rattle.test_runner_core_platforms.specs.declared.parser.Place.TheVariants as place
use Rattle.test_runner_core_platforms.specs.declared.reading.Reading.{Reading}

-- an operation whose `)` is still to be read, with the conditions that were read behind its `(`
pub data Level : Type 0 where
  in_negation : Level
  in_joint : Joint → Conditions → Level

-- ---- how the whole is read on

-- behind a condition of an `all` or an `any` these follow, up to `)`, and then rest
pub data AreBehind : List ℕ → Conditions → List ℕ → Type 0 where
  no_others : (text rest : List ℕ) → Behind (codes ")") text rest → AreBehind text no_conditions rest
  more_others : (text next rest : List ℕ) (each : Conditions) → Behind (codes ",") text next → AreConditions next each rest → AreBehind text each rest

-- A condition was read within these, the innermost one first, and rest follows it: from there the
-- whole condition is read, up to its end.
abbrev pub GoesOn : List Level → Condition → List ℕ → Condition → List ℕ → Type 0
GoesOn [] it rest whole end = (whole ≡ it) × (end ≡ rest)
GoesOn (in_negation ∷ more) it rest whole end = (last : List ℕ) × Behind (codes ")") rest last × GoesOn more (negation it) last whole end
GoesOn (in_joint joint each ∷ more) it rest whole end =
    (behind : Conditions) × (last : List ℕ) × AreBehind rest behind last × GoesOn more (joined_by joint (append each (with_first it behind))) last whole end

-- a condition is to be read there
abbrev pub AwaitsOne : List Level → List ℕ → Condition → List ℕ → Type 0
AwaitsOne levels text whole end = (it : Condition) × (rest : List ℕ) × IsCondition text it rest × GoesOn levels it rest whole end

-- so it is; in an `all` or an `any`, or their `)` is
abbrev pub Awaits : List Level → List ℕ → Condition → List ℕ → Type 0
Awaits [] text whole end = AwaitsOne [] text whole end
Awaits (in_negation ∷ more) text whole end = AwaitsOne (in_negation ∷ more) text whole end
Awaits (in_joint joint each ∷ more) text whole end =
    (behind : Conditions) × (last : List ℕ) × AreConditions text behind last × GoesOn more (joined_by joint (append each behind)) last whole end

-- Reading on from one place is reading on from another.
pub record Becomes (From To : Condition → List ℕ → Type 0) : Type 0 where
  pub reads : (whole : Condition) (end : List ℕ) → To whole end → From whole end
  pub only : (whole : Condition) (end : List ℕ) → From whole end → To whole end

-- ---- what is held of it

-- these operations are open, and the parts are those of the conditions that were read within them
abbrev pub AreHeld : List Level → List Opened → List Part → Type 0
AreHeld [] [] parts = parts ≡ []
AreHeld [] (opened ∷ opens) parts = ⊥
AreHeld (in_negation ∷ more) [] parts = ⊥
AreHeld (in_negation ∷ more) (opened ∷ opens) parts = (opened ≡ record { operation = op.Not; before = length parts }) × AreHeld more opens parts
AreHeld (in_joint joint each ∷ more) [] parts = ⊥
AreHeld (in_joint joint each ∷ more) (opened ∷ opens) parts =
    (before : List Part) × (opened ≡ record { operation = op.Joined joint; before = length before }) × (parts ≡ before ++ flat_all each) × AreHeld more opens before

-- the text was read up to the rest, where a condition is to be read
pub record IsAhead (text : List ℕ) (opens : List Opened) (parts : List Part) (rest : List ℕ) : Type 0 where
  pub levels : List Level
  pub held : AreHeld levels opens parts
  pub becomes : Becomes (IsCondition text) (Awaits levels rest)

-- it was read up to the rest, which is behind a condition
pub record IsBehind (text : List ℕ) (opens : List Opened) (parts : List Part) (rest : List ℕ) : Type 0 where
  pub levels : List Level
  pub it : Condition
  pub before : List Part
  pub whole : parts ≡ before ++ flat it
  pub held : AreHeld levels opens before
  pub becomes : Becomes (IsCondition text) (GoesOn levels it rest)

abbrev pub IsAt : List ℕ → Reading → Place → Type 0
IsAt text reading (place.Ahead rest) = IsAhead text reading.opened reading.parts.items rest.now
IsAt text reading (place.Behind rest) = IsBehind text reading.opened reading.parts.items rest.now

abbrev pub text_of : Place → List ℕ
text_of (place.Ahead rest) = rest.now
text_of (place.Behind rest) = rest.now

-- ---- what changes what is held

-- an operation was opened
abbrev pub Enters : Operation → Reading → Reading → Type 0
Enters operation old new = (new.opened ≡ record { operation = operation; before = length old.parts.items } ∷ old.opened) × (new.parts.items ≡ old.parts.items)

-- a part was read
abbrev pub Adds : Part → Reading → Reading → Type 0
Adds part old new = (new.opened ≡ old.opened) × (new.parts.items ≡ old.parts.items ++ part ∷ [])

-- the innermost operation was closed: its part stands behind those that belong to it
abbrev pub Closes : Reading → Reading → Type 0
Closes old new =
    (innermost : Opened) (more : List Opened) → old.opened ≡ innermost ∷ more
    → (new.opened ≡ more) × (new.parts.items ≡ old.parts.items ++ part_of innermost.operation (length old.parts.items - innermost.before) ∷ [])

-- the sign comes next, and an `all` or an `any` is the innermost operation; or one of these isn't
-- so
abbrev pub FindsSign : List Opened → List ℕ → List ℕ → Option (Bor (List ℕ)) → Type 0
FindsSign opens sign text (Some rest) = (more_go opens ≡ true) × Behind sign text rest.now
FindsSign opens sign text None = more_go opens ≡ true → (rest : List ℕ) → Behind sign text rest → ⊥
