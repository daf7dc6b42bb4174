-- Operations whose `)` wasn't read yet.
use Rattle.std.specs.Prelude.{ℕ, Bool, true, false, List, [], ◌∷◌, codes, Option, None, Some}
use Rattle.test_runner_core_platforms.specs.declared.opened.Opened.{Opened}
use Rattle.test_runner_core_platforms.specs.declared.opened.Operation.{Operation}
use Rattle.test_runner_core_platforms.specs.declared.opened.Operation.TheVariants as op
use Rattle.test_runner_core_platforms.specs.declared.part.Joint.{Joint}
use Rattle.test_runner_core_platforms.specs.declared.part.Joint.TheVariants as joints
use Rattle.test_runner_core_platforms.specs.declared.part.Part.{Part}
use Rattle.test_runner_core_platforms.specs.declared.part.Part.TheVariants as part

abbrev pub joint_name : Joint → List ℕ
joint_name joints.All = codes "all"
joint_name joints.Any = codes "any"

abbrev pub name_of : Operation → List ℕ
name_of op.Not = codes "not"
name_of (op.Joined joint) = joint_name joint

-- it as a part, which that many parts before it belong to
abbrev pub part_of : Operation → ℕ → Part
part_of op.Not inside = part.Not inside
part_of (op.Joined joint) inside = part.Joined joint inside

abbrev pub innermost_of : List Opened → Option Operation
innermost_of [] = None
innermost_of (opened ∷ more) = Some opened.operation

-- more than one condition may stand in it
abbrev pub takes_more : Operation → Bool
takes_more op.Not = false
takes_more (op.Joined joint) = true

-- so of the innermost one
abbrev pub more_go : List Opened → Bool
more_go [] = false
more_go (opened ∷ more) = takes_more opened.operation
