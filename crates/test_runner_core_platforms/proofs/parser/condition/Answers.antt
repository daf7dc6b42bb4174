use Rattle.std.proofs.Common.{◌≡◌, [], sym, subst, rules, List}
use Rattle.test_runner_core_platforms.specs.Flat.{condition_of}
use Rattle.test_runner_core_platforms.specs.Grammar.{IsCondition}
use Rattle.test_runner_core_platforms.specs.declared.part.Part.{Part}
use Rattle.test_runner_core_platforms.proofs.Waits.{at_behind, behind_whole}
use Rattle.test_runner_core_platforms.proofs.parser.condition.Goals as goal

pub into_condition-requires : goal.into_condition-requires
into_condition-requires c =
    let none : c.loop-place.reading.opened ≡ [] = Prim.search rules in
    record { flat = (behind_whole _ _ _ _ (at_behind _ c.loop-place.reading _ c.in-Behind.rest c.in-Behind.is c.loop-place.invariant) none).flat }

pub returns-then-is_whole : goal.returns-then-is_whole
returns-then-is_whole c =
    let none : c.loop-place.reading.opened ≡ [] = Prim.search rules in
    subst (λ (l : List Part). IsCondition c.args.text.now (condition_of l) c.in-Behind.rest.now) (sym c.into_condition.ensures)
    (behind_whole _ _ _ _ (at_behind _ c.loop-place.reading _ c.in-Behind.rest c.in-Behind.is c.loop-place.invariant) none).reads
