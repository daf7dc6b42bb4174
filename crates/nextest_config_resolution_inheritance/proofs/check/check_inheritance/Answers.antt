use Rattle.std.proofs.Common.{◌≡◌, ℕ, List, ◌∙◌, sym, subst, arith, Option, None, Some}
use Rattle.nextest_config_resolution_inheritance.specs.Inheritance.{Name, Parents, name_at}
use Rattle.nextest_config_resolution_inheritance.specs.Inherits.{parents_in}
use Rattle.nextest_config_resolution_inheritance.specs.Places.{IsFirstEndless}
use Rattle.nextest_config_resolution_inheritance.specs.Refusals.{IsFirstFault}
use Rattle.nextest_config_resolution_inheritance.specs.declared.inheritance_fault.InheritanceFault.TheVariants.{Cycle}
use Rattle.nextest_config_resolution_inheritance.proofs.Following.{Placed, all_end, endless}
use Rattle.nextest_config_resolution_inheritance.proofs.Found.{length_all, named}
use Rattle.nextest_config_resolution_inheritance.proofs.Stages.{all_known}
use Rattle.nextest_config_resolution_inheritance.proofs.check.check_inheritance.Goals as goal

pub returns-in-None-clause-ok : goal.returns-in-None-clause-ok
returns-in-None-clause-ok g c =
    let all : Parents = parents_in g.P.Inherits.name_of g.P.Inherits.parent_of c.args.profiles.now in
    let places = c.in_ok-parents.parents.items in
    let placed : Placed all places = record { rise = c.requires; reserved = c.in_ok-check_reserved.ensures.ok; parents = c.in_ok-parents.ensures.places } in
    let none : IsFirstEndless places None =
    subst (λ (list : List ℕ). IsFirstEndless list None) c.deref.ensures.value
    (subst (λ (o : Option ℕ). IsFirstEndless c.deref.result.now o) c.in-None.is c.in_ok-first_endless.ensures) in
    record { reserved = placed.reserved; known = all_known all places placed.parents; ending = all_end all places placed none }

pub returns-clause-err : goal.returns-clause-err
returns-clause-err g c =
    let name_of = g.P.Inherits.name_of in
    let parent_of = g.P.Inherits.parent_of in
    let values = c.args.profiles.now in
    let all : Parents = parents_in name_of parent_of values in
    let places = c.in_ok-parents.parents.items in
    let placed : Placed all places = record { rise = c.requires; reserved = c.in_ok-check_reserved.ensures.ok; parents = c.in_ok-parents.ensures.places } in
    let k = c.in-Some.place in
    let first : IsFirstEndless places (Some k) =
    subst (λ (list : List ℕ). IsFirstEndless list (Some k)) c.deref.ensures.value
    (subst (λ (o : Option ℕ). IsFirstEndless c.deref.result.now o) c.in-Some.is c.in_ok-first_endless.ensures) in
    let is : name_at all k ≡ c.in_ok-from_str-in-Some.field-0 =
    named name_of parent_of values k c.index-profiles-place.result (omega (arith, first.0, placed.parents.each, length_all name_of parent_of values)) c.index-profiles-place.is
    ∙ sym c.name.ensures ∙ sym c.in_ok-from_str-in-Some.ensures in
    subst (λ (name : Name). IsFirstFault all (Cycle name)) is (endless all places k placed (all_known all places placed.parents) first)
