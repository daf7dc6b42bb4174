use Rattle.std.proofs.Common.{◌≡◌, ℕ, sym, subst, rules, of_calls, Option, IfSome, IfNone}
use Rattle.std.specs.List.{Contains}
use Rattle.nextest_config_resolution_inheritance.specs.Inheritance.{names, name_at}
use Rattle.nextest_config_resolution_inheritance.specs.Inherits.{parents_in}
use Rattle.nextest_config_resolution_inheritance.proofs.Found.{found, missing, searched}
use Rattle.nextest_config_resolution_inheritance.proofs.places.place_of.Goals as goal

pub returns-clause-found : goal.returns-clause-found
returns-clause-found g c =
    let name_of = g.P.Inherits.name_of in
    let parent_of = g.P.Inherits.parent_of in
    let values = c.args.profiles.now in
    let name = c.args.name.now in
    let searching = c.binary_search_by in
    let given = searched name_of parent_of values name searching.result searching.ensures.position (λ a r f k. search (rules, of_calls)) in
    subst (λ (o : Option ℕ). IfSome o (λ place. name_at (parents_in name_of parent_of values) place ≡ name)) (sym c.ok.ensures.value)
    (found name_of parent_of values name searching.result searching.ensures.bound given)

pub returns-clause-missing : goal.returns-clause-missing
returns-clause-missing g c =
    let name_of = g.P.Inherits.name_of in
    let parent_of = g.P.Inherits.parent_of in
    let values = c.args.profiles.now in
    let name = c.args.name.now in
    let searching = c.binary_search_by in
    let given = searched name_of parent_of values name searching.result searching.ensures.position (λ a r f k. search (rules, of_calls)) in
    subst (λ (o : Option ℕ). IfNone o (¬ Contains (names (parents_in name_of parent_of values)) name)) (sym c.ok.ensures.value)
    (missing name_of parent_of values name searching.result c.requires given)
