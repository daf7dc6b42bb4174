use Rattle.std.proofs.Common.{◌≡◌, ℕ, ◌∙◌, ap, sym, subst, refl, arith, Option, IfSome}
use Rattle.std.specs.List.{Contains}
use Rattle.std.specs.Option.{unwrap_or}
use Rattle.nextest_config_resolution_inheritance.specs.Inheritance.{Name, Profile, Parents, default, names, name_at, profile_at}
use Rattle.nextest_config_resolution_inheritance.specs.Inherits.{parents_in}
use Rattle.nextest_config_resolution_inheritance.proofs.Found.{length_all, next_at, standing}
use Rattle.nextest_config_resolution_inheritance.proofs.Stages.{found_some, next_known, parent_text}
use Rattle.nextest_config_resolution_inheritance.proofs.places.place_of_next.Goals as goal

pub unwrap-requires : goal.unwrap-requires
unwrap-requires g c =
    let name_of = g.P.Inherits.name_of in
    let parent_of = g.P.Inherits.parent_of in
    let values = c.args.profiles.now in
    let all : Parents = parents_in name_of parent_of values in
    let here = c.args.here in
    let parent = c.unwrap_or-parent.result in
    let is = standing name_of parent_of values here c.index-profiles-here.result c.requires.here c.index-profiles-here.is in
    let text = parent_text c.inherits.result (parent_of c.index-profiles-here.result) parent _ c.unwrap_or-parent.ensures c.inherits.ensures refl in
    let same : unwrap_or (profile_at all here).1 default ≡ parent.now = ap (λ (p : Profile). unwrap_or p.1 default) is ∙ sym text in
    found_some all parent.now c.place_of.result c.place_of.ensures.missing
    (subst (λ (name : Name). Contains (names all) name) same
    (next_known all here c.requires.known c.requires.has_default (omega (arith, length_all name_of parent_of values, c.requires.here))))

pub returns-clause-name : goal.returns-clause-name
returns-clause-name g c =
    let name_of = g.P.Inherits.name_of in
    let parent_of = g.P.Inherits.parent_of in
    let values = c.args.profiles.now in
    let all : Parents = parents_in name_of parent_of values in
    let here = c.args.here in
    let parent = c.unwrap_or-parent.result in
    let is = standing name_of parent_of values here c.index-profiles-here.result c.requires.here c.index-profiles-here.is in
    let text = parent_text c.inherits.result (parent_of c.index-profiles-here.result) parent _ c.unwrap_or-parent.ensures c.inherits.ensures refl in
    let found = subst (λ (o : Option ℕ). IfSome o (λ place. name_at all place ≡ parent.now)) c.unwrap.ensures c.place_of.ensures.found in
    found ∙ text ∙ sym (ap (λ (p : Profile). unwrap_or p.1 default) is)
    ∙ sym (next_at all here c.requires.rise (omega (arith, length_all name_of parent_of values, c.requires.here)))
