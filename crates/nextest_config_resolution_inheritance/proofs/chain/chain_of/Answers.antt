use Rattle.std.proofs.Common.{◌≡◌, ◌<◌, ◌++◌, [], ◌∷◌, ℕ, List, length, ◌∙◌, ap, sym, subst, arith}
use Rattle.std.specs.List.{All}
use Rattle.nextest_config_resolution_inheritance.specs.Inheritance.{Name, Parents, IsChain, default, name_at, names_at}
use Rattle.nextest_config_resolution_inheritance.specs.Inherits.{parents_in}
use Rattle.nextest_config_resolution_inheritance.proofs.Climbing.{Climbing, all_inside, arrives, climbs, closer, is_default, is_other, sets_out}
use Rattle.nextest_config_resolution_inheritance.proofs.Found.{length_all, named}
use Rattle.nextest_config_resolution_inheritance.proofs.chain.chain_of.Goals as goal

pub loop-chain-preserved : goal.loop-chain-preserved
loop-chain-preserved g c =
    let name_of = g.P.Inherits.name_of in
    let parent_of = g.P.Inherits.parent_of in
    let values = c.args.profiles.now in
    let all : Parents = parents_in name_of parent_of values in
    let here = c.loop-chain.here in
    let next = c.place_of_next-here in
    let size = length_all name_of parent_of values in
    let is = named name_of parent_of values here c.index-profiles-here.result (omega (arith, c.loop-chain.invariant.within, size)) c.index-profiles-here.is in
    let apart = subst (λ (name : Name). ¬ (name ≡ default)) (c.name.ensures ∙ sym is) (is_other c.name.result.now c.loop-chain-test.ensures) in
    subst (λ (chain : List ℕ). Climbing all c.args.place chain next.result) (sym c.in_ok-push.ensures.items)
    (climbs all c.args.place c.loop-chain.chain.items here next.result c.loop-chain.invariant apart (omega (arith, next.ensures.within, size)) next.ensures.name)

pub loop-chain-smaller : goal.loop-chain-smaller
loop-chain-smaller g c =
    let name_of = g.P.Inherits.name_of in
    let parent_of = g.P.Inherits.parent_of in
    let values = c.args.profiles.now in
    let all : Parents = parents_in name_of parent_of values in
    let here = c.loop-chain.here in
    let next = c.place_of_next-here in
    let chain = c.loop-chain.chain.items in
    let size = length_all name_of parent_of values in
    let moved = subst (λ (list : List ℕ). Climbing all c.args.place list next.result) c.in_ok-push.ensures.items (loop-chain-preserved g c) in
    let nearer = closer all c.args.place chain here next.result (omega (arith, c.requires.place, size)) c.requires.accepted moved in
    let longer : length c.push.new.self.items ≡ length (chain ++ here ∷ []) = ap (λ (list : List ℕ). length list) c.in_ok-push.ensures.items in
    omega (arith, nearer, longer, size)

pub returns-clause-chain : goal.returns-clause-chain
returns-clause-chain g c =
    let name_of = g.P.Inherits.name_of in
    let parent_of = g.P.Inherits.parent_of in
    let values = c.args.profiles.now in
    let all : Parents = parents_in name_of parent_of values in
    let here = c.loop-chain.here in
    let size = length_all name_of parent_of values in
    let is = named name_of parent_of values here c.index-profiles-here.result (omega (arith, c.loop-chain.invariant.within, size)) c.index-profiles-here.is in
    let last = is ∙ sym c.name.ensures ∙ is_default c.name.result.now c.loop-chain-test.ensures in
    subst (λ (chain : List ℕ). IsChain all (name_at all c.args.place) (names_at all chain)) (sym c.in_ok-push-2.ensures.items)
    (arrives all c.args.place c.loop-chain.chain.items here c.loop-chain.invariant last)

pub returns-clause-within : goal.returns-clause-within
returns-clause-within g c =
    let name_of = g.P.Inherits.name_of in
    let parent_of = g.P.Inherits.parent_of in
    let values = c.args.profiles.now in
    let all : Parents = parents_in name_of parent_of values in
    let chain = c.loop-chain.chain.items ++ c.loop-chain.here ∷ [] in
    let inside : All (λ p. p < length values) chain = λ k d short.
    omega (arith, all_inside all c.args.place c.loop-chain.chain.items c.loop-chain.here c.loop-chain.invariant k d short, length_all name_of parent_of values) in
    subst (λ (chain : List ℕ). All (λ p. p < length values) chain) (sym c.in_ok-push-2.ensures.items) inside

pub place_of_next-here-requires-clause-rise : goal.place_of_next-here-requires-clause-rise
place_of_next-here-requires-clause-rise g c = c.requires.rise

pub place_of_next-here-requires-clause-has_default : goal.place_of_next-here-requires-clause-has_default
place_of_next-here-requires-clause-has_default g c = c.requires.has_default

pub place_of_next-here-requires-clause-known : goal.place_of_next-here-requires-clause-known
place_of_next-here-requires-clause-known g c = c.requires.accepted.known

pub place_of_next-here-requires-clause-here : goal.place_of_next-here-requires-clause-here
place_of_next-here-requires-clause-here g c =
    omega (arith, c.loop-chain.invariant.within, length_all g.P.Inherits.name_of g.P.Inherits.parent_of c.args.profiles.now)

pub bounds-profiles-here : goal.bounds-profiles-here
bounds-profiles-here g c =
    omega (arith, c.loop-chain.invariant.within, length_all g.P.Inherits.name_of g.P.Inherits.parent_of c.args.profiles.now)

pub loop-chain-init : goal.loop-chain-init
loop-chain-init g c =
    let all : Parents = parents_in g.P.Inherits.name_of g.P.Inherits.parent_of c.args.profiles.now in
    let size = length_all g.P.Inherits.name_of g.P.Inherits.parent_of c.args.profiles.now in
    subst (λ (chain : List ℕ). Climbing all c.args.place chain c.args.place) (sym c.new-chain.ensures.items)
    (sets_out all c.args.place (omega (arith, c.requires.place, size)))
