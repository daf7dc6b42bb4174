use Rattle.std.proofs.Common.{arith, length, subst, sym}
use Rattle.nextest_filtering_filters.specs.Questions as words
use Rattle.nextest_filtering_filters.specs.Values.{values_at}
use Rattle.nextest_filtering_filters.specs.declared.questions.Pending.TheVariants as pending
use Rattle.nextest_filtering_filters.proofs.Lists.{ok_both}
use Rattle.nextest_filtering_filters.proofs.StepsBack.{Reaches, leaf_back, none_of, pushed_within, same_may, taken_within}
use Rattle.nextest_filtering_filters.proofs.questions.step_back.Goals as goal

pub returns-in-Leaf-clause-reach : goal.returns-in-Leaf-clause-reach
returns-in-Leaf-clause-reach c =
    let before = c.args.pending.now in
    let middle = c.pop.new.self.items in
    let list = c.args.list.now.items in
    let number = c.in-Leaf.leaf in
    let parts = taken_within (length list) before.items middle c.pop.result c.args.last c.exits_of-exits.result c.pop.ensures.items c.requires.pending c.requires.last c.exits_of-exits.ensures in
    ok_both _ _ _
    (λ made told keeps. λ answer may. let come = words.outcomes answer list in
    let later = words.outcomes answer c.next_of.new.list.items in
    subst (Reaches answer come later before.items middle (words.at_next come c.args.last) (words.at_next later made)) (sym c.in-Leaf.is)
    (leaf_back answer list c.next_of.new.list.items before.items middle c.pop.result c.args.last made c.exits_of-exits.result number c.pop.ensures.items
    (λ none. let nothing = none_of c.pop.result _ _ c.pop.ensures.cases none in omega (arith, nothing.0, before.ok.0)) parts.0 c.exits_of-exits.ensures keeps
    (told answer (same_may (values_at c.args.leaves.now) number c.values_of.result (answer number) c.values_of.ensures.values (may number)))))
    c.next_of.result c.next_of.ensures.next c.next_of.ensures.kept

pub returns-in_ok-push-in-Not-clause-pending : goal.returns-in_ok-push-in-Not-clause-pending
returns-in_ok-push-in-Not-clause-pending c =
    let count = length c.args.list.now.items in
    let exits = c.exits_of-exits.result in
    let parts = taken_within count c.args.pending.now.items c.pop.new.self.items c.pop.result c.args.last exits c.pop.ensures.items c.requires.pending c.requires.last c.exits_of-exits.ensures in
    pushed_within count c.pop.new.self.items c.push.new.self.items (pending.Exits (record { if_true = exits.if_false; if_false = exits.if_true })) c.in_ok-push-in-Not.ensures.items parts.0 (parts.1.1, parts.1.0)

pub returns-in_ok-push-in-Both-2-clause-pending : goal.returns-in_ok-push-in-Both-2-clause-pending
returns-in_ok-push-in-Both-2-clause-pending c =
    let count = length c.args.list.now.items in
    let exits = c.exits_of-exits.result in
    let parts = taken_within count c.args.pending.now.items c.pop.new.self.items c.pop.result c.args.last exits c.pop.ensures.items c.requires.pending c.requires.last c.exits_of-exits.ensures in
    pushed_within count c.push-in-Both.new.self.items c.push-in-Both-2.new.self.items (pending.Exits exits) c.in_ok-push-in-Both-2.ensures.items
    (pushed_within count c.pop.new.self.items c.push-in-Both.new.self.items (pending.Both exits.if_false) c.in_ok-push-in-Both.ensures.items parts.0 parts.1.1) parts.1

pub returns-in_ok-push-in-Either-2-clause-pending : goal.returns-in_ok-push-in-Either-2-clause-pending
returns-in_ok-push-in-Either-2-clause-pending c =
    let count = length c.args.list.now.items in
    let exits = c.exits_of-exits.result in
    let parts = taken_within count c.args.pending.now.items c.pop.new.self.items c.pop.result c.args.last exits c.pop.ensures.items c.requires.pending c.requires.last c.exits_of-exits.ensures in
    pushed_within count c.push-in-Either.new.self.items c.push-in-Either-2.new.self.items (pending.Exits exits) c.in_ok-push-in-Either-2.ensures.items
    (pushed_within count c.pop.new.self.items c.push-in-Either.new.self.items (pending.Either exits.if_true) c.in_ok-push-in-Either.ensures.items parts.0 parts.1.0) parts.1
