use Rattle.std.proofs.Common.{subst, sym}
use Rattle.nextest_filtering_filters.specs.Formula.{AreValues}
use Rattle.nextest_filtering_filters.specs.Values.{may_by, values_at}
use Rattle.nextest_filtering_filters.proofs.Giving.{may_exactly}
use Rattle.nextest_filtering_filters.proofs.Waiting.{takes_both, takes_either, takes_leaf, takes_not}
use Rattle.nextest_filtering_filters.proofs.formula.take_step.Goals as goal

pub returns-in_ok-push-in-Leaf : goal.returns-in_ok-push-in-Leaf
returns-in_ok-push-in-Leaf c =
    takes_leaf (may_by (values_at c.args.leaves.now)) c.args.step c.in-Leaf.leaf c.args.waiting.now.items c.push.new.self.items c.values_of.result c.in-Leaf.is
    (subst (AreValues (may_by (values_at c.args.leaves.now) c.in-Leaf.leaf)) (sym c.values_of.ensures.values) (may_exactly (values_at c.args.leaves.now) c.in-Leaf.leaf)) c.values_of.ensures.some c.in_ok-push-in-Leaf.ensures.items

pub returns-in_ok-push-in-Not : goal.returns-in_ok-push-in-Not
returns-in_ok-push-in-Not c =
    takes_not (may_by (values_at c.args.leaves.now)) c.args.step c.take_last-inside.new.waiting.items c.args.waiting.now.items c.push-in-Not.new.self.items c.take_last-inside.result c.negated.result c.in-Not.is
    c.take_last-inside.ensures c.negated.ensures c.in_ok-push-in-Not.ensures.items

pub returns-in_ok-push-in-Either : goal.returns-in_ok-push-in-Either
returns-in_ok-push-in-Either c =
    takes_either (may_by (values_at c.args.leaves.now)) c.args.step c.take_last-left.new.waiting.items c.take_last-right.new.waiting.items c.args.waiting.now.items c.push-in-Either.new.self.items
    c.take_last-left.result c.take_last-right.result c.either.result c.in-Either.is c.take_last-right.ensures c.take_last-left.ensures c.either.ensures c.in_ok-push-in-Either.ensures.items

pub returns-in_ok-push-in-Both : goal.returns-in_ok-push-in-Both
returns-in_ok-push-in-Both c =
    takes_both (may_by (values_at c.args.leaves.now)) c.args.step c.take_last-left-in-Both.new.waiting.items c.take_last-right-in-Both.new.waiting.items c.args.waiting.now.items c.push-in-Both.new.self.items
    c.take_last-left-in-Both.result c.take_last-right-in-Both.result c.both.result c.in-Both.is c.take_last-right-in-Both.ensures c.take_last-left-in-Both.ensures c.both.ensures c.in_ok-push-in-Both.ensures.items
