use Rattle.std.proofs.Common.{arith, subst}
use Rattle.nextest_filtering_filters.specs.Asking.{AreLeafValues, IsFor}
use Rattle.nextest_filtering_filters.specs.Query.{test_of}
use Rattle.nextest_filtering_filters.proofs.Lists.{as_long, value_more, zip_end, zip_set}
use Rattle.nextest_filtering_filters.proofs.part.values_on_test.Goals as goal

pub returns-in_err-values_of_one-clause-stays : goal.returns-in_err-values_of_one-clause-stays
returns-in_err-values_of_one-clause-stays g c = λ binary leaves all.
    zip_set (IsFor binary) leaves c.loop-it.asked c.loop-it.it-index c.it-item.result c.values_of_one.new.asked (omega arith) c.it-item.is (λ leaf is. c.values_of_one.ensures.stays binary leaf (subst (IsFor binary leaf) c.it-item.is is))
    (c.loop-it.invariant binary leaves all).0

pub returns-in_err-push-clause-stays : goal.returns-in_err-push-clause-stays
returns-in_err-push-clause-stays g c = λ binary leaves all.
    zip_set (IsFor binary) leaves c.loop-it.asked c.loop-it.it-index c.it-item.result c.values_of_one.new.asked (omega arith) c.it-item.is (λ leaf is. c.values_of_one.ensures.stays binary leaf (subst (IsFor binary leaf) c.it-item.is is))
    (c.loop-it.invariant binary leaves all).0

pub loop-it-preserved : goal.loop-it-preserved
loop-it-preserved g c = λ binary leaves all.
    let so_far = c.loop-it.invariant binary leaves all in (
      zip_set (IsFor binary) leaves c.loop-it.asked c.loop-it.it-index c.it-item.result c.values_of_one.new.asked (omega arith) c.it-item.is (λ leaf is. c.values_of_one.ensures.stays binary leaf (subst (IsFor binary leaf) c.it-item.is is)) so_far.0,
      value_more (IsFor binary) (AreLeafValues binary (test_of c.args.test.now).name (g.G.GroupLookup.member c.args.groups.now (test_of c.args.test.now)) c.args.default) leaves c.loop-it.asked c.loop-it.values.items
          c.push.new.self.items c.loop-it.it-index c.it-item.result c.in_ok-values_of_one.field-0 (omega arith) c.it-item.is c.in_ok-push.ensures.items
          (λ leaf is. c.in_ok-values_of_one.ensures.value binary leaf (subst (IsFor binary leaf) c.it-item.is is)) so_far.0 so_far.1,
    )

pub returns-clause-values : goal.returns-clause-values
returns-clause-values g c = λ binary leaves all.
    let so_far = c.loop-it.invariant binary leaves all in
    zip_end (AreLeafValues binary (test_of c.args.test.now).name (g.G.GroupLookup.member c.args.groups.now (test_of c.args.test.now)) c.args.default) leaves c.loop-it.values.items c.loop-it.it-index
    (omega (arith, as_long (IsFor binary) leaves c.loop-it.asked so_far.0)) so_far.1
