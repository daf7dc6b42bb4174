use Rattle.std.proofs.Common.{◌∙◌}
use Rattle.test_runner_core_listing.specs.Answers.{query_of}
use Rattle.test_runner_core_listing.proofs.Asked.{all_asked, one_asked}
use Rattle.test_runner_core_listing.proofs.listing.evaluators_of.Goals as goal

pub loop-filter-preserved : goal.loop-filter-preserved
loop-filter-preserved c =
    let of = c.in_ok-new.ensures in
    one_asked c.args.ecx.now (query_of c.args.binary.now) c.args.filters.now c.loop-filter.filter-index c.filter-item.result c.in_ok-new.field-0 c.loop-filter.evaluators.items c.push.new.self.items
    c.loop-filter-test.true c.filter-item.is of.filter of.default (of.binary ∙ c.query_of-query.ensures) c.loop-filter.invariant c.in_ok-push.ensures.items

pub returns : goal.returns
returns c = all_asked c.args.ecx.now (query_of c.args.binary.now) c.args.filters.now c.loop-filter.filter-index c.loop-filter.evaluators.items c.loop-filter-test.false c.loop-filter.invariant
