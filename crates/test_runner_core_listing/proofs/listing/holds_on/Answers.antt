use Rattle.std.proofs.lemmas.Result.{IfOk-weaker}
use Rattle.nextest_filtering_filters.specs.Filter.{filter_of}
use Rattle.nextest_filtering_filters.specs.Meaning.{IsOn}
use Rattle.nextest_filtering_filters.specs.Query as query
use Rattle.test_runner_core_listing.proofs.Told.{holds}
use Rattle.test_runner_core_listing.proofs.listing.holds_on.Goals as goal

pub returns-clause-value : goal.returns-clause-value
returns-clause-value g c =
    let asked = c.args.evaluator.now in
    let test : query.Test = record { binary = asked.binary; name = c.args.name.now } in
    IfOk-weaker c.matches_test_with_groups.result _ _
    (λ value is. holds (IsOn (filter_of asked.filter) (filter_of asked.default) test (g.G.GroupLookup.member c.args.groups.now test)) value is)
    c.matches_test_with_groups.ensures.value
