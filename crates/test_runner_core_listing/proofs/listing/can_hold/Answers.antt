use Rattle.nextest_filtering_filters.specs.Filter.{filter_of}
use Rattle.nextest_filtering_filters.specs.Meaning.{CanBeOn}
use Rattle.test_runner_core_listing.proofs.Told.{can_hold}
use Rattle.test_runner_core_listing.proofs.listing.can_hold.Goals as goal

pub returns-clause-value : goal.returns-clause-value
returns-clause-value c =
    let asked = c.args.evaluator.now in
    let tells = can_hold (CanBeOn (filter_of asked.filter) (filter_of asked.default) asked.binary) c.in_ok-value.value c.in_ok-value.ensures.value in
    ((λ e. tells.0 cc), (λ can. let told = tells.1 can in cc))
