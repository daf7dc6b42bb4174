use Rattle.std.proofs.Common.{◌∙◌}
use Rattle.test_runner_core_listing.specs.Answers.{lent_compiled}
use Rattle.test_runner_core_listing.proofs.Asked.{answer_on}
use Rattle.test_runner_core_listing.proofs.listing.list_if.Goals as goal

pub returns : goal.returns
returns g c =
    let Member = g.G.GroupLookup.member c.args.groups.now in
    let filters = lent_compiled c.args.filters.now in
    let default = c.args.ecx.now in
    let binary = c.args.binary.now in
    let asked = c.as_mut_slice.result.now in
    let is = c.as_mut_slice.ensures.value ∙ c.in_ok-evaluators.ensures in
    record {
      adds = λ chosen are. c.list_by.ensures.adds chosen (answer_on filters default Member chosen binary asked is are);
      stays = c.list_by.ensures.stays;
      asks = λ chosen are. c.list_by.ensures.asks chosen (answer_on filters default Member chosen binary asked is are);
    }
