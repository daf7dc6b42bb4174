use Rattle.test_runner_core_listing.proofs.Answering.{answers_once, has_answers}
use Rattle.test_runner_core_listing.proofs.laws.one_selection.Goals as goal

pub returns : goal.returns
returns g c = record {
  exists = λ groups. has_answers (g.G.GroupLookup.member groups);
  once = λ groups. answers_once (g.G.GroupLookup.member groups);
}
