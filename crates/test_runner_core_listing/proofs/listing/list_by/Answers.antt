use Rattle.std.proofs.Common.{Err, Ok, ap, refl, sym, ◌∙◌}
use Rattle.std.proofs.lemmas.Result.{err_from_is_err_and}
use Rattle.test_runner_core_listing.specs.Listing.{accepted_answer}
use Rattle.test_runner_core_listing.proofs.Asked.{answer_still}
use Rattle.test_runner_core_listing.proofs.Listed.{adds_listed, adds_none, answer_now, asks_listed, asks_none, listed_as}
use Rattle.test_runner_core_listing.proofs.listing.list_by.Goals.{then-branch+in_ok-list_one, else-branch}
use Rattle.test_runner_core_listing.proofs.listing.list_by.Goals as goal

pub returns : goal.returns
returns g c =
    let Member = g.G.GroupLookup.member c.args.groups.now in
    let binary = c.args.binary.now in
    let lister = c.args.lister.now in
    let found = c.args.found.now in
    let initial = c.args.evaluators.now in
    let now = c.is_listed.new.evaluators in
    let same = c.in_ok-is_listed.ensures.same in
    let value = c.in_ok-is_listed.field-0 in
    let says = c.in_ok-is_listed.ensures.value in
    let answered = accepted_answer (g.L.Lister.answer lister binary) in
    elim c.if-branch.branch [
      | then-branch+in_ok-list_one w ↦ record {
        adds = λ chosen are.
            let told = listed_as Member initial binary chosen value says are in
            let one = w.in_ok-list_one.ensures.adds chosen (answer_still Member now initial binary chosen same are) in
            adds_listed (chosen.lists binary) _ _ answered chosen binary found w.list_one.new.found c.if-branch.found (sym told ∙ w.if-branch.true) refl w.found-is one;
        stays = λ other. answer_now g.L.Lister.answer lister w.list_one.new.lister c.if-branch.lister other w.lister-is (w.in_ok-list_one.ensures.stays other);
        asks = λ chosen are.
            let told = listed_as Member initial binary chosen value says are in
            asks_listed g.L.Lister.asked (chosen.lists binary) (Ok tt) (Ok tt) binary lister w.list_one.new.lister c.if-branch.lister (sym told ∙ w.if-branch.true) refl w.lister-is w.in_ok-list_one.ensures.asks;
      }
      | else-branch w ↦ record {
        adds = λ chosen are.
            let told = listed_as Member initial binary chosen value says are in
            adds_none (chosen.lists binary) tt answered chosen binary found c.if-branch.found (sym told ∙ w.if-branch.false) w.found-is;
        stays = λ other. ap (λ it. g.L.Lister.answer it other) w.lister-is;
        asks = λ chosen are.
            let told = listed_as Member initial binary chosen value says are in
            asks_none g.L.Lister.asked (chosen.lists binary) binary lister c.if-branch.lister (sym told ∙ w.if-branch.false) w.lister-is;
      }
    ]

pub returns-in_err-list_one : goal.returns-in_err-list_one
returns-in_err-list_one g c =
    let Member = g.G.GroupLookup.member c.args.groups.now in
    let binary = c.args.binary.now in
    let lister = c.args.lister.now in
    let found = c.args.found.now in
    let initial = c.args.evaluators.now in
    let now = c.is_listed.new.evaluators in
    let same = c.in_ok-is_listed.ensures.same in
    let value = c.in_ok-is_listed.field-0 in
    let says = c.in_ok-is_listed.ensures.value in
    let answered = accepted_answer (g.L.Lister.answer lister binary) in
    let p = err_from_is_err_and c.from_residual-in_err-list_one.result c.from_residual-in_err-list_one.ensures.1 in
    let result = p.1 ∙ ap Err p.2 in
    let error = c.in_err-list_one.field-0.0 in
    record {
      adds = λ chosen are.
          let told = listed_as Member initial binary chosen value says are in
          let one = c.in_err-list_one.ensures.adds chosen (answer_still Member now initial binary chosen same are) in
          adds_listed (chosen.lists binary) c.from_residual-in_err-list_one.result (Err error) answered chosen binary found c.list_one.new.found c.list_one.new.found (sym told ∙ c.if-branch.true) result refl one;
      stays = c.in_err-list_one.ensures.stays;
      asks = λ chosen are.
          let told = listed_as Member initial binary chosen value says are in
          asks_listed g.L.Lister.asked (chosen.lists binary) c.from_residual-in_err-list_one.result (Err error) binary lister c.list_one.new.lister c.list_one.new.lister (sym told ∙ c.if-branch.true) result refl
          c.in_err-list_one.ensures.asks;
    }
