use Rattle.std.proofs.Common.{List, ◌+◌, drop, subst, ◌∙◌}
use Rattle.std.proofs.lemmas.Result.{err_from_is_err_and}
use Rattle.test_runner_core_workspace.specs.declared.record.Binary.{Binary}
use Rattle.test_runner_core_listing.specs.Listing.{listed_of}
use Rattle.test_runner_core_listing.proofs.Walk.{Walked, asks_refused, one_walked, rest_of}
use Rattle.test_runner_core_listing.proofs.listing.select.Goals as goal

pub returns-in_err-list_if-clause-asks : goal.returns-in_err-list_if-clause-asks
returns-in_err-list_if-clause-asks g c = λ chosen are.
    let p = err_from_is_err_and c.from_residual.result c.from_residual.ensures.1 in
    let answer = g.L.Lister.answer c.args.lister.now in
    let initial = g.L.Lister.asked c.args.lister.now in
    let asked = g.L.Lister.asked c.loop-binary.lister in
    let binaries = c.args.binaries.now in
    let i = c.loop-binary.binary-index in
    let binary = c.binary-item.result in
    let all = listed_of chosen binaries in
    let found = c.loop-binary.found in
    let walked = subst (λ (rest : List Binary). Walked answer chosen all (listed_of chosen rest) found initial asked) (rest_of binaries i binary c.loop-binary-test.true c.binary-item.is) (c.loop-binary.invariant.walked chosen are) in
    rw (p.1, p.2) (asks_refused answer chosen all (chosen.lists binary) binary (listed_of chosen (drop (i + 1) binaries)) found c.list_if.new.found initial asked _ (g.L.Lister.answer c.loop-binary.lister binary) c.in_err-list_if.field-0.0 walked (c.loop-binary.invariant.stays binary) (c.in_err-list_if.ensures.adds chosen are) (c.in_err-list_if.ensures.asks chosen are))

pub loop-binary-preserved : goal.loop-binary-preserved
loop-binary-preserved g c =
    let answer = g.L.Lister.answer c.args.lister.now in
    let initial = g.L.Lister.asked c.args.lister.now in
    let asked = g.L.Lister.asked c.loop-binary.lister in
    let binaries = c.args.binaries.now in
    let i = c.loop-binary.binary-index in
    let binary = c.binary-item.result in
    let found = c.loop-binary.found in
    let adds = c.in_ok-list_if.ensures in
    record {
      walked = λ chosen are.
          let all = listed_of chosen binaries in
          let walked = subst (λ (rest : List Binary). Walked answer chosen all (listed_of chosen rest) found initial asked) (rest_of binaries i binary c.loop-binary-test.true c.binary-item.is) (c.loop-binary.invariant.walked chosen are) in
          one_walked answer chosen all (chosen.lists binary) binary (listed_of chosen (drop (i + 1) binaries)) found c.list_if.new.found initial asked _ (g.L.Lister.answer c.loop-binary.lister binary) c.in_ok-list_if.field-0
          walked (c.loop-binary.invariant.stays binary) (adds.adds chosen are) (adds.asks chosen are);
      stays = λ other. adds.stays other ∙ c.loop-binary.invariant.stays other;
    }
