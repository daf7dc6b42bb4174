use Rattle.std.proofs.Common.{[], map, get_or, ap, refl, ◌∙◌, arith}
use Rattle.std.proofs.lemmas.List.{length-map, take_all}
use Rattle.nextest_text.specs.Parts.{lent_texts}
use Rattle.test_runner_core_listing.proofs.Added.{said}
use Rattle.test_runner_core_listing.proofs.Lent.{one_told}
use Rattle.test_runner_core_listing.proofs.listing.selects.Goals as goal

pub loop-name-preserved : goal.loop-name-preserved
loop-name-preserved g c =
    let Member = g.G.GroupLookup.member c.args.groups.now in
    let name = (get_or c.args.names.now c.loop-name.name-index (record { ref_ptr = (0, 0); now = [] })).now in
    let selected = c.in_ok-is_selected.field-0 in
    let before = c.loop-name.invariant in
    record {
      same = c.in_ok-is_selected.ensures.same ∙ before.same;
      told = λ binary chosen are.
          one_told (chosen.selects binary) c.args.names.now c.loop-name.name-index selected c.loop-name.selected.items c.push.new.self.items c.loop-name-test.true
          (said Member c.loop-name.evaluators c.args.evaluators.now binary chosen name name selected before.same are refl c.in_ok-is_selected.ensures.value)
          (before.told binary chosen are) c.in_ok-push.ensures.items;
    }

pub returns : goal.returns
returns g c = record {
  selects = λ binary chosen are.
      c.loop-name.invariant.told binary chosen are
      ∙ ap (map (chosen.selects binary)) (take_all c.loop-name.name-index (lent_texts c.args.names.now) (omega (arith, length-map c.args.names.now (λ name. name.now), c.loop-name-test.false)));
}
