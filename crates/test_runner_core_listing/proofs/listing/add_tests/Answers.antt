use Rattle.std.proofs.Common.{map, ap, refl, ◌∙◌}
use Rattle.std.specs.List.{items_where_true}
use Rattle.nextest_text.specs.Parts.{lent_texts}
use Rattle.test_runner_core_listing.specs.declared.selection.SelectedTests.{SelectedTests}
use Rattle.test_runner_core_listing.proofs.Added.{binary_added}
use Rattle.test_runner_core_listing.proofs.Lent.{picked}
use Rattle.test_runner_core_listing.proofs.listing.add_tests.Goals as goal

pub returns-clause-tests : goal.returns-clause-tests
returns-clause-tests g c = λ chosen are.
    let on = chosen.selects c.args.binary.now in
    let names = c.args.names.now in
    let told = c.in_ok-selected.ensures.selects c.args.binary.now chosen are ∙ ap (map on) (ap lent_texts c.as_slice.ensures.value ∙ c.in_ok-texts.ensures) in
    let one : SelectedTests = record { binary = c.args.binary; names = c.in_ok-filtered.field-0 } in
    binary_added chosen names one c.args.found.now.tests.items c.args.found.now.tests.items c.push.new.self.items refl
    (c.in_ok-filtered.ensures ∙ ap (λ keep. items_where_true keep names) (c.as_slice-3.ensures.value ∙ told) ∙ picked on names) c.in_ok-push.ensures.items

pub returns-clause-skipped : goal.returns-clause-skipped
returns-clause-skipped g c = λ chosen are.
    let on = chosen.selects c.args.binary.now in
    let told = c.in_ok-selected.ensures.selects c.args.binary.now chosen are ∙ ap (map on) (ap lent_texts c.as_slice.ensures.value ∙ c.in_ok-texts.ensures) in
    c.in_ok-skip_others.ensures on (c.as_slice-2.ensures.value ∙ told)
