use Rattle.std.proofs.Common.{◌≡◌, ◌-◌, [], get_or, sym, ◌∙◌, arith}
use Rattle.std.proofs.lemmas.List.{length-map}
use Rattle.std.specs.Cmp.Lexicographic.{slice_cmp, nat_list_cmp_total}
use Rattle.std.specs.Ordering.{nat_cmp}
use Rattle.std.specs.declared.cmp.Ordering.TheVariants.{Less}
use Rattle.nextest_text.specs.Parts.{lent_texts}
use Rattle.test_runner_core_plan.proofs.Strict.{greater, one_more, strictly}
use Rattle.test_runner_core_listing.proofs.Differing.{rising_differ}
use Rattle.test_runner_core_listing.proofs.Lent.{item_lent, within_lent}
use Rattle.test_runner_core_listing.proofs.distinct.rise.Goals as goal

pub loop-place-preserved : goal.loop-place-preserved
loop-place-preserved c =
    let names = c.args.names.now in
    let place = c.loop-place.place in
    let name = (get_or names place (record { ref_ptr = (0, 0); now = [] })).now in
    let before = (get_or names (place - 1) (record { ref_ptr = (0, 0); now = [] })).now in
    one_more (λ x y. slice_cmp nat_cmp x y ≡ Less) (lent_texts names) place before name c.loop-place.invariant c.loop-place.auto.place (within_lent names place c.loop-place-test.true)
    (item_lent names (place - 1) before (omega (arith, c.loop-place-test.true))) (item_lent names place name c.loop-place-test.true)
    (greater (slice_cmp nat_cmp) nat_list_cmp_total before name (sym c.le.ensures ∙ c.if-le.false))

pub returns : goal.returns
returns c = λ _. rising_differ (lent_texts c.args.names.now)
    (strictly (slice_cmp nat_cmp) nat_list_cmp_total (lent_texts c.args.names.now) (λ k d inside. c.loop-place.invariant k d (omega (arith, inside, length-map c.args.names.now (λ name. name.now), c.loop-place-test.false))))
