use Rattle.std.proofs.Common.{◌≡◌, ◌∙◌, sym, ap, subst, Bool, [], length, IsTrue}
use Rattle.std.specs.Prelude.{◌↔◌}
use Rattle.nextest_filtering_globs.specs.Meaning.{Matches}
use Rattle.nextest_filtering_globs.specs.Inside.{run, state, start_of, has_last}
use Rattle.nextest_filtering_globs.proofs.Fold.{balanced_answers}
use Rattle.nextest_filtering_globs.proofs.Loops.{written_back}
use Rattle.nextest_filtering_globs.proofs.matching.is_walked.Goals as goal

pub returns : goal.returns
returns c =
    let text = c.args.text.now in
    let tokens = c.args.tokens.now in
    let begun : c.as_mut_slice.result.now ≡ start_of text = c.as_mut_slice.ensures.value ∙ c.in_ok-begin.ensures in
    let made = c.begin.new.places in
    let kept : length c.take_all.new.current ≡ length c.as_mut_slice.result.now = c.take_all.auto.current in
    let wide : length c.as_mut_slice.result.now ≡ length made.items = ap length c.as_mut_slice.ensures.value in
    let last : c.as_slice.result.now ≡ c.take_all.new.current = c.as_slice.ensures.value
    ∙ written_back made.len c.take_all.new.current made.items (sym made.ok.0) (kept ∙ (wide ∙ sym made.ok.0)) in
    let places : c.as_slice.result.now ≡ (run text tokens (state (start_of text) [])).current =
    last ∙ (c.in_ok-take_all.ensures ∙ ap (λ x. (run text tokens (state x [])).current) begun) in
    let whole : IsTrue (has_last c.as_slice.result.now) ↔ Matches tokens text =
    balanced_answers tokens text c.as_slice.result.now c.requires places in
    subst (λ (b : Bool). IsTrue b ↔ Matches tokens text) (sym c.has_last.ensures) whole
