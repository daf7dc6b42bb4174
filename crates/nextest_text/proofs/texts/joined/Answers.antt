use Rattle.std.proofs.Common.{◌+◌, ◌++◌, drop, string_bytes, append_assoc, ap, sym, ◌∙◌}
use Rattle.std.specs.List.{concat}
use Rattle.nextest_text.specs.Parts.{lent_texts}
use Rattle.nextest_text.proofs.Cut.{text_here}
use Rattle.nextest_text.proofs.texts.joined.Goals as goal

pub loop-text-preserved : goal.loop-text-preserved
loop-text-preserved c =
    let left = concat (drop (c.loop-text.text-index + 1) (lent_texts c.args.texts.now)) in
    ap (λ joined. joined ++ left) c.in_ok-push_str.ensures.bytes
    ∙ append_assoc (string_bytes c.loop-text.whole) _ left
    ∙ ap (λ texts. string_bytes c.loop-text.whole ++ concat texts) (sym (text_here c.args.texts.now c.loop-text.text-index _ c.loop-text-test.true))
    ∙ c.loop-text.invariant
