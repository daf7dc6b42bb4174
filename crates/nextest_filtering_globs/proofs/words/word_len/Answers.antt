use Rattle.std.proofs.Common.{sym, ◌∙◌}
use Rattle.nextest_filtering_globs.proofs.Gaps.{singles_at}
use Rattle.nextest_filtering_globs.proofs.words.word_len.Goals as goal

pub loop-place-preserved : goal.loop-place-preserved
loop-place-preserved c =
    let l = c.loop-place in
    let token = c.index-tokens-place in
    singles_at c.args.tokens.now l.place token.result c.loop-place-test.true token.is
    (sym c.is_single.ensures ∙ c.if-not-is_single.false) l.invariant
