use Rattle.std.proofs.Common.{sym, ◌∙◌}
use Rattle.nextest_filtering_globs.proofs.Branches.{sign_behind}
use Rattle.nextest_filtering_globs.proofs.Gaps.{singles_at}
use Rattle.nextest_filtering_globs.proofs.alternatives.first_alternative.Goals as goal

pub returns-then-not-is_single-clause-behind : goal.returns-then-not-is_single-clause-behind
returns-then-not-is_single-clause-behind c =
    let l = c.loop-place in
    let token = c.index-tokens-place in
    sign_behind c.args.tokens.now l.place token.result c.loop-place-test.true token.is
    (sym c.is_single.ensures ∙ c.if-not-is_single.true) c.requires

pub loop-place-preserved : goal.loop-place-preserved
loop-place-preserved c =
    let l = c.loop-place in
    let token = c.index-tokens-place in
    singles_at c.args.tokens.now l.place token.result c.loop-place-test.true token.is
    (sym c.is_single.ensures ∙ c.if-not-is_single.false) l.invariant
