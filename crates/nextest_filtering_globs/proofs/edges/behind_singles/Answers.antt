use Rattle.std.proofs.Common.{sym, ◌∙◌}
use Rattle.nextest_filtering_globs.proofs.Singles.{fitting_single, leaves_all, leaves_behind, none_behind}
use Rattle.nextest_filtering_globs.proofs.edges.behind_singles.Goals as goal

pub loop-token-init : goal.loop-token-init
loop-token-init g c = leaves_all c.args.tokens.now (g.C.Character.codes c.args.text.now)

pub returns-then-is_single : goal.returns-then-is_single
returns-then-is_single g c =
    let l = c.loop-token in
    let begun = c.in-Some in
    none_behind c.args.tokens.now (g.C.Character.codes c.args.text.now) begun.token.now l.left.now begun.more.now (g.C.Character.codes l.rest.now)
    begun.ensures.cases.0 (sym c.is_single.ensures ∙ c.if-is_single.true) c.in_default-behind_first.ensures l.invariant

pub loop-token-preserved : goal.loop-token-preserved
loop-token-preserved g c =
    let l = c.loop-token in
    let begun = c.in-Some in
    let taken = c.in-Some-behind_first.ensures in
    leaves_behind c.args.tokens.now (g.C.Character.codes c.args.text.now) begun.token.now l.left.now begun.more.now (g.C.Character.codes l.rest.now)
    (g.C.Character.codes c.in-Some-behind_first.behind.now) taken.0 begun.ensures.cases.0 taken.1
    (fitting_single begun.token.now taken.0 taken.2) taken.2 l.invariant
