use Rattle.std.proofs.Common.{◌+◌, ◌∙◌, sym, drop, arith}
use Rattle.nextest_filtering_globs.proofs.Nowhere.{walked_over}
use Rattle.nextest_filtering_globs.proofs.Walks.{Walked, walked_none, walked_at}
use Rattle.nextest_filtering_globs.proofs.walk.take_all.Goals as goal

pub loop-token-init : goal.loop-token-init
loop-token-init c =
    walked_none c.args.text.now c.args.tokens.now c.args.current.now c.args.stack.now.items c.requires.covers
    c.requires.balanced c.requires.empty

pub loop-token-preserved : goal.loop-token-preserved
loop-token-preserved c =
    let l = c.loop-token in
    let new = c.take_one.new in
    walked_at c.args.text.now c.args.tokens.now c.args.current.now l.token-index c.token-item.result l.current l.stack.items
    new.current new.stack.items c.loop-token-test.true c.token-item.is (omega arith) l.invariant c.in_ok-take_one.ensures

pub returns-then-is_over : goal.returns-then-is_over
returns-then-is_over c =
    let l = c.loop-token in
    let new = c.take_one.new in
    let more = drop (l.token-index + 1) c.args.tokens.now in
    let walked : Walked c.args.text.now c.args.tokens.now c.args.current.now more new.current new.stack.items =
    walked_at c.args.text.now c.args.tokens.now c.args.current.now l.token-index c.token-item.result l.current l.stack.items
    new.current new.stack.items c.loop-token-test.true c.token-item.is (omega arith) l.invariant c.in_ok-take_one.ensures in
    let over = c.is_over.ensures c.if-is_over.true in
    walked_over c.args.text.now c.args.tokens.now c.args.current.now more new.current new.stack.items walked
    (sym c.as_slice.ensures.value ∙ over.0) over.1
