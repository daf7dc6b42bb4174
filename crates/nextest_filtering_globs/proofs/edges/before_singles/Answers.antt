use Rattle.std.proofs.Common.{◌-◌, length, take, sym, ◌∙◌, arith}
use Rattle.nextest_filtering_globs.proofs.Singles.{fitting_single, leaves_all}
use Rattle.nextest_filtering_globs.proofs.Lasts.{ends_with, fewer, leaves_before, none_before}
use Rattle.nextest_filtering_globs.proofs.edges.before_singles.Goals as goal

pub loop-left-init : goal.loop-left-init
loop-left-init g c = record { within = omega arith; leaves = leaves_all c.args.tokens.now (g.C.Character.codes c.args.text.now) }

pub offset_bounds-left-left : goal.offset_bounds-left-left
offset_bounds-left-left g c = omega arith

pub returns-then-is_single : goal.returns-then-is_single
returns-then-is_single g c =
    let l = c.loop-left in
    let more = take (length l.left.now - 1) l.left.now in
    none_before c.args.tokens.now (g.C.Character.codes c.args.text.now) c.token-item.result l.left.now more (g.C.Character.codes l.rest.now)
    (ends_with l.left.now c.token-item.result c.in-len1-up.len_at_least c.token-item.is)
    (sym c.is_single.ensures ∙ c.if-is_single.true) c.in_default-before_last.ensures l.invariant.leaves

pub loop-left-preserved : goal.loop-left-preserved
loop-left-preserved g c =
    let l = c.loop-left in
    let more = take (length l.left.now - 1) l.left.now in
    let taken = c.in-Some.ensures in
    record {
      within = omega (arith, fewer (length l.left.now - 1) l.left.now);
      leaves = leaves_before c.args.tokens.now (g.C.Character.codes c.args.text.now) c.token-item.result l.left.now more (g.C.Character.codes l.rest.now)
          (g.C.Character.codes c.in-Some.before.now) taken.0 (ends_with l.left.now c.token-item.result c.in-len1-up.len_at_least c.token-item.is)
          taken.1 (fitting_single c.token-item.result taken.0 taken.2) taken.2 l.invariant.leaves;
    }
