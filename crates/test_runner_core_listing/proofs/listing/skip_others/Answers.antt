use Rattle.std.proofs.Common.{◌++◌, ap, sym, ◌∙◌, arith}
use Rattle.std.proofs.lemmas.List.{append-nil}
use Rattle.test_runner_core_listing.specs.Listing.{tests_of}
use Rattle.test_runner_core_listing.proofs.Skipped.{none_left, one_left_out, passed}
use Rattle.test_runner_core_listing.proofs.listing.skip_others.Goals as goal

pub loop-index-preserved-then-selected-index : goal.loop-index-preserved-then-selected-index
loop-index-preserved-then-selected-index c = λ on are.
    ap (λ rest. c.loop-index.skipped ++ tests_of c.args.binary.now rest)
    (sym (passed on c.args.names.now c.args.selected.now c.loop-index.index are (omega (arith, c.loop-index-test.true, c.min-index-end.ensures, c.len.ensures)) c.if-selected-index.true))
    ∙ c.loop-index.invariant on are

pub loop-index-preserved : goal.loop-index-preserved
loop-index-preserved c = λ on are.
    one_left_out on c.args.names.now c.args.selected.now c.args.binary.now c.loop-index.index c.in_ok-clone.field-0 c.in_ok-to_text.field-0 c.loop-index.skipped c.push.new.self _ are
    (omega (arith, c.loop-index-test.true, c.min-index-end.ensures, c.len.ensures)) c.if-selected-index.false (c.in_ok-clone.ensures.cases ∙ c.in_ok-id.ensures ∙ c.as_str.ensures) c.in_ok-to_text.ensures c.in_ok-push.ensures.ok
    (c.loop-index.invariant on are)

pub returns : goal.returns
returns c = λ on are.
    sym (append-nil c.loop-index.skipped)
    ∙ ap (λ rest. c.loop-index.skipped ++ tests_of c.args.binary.now rest) (sym (none_left on c.args.names.now c.args.selected.now c.loop-index.index are (omega (arith, c.loop-index-test.false, c.min-index-end.ensures, c.len.ensures))))
    ∙ c.loop-index.invariant on are
