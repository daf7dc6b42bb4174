use Rattle.std.proofs.Common.{◌≡◌, ◌+◌, ◌<◌, ◌≤◌, ℕ, length, take, codes, sym, subst, ◌∙◌, arith, rules}
use Rattle.std.specs.List.{concat}
use Rattle.std.proofs.lemmas.Iterator.Consumers.{YieldsList-from_first, YieldsList-turn, YieldsList-end}
use Rattle.std.proofs.lemmas.List.{length_push}
use Rattle.bstr.specs.Text.{Contains, lines_of}
use Rattle.nextest_run_events_slices.specs.Notes.{HasNote}
use Rattle.nextest_run_events_slices.proofs.NoteLines.{onward, bounded, none_more, found, has_found, has_not_found}
use Rattle.nextest_run_events_slices.proofs.notes.first_found.Goals as goal

pub returns-then-is_some : goal.returns-then-is_some
returns-then-is_some c =
    let output = c.args.output.now in
    let turn = YieldsList-turn (YieldsList-from_first (λ x. x.now) (λ rest. rest) (lines_of output) cc) c.loop-line.yielded _ c.loop-line.yielded_by _ _ c.in-Some.line c.in-Some.is c.next.ensures.steps in
    found output (length c.loop-line.yielded) c.loop-line.start c.in-Some.line.now turn.0 turn.1 c.loop-line.invariant.0 c.loop-line.invariant.1 c.line_text-text.result.now c.line_text-text.ensures
    (subst (Contains c.line_text-text.result.now) c.requires
    (has_found c.line_text-text.result.now c.args.note.now c.find.result c.find.ensures (sym c.is_some.ensures ∙ c.if-is_some.true)))

pub overflow_add-start : goal.overflow_add-start
overflow_add-start c =
    let output = c.args.output.now in
    let turn = YieldsList-turn (YieldsList-from_first (λ x. x.now) (λ rest. rest) (lines_of output) cc) c.loop-line.yielded _ c.loop-line.yielded_by _ _ c.in-Some.line c.in-Some.is c.next.ensures.steps in
    let low : c.loop-line.start + length c.in-Some.line.now ≤ length output = bounded output (length c.loop-line.yielded) c.loop-line.start c.in-Some.line.now turn.0 turn.1 c.loop-line.invariant.0 in
    search rules

pub loop-line-preserved : goal.loop-line-preserved
loop-line-preserved c =
    let output = c.args.output.now in
    let n = length c.loop-line.yielded in
    let turn = YieldsList-turn (YieldsList-from_first (λ x. x.now) (λ rest. rest) (lines_of output) cc) c.loop-line.yielded _ c.loop-line.yielded_by _ _ c.in-Some.line c.in-Some.is c.next.ensures.steps in
    subst (λ (m : ℕ). (c.loop-line.start + length c.in-Some.line.now ≡ length (concat (take m (lines_of output)))) × ((k : ℕ) → k < m → ¬ (HasNote output k))) (sym (length_push c.loop-line.yielded c.in-Some.line)) (
      onward output n c.loop-line.start c.in-Some.line.now turn.0 turn.1 c.loop-line.invariant.0,
      none_more output n c.loop-line.start c.in-Some.line.now turn.0 turn.1 c.loop-line.invariant.0 c.loop-line.invariant.1
          (subst (λ l. ¬ (Contains l (codes "note: test did not panic as expected"))) c.line_text-text.ensures
          (subst (λ needle. ¬ (Contains c.line_text-text.result.now needle)) c.requires
          (has_not_found c.line_text-text.result.now c.args.note.now c.find.result c.find.ensures (sym c.is_some.ensures ∙ c.if-is_some.false)))),
    )

pub returns : goal.returns
returns c =
    let output = c.args.output.now in
    let all = YieldsList-end (YieldsList-from_first (λ x. x.now) (λ rest. rest) (lines_of output) cc) c.loop-line.yielded _ c.loop-line.yielded_by _ _ c.in-None.is c.next.ensures.steps in
    λ k below. c.loop-line.invariant.1 k (omega (arith, all.1))
