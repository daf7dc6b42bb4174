use Rattle.std.proofs.Common.{◌≡◌, ◌++◌, ◌+◌, ◌<◌, ◌≤◌, [], Bool, true, false, eqb, length, take, drop, get_or, refl, sym, ◌∙◌, subst}
use Rattle.std.proofs.lemmas.List.{append-nil, take-append-drop}
use Rattle.nextest_filtering_escapes.specs.Text.{is_end}
use Rattle.nextest_filtering_escapes.specs.Ends.{IsUnended}
use Rattle.nextest_filtering_escapes.proofs.Fronts.{text_front, text_found, text_skipped, text_passed, text_all, text_parts, unended_front, text_ended}
use Rattle.nextest_filtering_escapes.proofs.ends.split_text.Goals as goal
use Rattle.nextest_filtering_escapes.proofs.ends.split_text.Goals.{then-escaped, else-escaped+else-is_end}

front_is : (c : goal.After-split_at) → text_front false c.args.input.now ≡ c.split_at.result.0.now
front_is c =
    let same = c.as_bytes-byte-items.ensures.value in
    let i = c.loop-index.index in
    let input = c.args.input.now in
    let small : i < length input = rw same at c.loop-index-test.true in
    let ends : is_end (get_or input i 0) ≡ true = sym (rw same at c.is_end.ensures) ∙ c.if-is_end.true in
    text_found input i (get_or input i 0) c.loop-index.escaped small refl c.if-escaped.false ends c.loop-index.invariant
    ∙ sym c.split_at.ensures.front

pub returns-then-is_end-clause-unended : goal.returns-then-is_end-clause-unended
returns-then-is_end-clause-unended c = subst IsUnended (front_is c) (unended_front false c.args.input.now)

parts_are : (c : goal.After-split_at) → c.args.input.now ≡ c.split_at.result.0.now ++ c.split_at.result.1.now
parts_are c = rw (c.split_at.ensures.front, c.split_at.ensures.back) (sym (take-append-drop c.loop-index.index c.args.input.now))

pub returns-then-is_end-clause-ended : goal.returns-then-is_end-clause-ended
returns-then-is_end-clause-ended c = text_ended c.args.input.now c.split_at.result.0.now c.split_at.result.1.now (front_is c) (parts_are c)

pub returns-then-is_end-clause-only : goal.returns-then-is_end-clause-only
returns-then-is_end-clause-only c = λ raw text rest has stops whole.
    let input = c.args.input.now in
    text_parts input c.split_at.result.0.now c.split_at.result.1.now raw text rest (parts_are c) (front_is c) has stops whole

pub loop-index-preserved : goal.loop-index-preserved
loop-index-preserved c =
    let same = c.as_bytes-byte-items.ensures.value in
    let i = c.loop-index.index in
    let input = c.args.input.now in
    let small : i < length input = rw same at c.loop-index-test.true in
    let P = λ (b : Bool). text_front false input ≡ take (i + 1) input ++ text_front b (drop (i + 1) input) in
    elim c.if-escaped.branch [
      | then-escaped w ↦ subst P (sym w.escaped-is) (text_skipped input i (get_or input i 0) c.loop-index.escaped small refl w.if-escaped.true c.loop-index.invariant)
      | else-escaped+else-is_end w ↦
          let other : is_end (get_or input i 0) ≡ false = sym (rw same at w.is_end.ensures) ∙ w.if-is_end.false in
          let next : c.if-escaped.escaped ≡ eqb (get_or input i 0) 92 = rw same at w.escaped-is in
          subst P (sym next) (text_passed input i (get_or input i 0) c.loop-index.escaped small refl w.if-escaped.false other c.loop-index.invariant)
    ]

all_is : (c : goal.After-t16-1) → text_front false c.args.input.now ≡ c.args.input.now
all_is c =
    let same = c.as_bytes-byte-items.ensures.value in
    let long : length c.args.input.now ≤ c.loop-index.index = rw same at c.loop-index-test.false in
    text_all c.args.input.now c.loop-index.index c.loop-index.escaped long c.loop-index.invariant

pub returns-clause-unended : goal.returns-clause-unended
returns-clause-unended c = subst IsUnended (all_is c) (unended_front false c.args.input.now)

pub returns-clause-only : goal.returns-clause-only
returns-clause-only c = λ raw text rest has stops whole.
    text_parts c.args.input.now c.args.input.now [] raw text rest (sym (append-nil c.args.input.now)) (all_is c) has stops whole
