use Rattle.std.proofs.Common.{◌≡◌, ◌<◌, ◌+◌, ◌++◌, ◌∷◌, [], length, get_or, map, min, ◌≤◌, drop, append_assoc, ap, sym, ◌∙◌, subst, arith}
use Rattle.std.specs.Arc.{arc_str_bytes}
use Rattle.std.specs.List.{All, items_where_true}
use Rattle.std.proofs.lemmas.List.{length-map, map-append, append-nil, get_or-map}
use Rattle.std.proofs.lemmas.List.Elements.{All-append, All-cons, All-nil, All-get_or}
use Rattle.nextest_text.specs.Spans.{text_at, IsSpan}
use Rattle.nextest_text.proofs.Filtered.{one_taken, one_left, all_looked_at}
use Rattle.nextest_text.proofs.texts.Texts.filtered.Goals as goal

pub loop-index-preserved-then-not-keep-index : goal.loop-index-preserved-then-not-keep-index
loop-index-preserved-then-not-keep-index c =
    let there : c.loop-index.index < length c.args.keep.now = omega (arith, c.loop-index-test.true, c.min-index-end.ensures) in
    let within : c.loop-index.index < length c.args.self.now = omega (arith, c.loop-index-test.true, c.min-index-end.ensures, c.self.inside.spans.ok.0, ap length c.self.view_is, length-map c.self.inside.spans.items (text_at (arc_str_bytes c.self.inside.whole))) in
    (c.loop-index.invariant.0, ap (λ rest. map (text_at (arc_str_bytes c.self.inside.whole)) c.loop-index.spans.items ++ rest) (sym (one_left c.args.keep.now c.args.self.now c.loop-index.index [] there within c.if-not-keep-index.true)) ∙ c.loop-index.invariant.1)

pub loop-index-preserved : goal.loop-index-preserved
loop-index-preserved c =
    let whole = arc_str_bytes c.self.inside.whole in
    let span = c.index.result.now in
    let there : c.loop-index.index < length c.args.keep.now = omega (arith, c.loop-index-test.true, c.min-index-end.ensures) in
    let inside : c.loop-index.index < length c.self.inside.spans.items = omega (arith, c.loop-index-test.true, c.min-index-end.ensures, c.self.inside.spans.ok.0) in
    let within : c.loop-index.index < length c.args.self.now = omega (arith, inside, ap length c.self.view_is, length-map c.self.inside.spans.items (text_at whole)) in
    let read : IsSpan whole span = subst (IsSpan whole) (sym c.index.ensures) (All-get_or (IsSpan whole) c.self.inside.spans.items c.loop-index.index span inside c.self.invariant) in
    let text : get_or c.args.self.now c.loop-index.index [] ≡ text_at whole span =
    sym (ap (λ texts. get_or texts c.loop-index.index []) c.self.view_is)
    ∙ get_or-map (text_at whole) c.self.inside.spans.items c.loop-index.index span [] inside ∙ ap (text_at whole) (sym c.index.ensures) in
    let left = items_where_true (drop (c.loop-index.index + 1) c.args.keep.now) (drop (c.loop-index.index + 1) c.args.self.now) in (
      subst (All (IsSpan whole)) (sym c.in_ok-push.ensures.items) (All-append (IsSpan whole) c.loop-index.spans.items (span ∷ []) c.loop-index.invariant.0 (All-cons (IsSpan whole) span [] read (All-nil (IsSpan whole)))),
      ap (λ spans. map (text_at whole) spans ++ left) c.in_ok-push.ensures.items
          ∙ ap (λ texts. texts ++ left) (map-append (text_at whole) c.loop-index.spans.items (span ∷ []))
          ∙ append_assoc (map (text_at whole) c.loop-index.spans.items) _ left
          ∙ ap (λ texts. map (text_at whole) c.loop-index.spans.items ++ texts ∷ left) (sym text)
          ∙ ap (λ rest. map (text_at whole) c.loop-index.spans.items ++ rest) (sym (one_taken c.args.keep.now c.args.self.now c.loop-index.index [] there within c.if-not-keep-index.false))
          ∙ c.loop-index.invariant.1,
    )

pub returns : goal.returns
returns c =
    let whole = arc_str_bytes c.self.inside.whole in
    let past : min (length c.args.self.now) (length c.args.keep.now) ≤ c.loop-index.index =
    omega (arith, c.loop-index-test.false, c.min-index-end.ensures, c.self.inside.spans.ok.0, ap length c.self.view_is, length-map c.self.inside.spans.items (text_at whole)) in
    ap (λ it. map (text_at it) c.loop-index.spans.items) c.in_ok-clone.ensures.cases
    ∙ sym (append-nil (map (text_at whole) c.loop-index.spans.items))
    ∙ ap (λ rest. map (text_at whole) c.loop-index.spans.items ++ rest) (sym (all_looked_at c.args.keep.now c.args.self.now c.loop-index.index past))
    ∙ c.loop-index.invariant.1
