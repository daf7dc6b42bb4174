use Rattle.std.proofs.Common.{◌+◌, ◌++◌, ◌∷◌, [], map, drop, append_assoc, ap, sym, ◌∙◌, subst}
use Rattle.std.specs.Arc.{arc_str_bytes}
use Rattle.std.specs.List.{All, concat}
use Rattle.std.proofs.lemmas.List.{map-append}
use Rattle.std.proofs.lemmas.List.Elements.{All-append, All-cons, All-nil}
use Rattle.std.proofs.lemmas.Str.{IsCharBoundary-start, IsUtf8-string_bytes}
use Rattle.nextest_text.specs.Parts.{IsLeft, lent_texts}
use Rattle.nextest_text.specs.Spans.{text_at, IsSpan}
use Rattle.nextest_text.proofs.Cut.{text_here}
use Rattle.nextest_text.proofs.texts.Texts.from_strs.Goals as goal

pub loop-text-init : goal.loop-text-init
loop-text-init c =
    let whole = arc_str_bytes c.in_ok-whole.whole in (
      record { cut = IsCharBoundary-start _ (IsUtf8-string_bytes c.in_ok-whole.whole.text.value); behind = c.in_ok-whole.ensures.ok ∙ c.in_ok-joined.ensures },
      subst (All (IsSpan whole)) (sym c.in_ok-spans.ensures.items) (All-nil (IsSpan whole)),
      ap (λ spans. map (text_at whole) spans ++ lent_texts c.args.texts.now) c.in_ok-spans.ensures.items,
    )

pub next_span-span-requires : goal.next_span-span-requires
next_span-span-requires c = (
  concat (drop (c.loop-text.text-index + 1) (lent_texts c.args.texts.now)),
  subst (IsLeft (arc_str_bytes c.in_ok-whole.whole) c.loop-text.start) (ap concat (text_here c.args.texts.now c.loop-text.text-index (record { ref_ptr = (0, 0); now = [] }) c.loop-text-test.true)) c.loop-text.invariant.0,
)

pub loop-text-preserved : goal.loop-text-preserved
loop-text-preserved c =
    let whole = arc_str_bytes c.in_ok-whole.whole in
    let span = c.next_span-span.result in
    let left = drop (c.loop-text.text-index + 1) (lent_texts c.args.texts.now) in
    let here = text_here c.args.texts.now c.loop-text.text-index (record { ref_ptr = (0, 0); now = [] }) c.loop-text-test.true in (
      c.next_span-span.ensures.left _ (subst (IsLeft whole c.loop-text.start) (ap concat here) c.loop-text.invariant.0),
      subst (All (IsSpan whole)) (sym c.in_ok-push.ensures.items) (All-append (IsSpan whole) c.loop-text.spans.items (span ∷ []) c.loop-text.invariant.1 (All-cons (IsSpan whole) span [] c.next_span-span.ensures.inside (All-nil (IsSpan whole)))),
      ap (λ spans. map (text_at whole) spans ++ left) c.in_ok-push.ensures.items
          ∙ ap (λ texts. texts ++ left) (map-append (text_at whole) c.loop-text.spans.items (span ∷ []))
          ∙ append_assoc (map (text_at whole) c.loop-text.spans.items) _ left
          ∙ ap (λ text. map (text_at whole) c.loop-text.spans.items ++ text ∷ left) c.next_span-span.ensures.text
          ∙ ap (λ texts. map (text_at whole) c.loop-text.spans.items ++ texts) (sym here)
          ∙ c.loop-text.invariant.2,
    )
