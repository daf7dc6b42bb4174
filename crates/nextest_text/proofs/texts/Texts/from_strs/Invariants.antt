use Rattle.std.proofs.Common.{◌≡◌, ◌++◌, drop, map}
use Rattle.std.specs.Arc.{arc_str_bytes}
use Rattle.std.specs.List.{All, concat}
use Rattle.nextest_text.specs.Parts.{IsLeft, lent_texts}
use Rattle.nextest_text.specs.Spans.{text_at, IsSpan}
use Rattle.nextest_text.proofs.texts.Texts.from_strs.Given as goal

-- the texts so far are the first ones, and those that are left stand from here on
abbrev pub invariant-loop-text : goal.invariant-loop-text
invariant-loop-text l = IsLeft (arc_str_bytes l.whole) l.start (concat (drop l.text-index (lent_texts l.texts)))
    × All (IsSpan (arc_str_bytes l.whole)) l.spans.items
    × (map (text_at (arc_str_bytes l.whole)) l.spans.items ++ drop l.text-index (lent_texts l.texts) ≡ lent_texts l.texts)
