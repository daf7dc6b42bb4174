use Rattle.std.proofs.Common.{◌≡◌, ◌++◌, drop, map}
use Rattle.std.specs.Arc.{arc_str_bytes}
use Rattle.std.specs.List.{All, items_where_true}
use Rattle.nextest_text.specs.Spans.{text_at, IsSpan}
use Rattle.nextest_text.proofs.texts.Texts.filtered.Given as goal

-- what is taken so far, and what is taken of those that are left, is taken of all
abbrev pub invariant-loop-index : goal.invariant-loop-index
invariant-loop-index l = All (IsSpan (arc_str_bytes l.self-inside.whole)) l.spans.items
    × (map (text_at (arc_str_bytes l.self-inside.whole)) l.spans.items ++ items_where_true (drop l.index l.keep) (drop l.index l.self) ≡ items_where_true l.keep l.self)
