-- Where texts stand in one that has all of them.
use Rattle.std.specs.Prelude.{ℕ, List}
use Rattle.nextest_text.specs.Parts.{IsPart, part_of}
use Rattle.nextest_text.specs.declared.texts.Span.{Span}

-- the text that stands there
abbrev pub text_at : List ℕ → Span → List ℕ
text_at whole span = part_of whole span.start span.end

-- a text may stand there
abbrev pub IsSpan : List ℕ → Span → Type 0
IsSpan whole span = IsPart whole span.start span.end
