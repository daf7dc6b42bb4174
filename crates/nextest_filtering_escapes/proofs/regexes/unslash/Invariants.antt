use Rattle.std.proofs.Common.{◌≡◌, ◌++◌, ℕ, List, length}
use Rattle.std.specs.Prelude.{string_bytes, IsUtf8}
use Rattle.nextest_filtering_escapes.specs.Printing.{regex_text_of}
use Rattle.nextest_filtering_escapes.proofs.regexes.unslash.Given as goal

abbrev pub decreases-loop-before : goal.decreases-loop-before
decreases-loop-before l = length l.rest

abbrev pub invariant-loop-before : goal.invariant-loop-before
invariant-loop-before l = ((whole : List ℕ) → l.raw ≡ regex_text_of whole
    → (more : List ℕ) × (l.rest ≡ regex_text_of more) × (whole ≡ string_bytes l.text ++ more)) × IsUtf8 l.rest
