use Rattle.std.proofs.Common.{◌≡◌, ◌++◌, drop, string_bytes}
use Rattle.std.specs.List.{concat}
use Rattle.nextest_text.specs.Parts.{lent_texts}
use Rattle.nextest_text.proofs.texts.joined.Given as goal

-- what is joined so far, and the texts that are left behind it, are all of them
abbrev pub invariant-loop-text : goal.invariant-loop-text
invariant-loop-text l = string_bytes l.whole ++ concat (drop l.text-index (lent_texts l.texts)) ≡ concat (lent_texts l.texts)
