use Rattle.std.proofs.Common.{◌≡◌, take}
use Rattle.nextest_text.specs.Parts.{lent_texts}
use Rattle.nextest_text.proofs.texts.Texts.to_strs.Given as goal

-- the first ones so far
abbrev pub invariant-loop-index : goal.invariant-loop-index
invariant-loop-index l = lent_texts l.texts.items ≡ take l.index l.self
