use Rattle.std.proofs.Common.{◌≡◌, ◌++◌, false, take, drop}
use Rattle.nextest_filtering_escapes.proofs.Fronts.{text_front}
use Rattle.nextest_filtering_escapes.proofs.ends.split_text.Given as goal

abbrev pub invariant-loop-index : goal.invariant-loop-index
invariant-loop-index l = text_front false l.input ≡ take l.index l.input ++ text_front l.escaped (drop l.index l.input)
