use Rattle.std.proofs.Common.{◌≡◌, take}
use Rattle.nextest_filtering_globs.proofs.places.read_each.Given as goal

abbrev pub invariant-loop-c : goal.invariant-loop-c
invariant-loop-c g l = l.characters.items ≡ g.C.Character.codes (take l.c-index l.text)
