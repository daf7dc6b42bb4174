use Rattle.std.proofs.Common.{◌≡◌, ◌++◌, false, take, drop}
use Rattle.nextest_filtering_escapes.proofs.Slashes.{regex_front}
use Rattle.nextest_filtering_escapes.proofs.ends.split_regex.Given as goal

abbrev pub invariant-loop-index : goal.invariant-loop-index
invariant-loop-index l = regex_front false l.input ≡ take l.index l.input ++ regex_front l.backslash (drop l.index l.input)
