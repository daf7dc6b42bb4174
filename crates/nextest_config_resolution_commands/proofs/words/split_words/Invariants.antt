use Rattle.std.proofs.Common.{◌≡◌}
use Rattle.nextest_config_resolution_commands.specs.SoFar.{so_far}
use Rattle.nextest_config_resolution_commands.specs.Splitting.{words_of}
use Rattle.nextest_config_resolution_commands.proofs.words.split_words.Given as goal

-- the words of all are those of what was read and what is ahead
abbrev pub invariant-loop-character : goal.invariant-loop-character
invariant-loop-character l = words_of l.text ≡ so_far l.so_far l.character-iterator.rest.now
