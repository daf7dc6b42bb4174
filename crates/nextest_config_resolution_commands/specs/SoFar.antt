-- What a reading of a text comes to.
use Rattle.std.specs.Prelude.{ℕ, List, ◌++◌, Option, option_map, string_bytes}
use Rattle.nextest_config_resolution_commands.specs.Splitting.{words_from}
use Rattle.nextest_config_resolution_commands.specs.declared.words.WordsSoFar.{WordsSoFar}

-- the words of a text, by what was read of it and what is ahead
abbrev pub so_far : WordsSoFar → List ℕ → Option (List (List ℕ))
so_far it ahead = option_map (λ more. it.words ++ more) (words_from ahead it.place (string_bytes it.word))
