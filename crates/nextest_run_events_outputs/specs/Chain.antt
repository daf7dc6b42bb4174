-- The causes of an error, each an error with the causes behind it.
use Rattle.std.specs.Prelude.{ℕ, List, [], ◌∷◌, Option, slice_get}
use Rattle.nextest_run_events_outputs.specs.declared.serializable_error.ErrorChain.{ErrorChain}

-- of what causes say, each with those behind it
abbrev pub chains_of : List (List ℕ) → List ErrorChain
chains_of [] = []
chains_of (message ∷ causes) = record { message = message; causes = causes } ∷ chains_of causes

-- the nearest first
abbrev pub sources_of : ErrorChain → List ErrorChain
sources_of chain = chains_of chain.causes

-- the nearest, if there is one
abbrev pub nearest_source : ErrorChain → Option ErrorChain
nearest_source chain = slice_get (sources_of chain) 0
