-- What holds of all outcomes.
use Rattle.std.specs.Prelude.{◌≡◌, List, IsPermutation}
use Rattle.nextest_run_events_outcomes.specs.Outcome.{higher_of, IsHighest}
use Rattle.nextest_run_events_outcomes.specs.declared.outcome.RunOutcome.{RunOutcome}
use Rattle.nextest_run_events_outcomes.specs.declared.outcome.RunOutcome.TheVariants.{NoTestsRun}

abbrev pub IsCommutative : Type 0
IsCommutative = (a b : RunOutcome) → higher_of a b ≡ higher_of b a

abbrev pub IsAssociative : Type 0
IsAssociative = (a b c : RunOutcome) → higher_of (higher_of a b) c ≡ higher_of a (higher_of b c)

abbrev pub IsIdempotent : Type 0
IsIdempotent = (a : RunOutcome) → higher_of a a ≡ a

-- `NoTestsRun` changes nothing, on either side
abbrev pub IsNeutral : Type 0
IsNeutral = (a : RunOutcome) → (higher_of NoTestsRun a ≡ a) × (higher_of a NoTestsRun ≡ a)

-- of the same outcomes one is the highest
abbrev pub OneHighest : Type 0
OneHighest = (outcomes : List RunOutcome) (a b : RunOutcome) → IsHighest outcomes a → IsHighest outcomes b → a ≡ b

-- the highest is the same in any order
abbrev pub InAnyOrder : Type 0
InAnyOrder = (outcomes others : List RunOutcome) (it : RunOutcome) → IsPermutation outcomes others → IsHighest outcomes it → IsHighest others it
