-- How a formula is made into questions, its steps from the last one to the first.
use Rattle.std.specs.Prelude.{◌≡◌, ◌<◌, ℕ, Bool, List, [], ◌∷◌, ◌++◌, Option, None, Some, ⊤, if◌then◌else◌}
use Rattle.nextest_filtering_filters.specs.Formula.{Formula}
use Rattle.nextest_filtering_filters.specs.Questions.{at_exits, at_next, holds_by}
use Rattle.nextest_filtering_filters.specs.declared.questions.Exits.{Exits}
use Rattle.nextest_filtering_filters.specs.declared.questions.Next.{Next}
use Rattle.nextest_filtering_filters.specs.declared.questions.Next.TheVariants as to
use Rattle.nextest_filtering_filters.specs.declared.questions.Pending.{Pending}
use Rattle.nextest_filtering_filters.specs.declared.questions.Pending.TheVariants as pending
use Rattle.nextest_filtering_filters.specs.declared.questions.Question.{Question}

-- the exits of what is pending, where this was made last
abbrev pub exits_of : Next → Option Pending → Exits
exits_of last (Some (pending.Exits exits)) = exits
exits_of last (Some (pending.Both if_false)) = record { if_true = last; if_false = if_false }
exits_of last (Some (pending.Either if_true)) = record { if_true = if_true; if_false = last }
exits_of last None = record { if_true = last; if_false = last }

-- what is pending comes to, where what was made last comes to this
abbrev pub at_pending : List Bool → Bool → Pending → Bool → Bool
at_pending outcomes last (pending.Exits exits) holds = at_exits outcomes exits holds
at_pending outcomes last (pending.Both if_false) holds = if holds then last else at_next outcomes if_false
at_pending outcomes last (pending.Either if_true) holds = if holds then at_next outcomes if_true else last

-- what formulas that are still to be asked come to, the last one first
abbrev pub reach : (ℕ → Bool) → List Bool → List Pending → Bool → List (Formula ℕ) → Bool
reach answer outcomes [] last formulas = last
reach answer outcomes (it ∷ pending) last [] = last
reach answer outcomes (it ∷ pending) last (next ∷ formulas) = reach answer outcomes pending (at_pending outcomes last it (holds_by answer next)) formulas

-- it leads to one of so many questions, or to none
abbrev pub IsWithin : ℕ → Next → Type 0
IsWithin count (to.Value value) = ⊤
IsWithin count (to.Question place) = place < count

abbrev pub AreWithin : ℕ → Exits → Type 0
AreWithin count exits = IsWithin count exits.if_true × IsWithin count exits.if_false

abbrev pub IsPendingWithin : ℕ → Pending → Type 0
IsPendingWithin count (pending.Exits exits) = AreWithin count exits
IsPendingWithin count (pending.Both if_false) = IsWithin count if_false
IsPendingWithin count (pending.Either if_true) = IsWithin count if_true

-- the same questions, and perhaps more behind them
abbrev pub Keeps : List Question → List Question → Type 0
Keeps before after = (more : List Question) × (after ≡ before ++ more)
