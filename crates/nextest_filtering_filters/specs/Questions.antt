-- Formulas that are asked question by question: what they come to.
use Rattle.std.specs.Prelude.{ℕ, Bool, false, not, ◌&&◌, ◌||◌, List, [], ◌∷◌, ◌++◌, slice_index_or, if◌then◌else◌}
use Rattle.nextest_filtering_filters.specs.Formula.{Formula, leaf, negated, either, both}
use Rattle.nextest_filtering_filters.specs.declared.questions.Decision.{Decision}
use Rattle.nextest_filtering_filters.specs.declared.questions.Exits.{Exits}
use Rattle.nextest_filtering_filters.specs.declared.questions.Next.{Next}
use Rattle.nextest_filtering_filters.specs.declared.questions.Next.TheVariants as to
use Rattle.nextest_filtering_filters.specs.declared.questions.Question.{Question}
use Rattle.nextest_filtering_filters.specs.declared.questions.Questions.{Questions}

-- what a formula is where its leaves are this
abbrev pub holds_by : (ℕ → Bool) → Formula ℕ → Bool
holds_by answer (leaf number) = answer number
holds_by answer (negated inside) = not (holds_by answer inside)
holds_by answer (either left right) = holds_by answer left || holds_by answer right
holds_by answer (both left right) = holds_by answer left && holds_by answer right

-- what an answer leads to comes to this, where the questions come to these
abbrev pub at_next : List Bool → Next → Bool
at_next outcomes (to.Value value) = value
at_next outcomes (to.Question place) = slice_index_or outcomes place false

-- the exit for what is so, or isn't, and what it comes to
abbrev pub exit_of : Exits → Bool → Next
exit_of exits holds = if holds then exits.if_true else exits.if_false

abbrev pub at_exits : List Bool → Exits → Bool → Bool
at_exits outcomes exits holds = at_next outcomes (exit_of exits holds)

-- what questions come to, each by those before it, behind others
abbrev pub outcomes_behind : (ℕ → Bool) → List Bool → List Question → List Bool
outcomes_behind answer before [] = before
outcomes_behind answer before (it ∷ more) = outcomes_behind answer (before ++ at_exits before it.exits (answer it.leaf) ∷ []) more

abbrev pub outcomes : (ℕ → Bool) → List Question → List Bool
outcomes answer list = outcomes_behind answer [] list

abbrev pub comes_to : (ℕ → Bool) → Questions → Bool
comes_to answer it = at_next (outcomes answer it.list.items) it.first

-- what the answer to a question that decides leaves
abbrev pub decided : Decision → Bool → Bool
decided it holds = if holds then it.if_true else it.if_false
