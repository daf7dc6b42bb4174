use Rattle.std.proofs.Common.{◌≡◌, ℕ, Bool, List, length}
use Rattle.std.specs.List.{AllZip}
use Rattle.nextest_filtering_filters.specs.Asking.{AreAnswers, IsFor}
use Rattle.nextest_filtering_filters.specs.Query.{Binary}
use Rattle.nextest_filtering_filters.specs.Questions.{at_next, comes_to, outcomes}
use Rattle.nextest_filtering_filters.specs.declared.leaf.FiltersetLeaf.{FiltersetLeaf}
use Rattle.nextest_filtering_filters.proofs.asked.answer.Given as goal

abbrev pub invariant-loop-next : goal.invariant-loop-next
invariant-loop-next l = record {
  stays : (binary : Binary) (leaves : List FiltersetLeaf) → AllZip (IsFor binary) leaves l.initial.asked → AllZip (IsFor binary) leaves l.asked;
  comes : (binary : Binary) (leaves : List FiltersetLeaf) (answer : ℕ → Bool) → AllZip (IsFor binary) leaves l.initial.asked → AreAnswers binary l.name l.default leaves answer
      → at_next (outcomes answer l.list) l.next ≡ comes_to answer l.questions;
}

abbrev pub decreases-loop-next : goal.decreases-loop-next
decreases-loop-next l = length l.list
