use Rattle.std.proofs.Common.{◌≡◌, Bool, Bor, List, ℕ, take}
use Rattle.std.specs.List.{AllZip}
use Rattle.nextest_filtering_ast.specs.Meaning.{Compares}
use Rattle.nextest_filtering_ast.specs.Tree.{contains}
use Rattle.nextest_filtering_filters.specs.Meaning.{Tells}
use Rattle.nextest_filtering_filters.specs.Questions.{decided}
use Rattle.nextest_filtering_filters.proofs.asked.contained_answers.Given as goal

abbrev pub invariant-loop-name : goal.invariant-loop-name
invariant-loop-name l =
    AllZip (λ (name : Bor (List ℕ)) (value : Bool). (answer : Bool) → Tells (Compares contains l.text name.now) answer → value ≡ decided l.decision answer)
    (take l.name-index l.names) l.values.items
