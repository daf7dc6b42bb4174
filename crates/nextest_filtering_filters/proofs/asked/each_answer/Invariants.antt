use Rattle.std.proofs.Common.{Bool, Bor, List, ℕ, take, false}
use Rattle.std.specs.List.{AllZip}
use Rattle.nextest_filtering_filters.specs.Asking.{IsAnswer, IsFor}
use Rattle.nextest_filtering_filters.specs.Query.{Binary}
use Rattle.nextest_filtering_filters.specs.declared.leaf.FiltersetLeaf.{FiltersetLeaf}
use Rattle.nextest_filtering_filters.proofs.asked.each_answer.Given as goal

abbrev pub invariant-loop-name : goal.invariant-loop-name
invariant-loop-name l = record {
  values : AllZip (λ (name : Bor (List ℕ)) (value : Bool). IsAnswer l.initial.asked l.questions false name.now value) (take l.name-index l.names) l.values.items;
  stays : (binary : Binary) (leaves : List FiltersetLeaf) → AllZip (IsFor binary) leaves l.initial.asked → AllZip (IsFor binary) leaves l.asked;
}
