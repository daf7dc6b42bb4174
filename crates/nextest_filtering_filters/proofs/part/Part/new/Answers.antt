use Rattle.std.proofs.Common.{List, true, refl, sym, subst}
use Rattle.std.specs.List.{All, AllZip}
use Rattle.nextest_filtering_filters.specs.Asking.{IsFor}
use Rattle.nextest_filtering_filters.specs.Deciding.{HasReadable}
use Rattle.nextest_filtering_filters.specs.Query.{binary_of}
use Rattle.nextest_filtering_filters.specs.declared.leaf.FiltersetLeaf.{FiltersetLeaf}
use Rattle.nextest_filtering_filters.proofs.ByName.{for_all}
use Rattle.nextest_filtering_filters.proofs.Parts.{some_on_binary}
use Rattle.nextest_filtering_filters.proofs.part.Part.new.Goals as goal

pub questions-requires : goal.questions-requires
questions-requires c =
    let binary = binary_of c.args.binary in
    let leaves = c.args.filter.now.leaves in
    let asked = subst (λ (l : List FiltersetLeaf). AllZip (IsFor binary) l c.in_ok-asked.asked.items) c.leaves-2.ensures c.in_ok-asked.ensures in
    let all = c.in_ok-values_on_binary.ensures binary leaves (subst (AllZip (IsFor binary) leaves) (sym c.as_slice.ensures.value) asked) in
    record { some = some_on_binary binary (record { may_hold = true; may_fail = true }) leaves c.values_on_binary.new.values.items c.as_slice-2.result.now all c.as_slice-2.ensures.value }

pub invariant_of-result : goal.invariant_of-result
invariant_of-result c =
    let binary = binary_of c.args.binary in
    let it = c.args.filter.now in
    let asked = subst (λ (l : List FiltersetLeaf). AllZip (IsFor binary) l c.in_ok-asked.asked.items) c.leaves-2.ensures c.in_ok-asked.ensures in
    let all = c.in_ok-values_on_binary.ensures binary it.leaves (subst (AllZip (IsFor binary) it.leaves) (sym c.as_slice.ensures.value) asked) in (
      asked,
      subst (All HasReadable) c.leaves.ensures c.see_leaves.ensures,
      for_all it binary (record { may_hold = true; may_fail = true }) c.values_on_binary.new.values.items c.as_slice-2.result.now c.formula.result.now c.in_ok-questions.questions refl all c.as_slice-2.ensures.value
          c.formula.ensures c.in_ok-questions.ensures,
    )
