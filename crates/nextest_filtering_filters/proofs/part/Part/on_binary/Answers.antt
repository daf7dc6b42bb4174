use Rattle.std.proofs.Common.{sym, subst}
use Rattle.std.specs.List.{AllZip}
use Rattle.std.proofs.lemmas.Result.{IfOk-weaker}
use Rattle.nextest_filtering_filters.specs.Formula.{Gives, IsValue}
use Rattle.nextest_filtering_filters.specs.Asking.{IsFor, PartOf, values_may}
use Rattle.nextest_filtering_filters.specs.Filter.{filter_of}
use Rattle.nextest_filtering_filters.specs.Meaning.{Either, MayBe}
use Rattle.nextest_filtering_filters.specs.Query.{binary_of}
use Rattle.nextest_filtering_filters.proofs.Parts.{on_binary, some_on_binary}
use Rattle.nextest_filtering_filters.proofs.part.Part.on_binary.Goals as goal

pub value-requires : goal.value-requires
value-requires c =
    let it = c.self.inside.filter.now in
    let binary = binary_of c.self.inside.binary in
    let all = c.in_ok-values_on_binary.ensures binary it.leaves (subst (AllZip (IsFor binary) it.leaves) (sym c.as_slice.ensures.value) c.self.invariant.0) in
    record { some = some_on_binary binary c.args.default it.leaves c.values_on_binary.new.values.items c.as_slice-2.result.now all c.as_slice-2.ensures.value }

pub returns-clause-value : goal.returns-clause-value
returns-clause-value c =
    let it = c.self.inside.filter.now in
    let binary = binary_of c.self.inside.binary in
    let all = c.in_ok-values_on_binary.ensures binary it.leaves (subst (AllZip (IsFor binary) it.leaves) (sym c.as_slice.ensures.value) c.self.invariant.0) in
    IfOk-weaker c.value.result _ _
    (λ value is. subst (λ (part : PartOf). IsValue (Gives (MayBe part.binary Either Either (values_may c.args.default)) (filter_of part.filter)) value) c.self.view_is
    (on_binary it binary c.args.default c.values_on_binary.new.values.items c.as_slice-2.result.now c.formula.result.now all c.as_slice-2.ensures.value c.formula.ensures value is))
    c.value.ensures
