use Rattle.std.proofs.Common.{Some, sym, subst}
use Rattle.std.specs.List.{AllZip}
use Rattle.std.proofs.lemmas.Result.{IfOk-weaker}
use Rattle.nextest_filtering_filters.specs.Asking.{IsFor, IsLeafValue, PartOf}
use Rattle.nextest_filtering_filters.specs.Filter.{filter_of}
use Rattle.nextest_filtering_filters.specs.Formula.{Gives, IsValue}
use Rattle.nextest_filtering_filters.specs.Query.{binary_of}
use Rattle.nextest_filtering_filters.proofs.ByName.{on_name}
use Rattle.nextest_filtering_filters.proofs.part.Part.on_name.Goals as goal

pub returns-clause-value : goal.returns-clause-value
returns-clause-value c =
    let it = c.self.inside.filter.now in
    let binary = binary_of c.self.inside.binary in
    let name = c.args.name.now in
    let known = c.self.invariant in
    let all = subst (AllZip (IsFor binary) it.leaves) (sym c.as_mut_slice.ensures.value) known.0 in
    IfOk-weaker c.answer.result _ _
    (λ value told. subst (λ (part : PartOf). IsValue (Gives (IsLeafValue part.binary name (λ m. ⊥) c.args.default) (filter_of part.filter)) (Some value)) c.self.view_is
    (on_name it binary name c.args.default c.self.inside.questions value known.1 known.2 (λ answer are. told binary it.leaves answer all are)))
    c.answer.ensures.value
