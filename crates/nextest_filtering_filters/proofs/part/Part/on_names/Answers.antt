use Rattle.std.proofs.Common.{Bool, Bor, List, ℕ, Some, false, sym, subst}
use Rattle.std.specs.List.{AllZip}
use Rattle.std.proofs.lemmas.Result.{IfOk-weaker}
use Rattle.nextest_filtering_filters.specs.Asking.{IsAnswer, IsFor, IsLeafValue, PartOf}
use Rattle.nextest_filtering_filters.specs.Filter.{filter_of}
use Rattle.nextest_filtering_filters.specs.Formula.{Gives, IsValue}
use Rattle.nextest_filtering_filters.specs.Query.{binary_of}
use Rattle.nextest_filtering_filters.proofs.ByName.{on_name}
use Rattle.nextest_filtering_filters.proofs.Lists.{zip_same, zip_weaker}
use Rattle.nextest_filtering_filters.proofs.part.Part.on_names.Goals as goal

pub returns-in-Some-clause-values : goal.returns-in-Some-clause-values
returns-in-Some-clause-values c =
    let it = c.args.self.now in
    IfOk-weaker c.vec.result _ _
    (λ values same. zip_same (λ (name : Bor (List ℕ)) (value : Bool). IsValue (Gives (IsLeafValue it.binary name.now (λ m. ⊥) false) (filter_of it.filter)) (Some value)) c.args.names.now values.items c.in-Some.value (same (λ other is. is))
    (λ name. c.in-Some.ensures name.now false))
    c.vec.ensures.items_if_clones_equal

pub returns-clause-values : goal.returns-clause-values
returns-clause-values c =
    let it = c.self.inside.filter.now in
    let binary = binary_of c.self.inside.binary in
    let questions = c.self.inside.questions in
    let known = c.self.invariant in
    let all = subst (AllZip (IsFor binary) it.leaves) (sym c.as_mut_slice.ensures.value) known.0 in
    IfOk-weaker c.answers.result _ _
    (λ values are. subst
    (λ (part : PartOf). AllZip (λ (name : Bor (List ℕ)) (value : Bool). IsValue (Gives (IsLeafValue part.binary name.now (λ m. ⊥) false) (filter_of part.filter)) (Some value)) c.args.names.now values.items) c.self.view_is
    (zip_weaker (λ (name : Bor (List ℕ)) (value : Bool). IsAnswer c.as_mut_slice.result.now questions false name.now value)
    (λ (name : Bor (List ℕ)) (value : Bool). IsValue (Gives (IsLeafValue binary name.now (λ m. ⊥) false) (filter_of it)) (Some value))
    (λ name value told. on_name it binary name.now false questions value known.1 known.2 (λ answer are. told binary it.leaves answer all are))
    c.args.names.now values.items are))
    c.answers.ensures.values
