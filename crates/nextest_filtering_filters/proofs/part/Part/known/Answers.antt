use Rattle.std.proofs.Common.{Some, ap, sym, subst}
use Rattle.nextest_filtering_filters.specs.Asking.{IsLeafValue, PartOf}
use Rattle.nextest_filtering_filters.specs.Filter.{filter_of}
use Rattle.nextest_filtering_filters.specs.Formula.{Gives, IsValue}
use Rattle.nextest_filtering_filters.specs.Query.{binary_of}
use Rattle.nextest_filtering_filters.specs.Questions.{at_next, outcomes}
use Rattle.nextest_filtering_filters.proofs.ByName.{on_name}
use Rattle.nextest_filtering_filters.proofs.part.Part.known.Goals as goal

pub returns-in-Value : goal.returns-in-Value
returns-in-Value c =
    let it = c.self.inside.filter.now in
    let binary = binary_of c.self.inside.binary in
    let questions = c.self.inside.questions in
    let known = c.self.invariant in
    λ name default. subst (λ (part : PartOf). IsValue (Gives (IsLeafValue part.binary name (λ m. ⊥) default) (filter_of part.filter)) (Some c.in-Value.value)) c.self.view_is
    (on_name it binary name default questions c.in-Value.value known.1 known.2 (λ answer are. sym (ap (at_next (outcomes answer questions.list.items)) c.in-Value.is)))
