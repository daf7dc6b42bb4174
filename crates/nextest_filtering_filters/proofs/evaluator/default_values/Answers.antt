use Rattle.std.proofs.Common.{◌≡◌, Option, false, sym, subst}
use Rattle.std.specs.List.{list_any}
use Rattle.std.specs.Prelude.{IfSome}
use Rattle.nextest_filtering_filters.specs.Formula.{AreValues, Gives}
use Rattle.nextest_filtering_filters.specs.Values.{nowhere}
use Rattle.nextest_filtering_filters.specs.Asking.{PartOf, values_may}
use Rattle.nextest_filtering_filters.specs.Filter.{filter_of, is_default}
use Rattle.nextest_filtering_filters.specs.Meaning.{Either, MayBe, Never}
use Rattle.nextest_filtering_filters.proofs.Parts.{left_exact, without_default}
use Rattle.nextest_filtering_filters.proofs.evaluator.default_values.Goals as goal

pub returns-in_ok-on_binary-in-Some-clause-values : goal.returns-in_ok-on_binary-in-Some-clause-values
returns-in_ok-on_binary-in-Some-clause-values c =
    let part = c.in-Some.part in
    let Can = Gives (MayBe part.binary Either Either Never) (filter_of part.filter) in
    let none = subst (λ (o : Option PartOf). IfSome o (λ it. list_any is_default it.filter.leaves ≡ false)) c.in-Some.is c.requires.none in
    let value = c.in_ok-on_binary-in-Some in
    subst (λ (o : Option PartOf). IfSome o (λ it. AreValues (Gives (MayBe it.binary Either Either Never) (filter_of it.filter)) c.values_of.result)) (sym c.in-Some.is)
    (subst (AreValues Can) (sym c.values_of.ensures)
    (left_exact Can value.field-0 (without_default part.filter part.binary Either Either (values_may nowhere) Never none value.field-0 value.ensures.value)))
