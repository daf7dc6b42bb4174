use Rattle.std.proofs.Common.{◌≡◌, Bool, Option, false, Some, sym, subst}
use Rattle.std.specs.List.{list_any}
use Rattle.std.specs.Prelude.{IfSome}
use Rattle.std.proofs.lemmas.Result.{IfOk-weaker}
use Rattle.nextest_filtering_ast.specs.Meaning.{MatchesName}
use Rattle.nextest_filtering_ast.specs.Tree.{Matcher}
use Rattle.nextest_filtering_filters.specs.Asking.{PartOf}
use Rattle.nextest_filtering_filters.specs.Filter.{filter_of, is_default}
use Rattle.nextest_filtering_filters.specs.Formula.{Gives, IsValue}
use Rattle.nextest_filtering_filters.specs.Meaning.{MayBe, Never, Tells}
use Rattle.nextest_filtering_filters.proofs.Parts.{without_default}
use Rattle.nextest_filtering_filters.proofs.evaluator.default_on_name.Goals as goal

pub returns-in-Some-clause-value : goal.returns-in-Some-clause-value
returns-in-Some-clause-value c =
    let part = c.in-Some.part in
    let name = c.args.name.now in
    let Name : Matcher → Bool → Type 0 = λ m. Tells (MatchesName m name) in
    let Group : Matcher → Bool → Type 0 = λ m. Tells ⊥ in
    let none = subst (λ (o : Option PartOf). IfSome o (λ it. list_any is_default it.filter.leaves ≡ false)) c.in-Some.is c.requires.none in
    IfOk-weaker c.on_name.result _ _
    (λ value is. subst (λ (o : Option PartOf). IfSome o (λ it. IsValue (Gives (MayBe it.binary Name Group Never) (filter_of it.filter)) (Some value))) (sym c.in-Some.is)
    (without_default part.filter part.binary Name Group (λ other. other ≡ false) Never none (Some value) is))
    c.on_name.ensures.value
