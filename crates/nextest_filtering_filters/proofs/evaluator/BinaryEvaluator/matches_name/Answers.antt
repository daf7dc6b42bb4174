use Rattle.std.proofs.Common.{Bool, Some, subst}
use Rattle.std.proofs.lemmas.Result.{IfOk-weaker}
use Rattle.nextest_filtering_filters.specs.Formula.{Gives, IsValue}
use Rattle.nextest_filtering_ast.specs.Meaning.{MatchesName}
use Rattle.nextest_filtering_ast.specs.Tree.{Matcher}
use Rattle.nextest_filtering_filters.specs.Asking.{Asking, IsLeafValue}
use Rattle.nextest_filtering_filters.specs.Filter.{Compiled, filter_of}
use Rattle.nextest_filtering_filters.specs.Meaning.{IsOn, MayBe, Never, Tells}
use Rattle.nextest_filtering_filters.specs.Query.{Binary, Test, binary_of}
use Rattle.nextest_filtering_filters.proofs.Parts.{is_on, kept_asks_not, kept_of}
use Rattle.nextest_filtering_filters.proofs.evaluator.BinaryEvaluator.matches_name.Goals as goal

pub default_on_name-requires : goal.default_on_name-requires
default_on_name-requires c =
    let known = c.self.invariant in
    record { none = kept_asks_not c.self.inside.main.filter c.self.inside.default_filter.now (binary_of c.self.inside.binary) c.self.inside.default known.3 known.1 }

pub returns-clause-value : goal.returns-clause-value
returns-clause-value c =
    let main = c.self.inside.main in
    let default = c.self.inside.default_filter.now in
    let known = c.self.invariant in
    let name = c.args.test_name.now in
    let test : Test = record { binary = binary_of c.self.inside.binary; name = name } in
    let Name : Matcher → Bool → Type 0 = λ m. Tells (MatchesName m name) in
    let Group : Matcher → Bool → Type 0 = λ m. Tells ⊥ in
    let one = c.in_ok-default.default in
    IfOk-weaker c.on_name.result _ _
    (λ value is. subst
    (λ (it : Asking). IsValue (IsOn (filter_of it.filter) (filter_of it.default) (record { binary = it.binary; name = name }) (λ matcher. ⊥)) (Some value))
    c.self.view_is
    (is_on main.filter default test (λ matcher. ⊥) one
    (kept_of main.filter default test.binary c.self.inside.default (λ (f : Compiled) (b : Binary). IsValue (Gives (MayBe b Name Group Never) (filter_of f)) (Some one)) known.3 c.in_ok-default.ensures.value)
    (Some value) (subst (λ (b : Binary). IsValue (Gives (IsLeafValue b name (λ m. ⊥) one) (filter_of main.filter)) (Some value)) known.0 is)))
    c.on_name.ensures.value
