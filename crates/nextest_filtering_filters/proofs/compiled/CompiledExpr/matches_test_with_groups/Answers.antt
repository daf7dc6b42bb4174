use Rattle.std.proofs.Common.{Some}
use Rattle.std.proofs.lemmas.Result.{IfOk-weaker}
use Rattle.nextest_filtering_filters.specs.Formula.{IsValue}
use Rattle.nextest_filtering_filters.specs.Filter.{Compiled, filter_of}
use Rattle.nextest_filtering_filters.specs.Meaning.{IsOn}
use Rattle.nextest_filtering_filters.specs.Query.{Binary, test_of}
use Rattle.nextest_filtering_filters.proofs.Parts.{with_three}
use Rattle.nextest_filtering_filters.proofs.compiled.CompiledExpr.matches_test_with_groups.Goals as goal

pub returns : goal.returns
returns g c =
    let made = c.in_ok-evaluator in
    let test = test_of c.args.query.now in
    IfOk-weaker c.matches_test_with_groups.result _ _
    (λ value is. with_three
    (λ (filter default : Compiled) (binary : Binary). IsValue (IsOn (filter_of filter) (filter_of default) (record { binary = binary; name = test.name }) (g.G.GroupLookup.member c.args.groups.now (record { binary = binary; name = test.name }))) (Some value))
    made.evaluator.filter c.args.self.now made.evaluator.default c.args.ecx.now made.evaluator.binary test.binary made.ensures.filter made.ensures.default made.ensures.binary is)
    c.matches_test_with_groups.ensures.value
