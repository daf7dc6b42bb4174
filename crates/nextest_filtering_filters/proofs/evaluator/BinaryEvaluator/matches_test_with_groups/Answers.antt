use Rattle.std.proofs.Common.{◌≡◌, ◌||◌, subst}
use Rattle.std.specs.List.{list_any}
use Rattle.std.proofs.lemmas.Result.{IfOk-weaker}
use Rattle.nextest_filtering_filters.specs.Asking.{Asking}
use Rattle.nextest_filtering_filters.specs.Filter.{is_group}
use Rattle.nextest_filtering_filters.proofs.ByName.{with_groups}
use Rattle.nextest_filtering_filters.proofs.evaluator.BinaryEvaluator.matches_test_with_groups.Goals as goal

pub returns-clause-value : goal.returns-clause-value
returns-clause-value g c =
    let it = c.args.self.now in
    let name = c.args.test_name.now in
    let matters = subst (λ (known : Asking). c.self.inside.groups_matter ≡ (list_any is_group known.filter.leaves || list_any is_group known.default.leaves)) c.self.view_is c.self.invariant.2 in
    IfOk-weaker c.matches_name.result _ _
    (λ value is. with_groups it name (g.G.GroupLookup.member c.args.groups.now (record { binary = it.binary; name = name })) c.self.inside.groups_matter value matters c.if-self.false is) c.matches_name.ensures.value
