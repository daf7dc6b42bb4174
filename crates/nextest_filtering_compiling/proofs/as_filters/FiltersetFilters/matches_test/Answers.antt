use Rattle.std.proofs.Common.{Bool, subst}
use Rattle.std.specs.Prelude.{IfOk, Some}
use Rattle.nextest_filtering_filters.specs.Filter.{Compiled, filter_of}
use Rattle.nextest_filtering_filters.specs.Meaning.{IsOn}
use Rattle.nextest_filtering_filters.specs.Query.{test_of}
use Rattle.nextest_filtering_filters.specs.Formula.{IsValue}
use Rattle.nextest_filtering_compiling.proofs.Results.{if_ok}
use Rattle.nextest_filtering_compiling.proofs.as_filters.FiltersetFilters.matches_test.Goals as goal

pub returns : goal.returns
returns c =
    let On : Compiled → Bool → Type 0 = λ default. IsOn (filter_of c.args.self.now.compiled) (filter_of default) (test_of c.args.query.now) (λ matcher. ⊥) in
    if_ok (λ value. IsValue (On c.args.default.now.compiled) (Some value)) (On c.args.default.now.compiled) (λ value is. is.0) c.matches_test.result
    (subst (λ (default : Compiled). IfOk c.matches_test.result (λ value. IsValue (On default) (Some value))) c.new-ecx.ensures c.matches_test.ensures)
