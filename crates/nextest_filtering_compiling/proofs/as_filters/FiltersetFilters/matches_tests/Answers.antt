use Rattle.std.proofs.Common.{Bool, Bor, List, ℕ, subst}
use Rattle.std.specs.List.{AllZip}
use Rattle.std.specs.Prelude.{IfOk, Some}
use Rattle.nextest_filtering_filters.specs.Filter.{Compiled, filter_of}
use Rattle.nextest_filtering_filters.specs.Meaning.{IsOn}
use Rattle.nextest_filtering_filters.specs.Query.{binary_of}
use Rattle.nextest_filtering_filters.specs.Formula.{IsValue}
use Rattle.nextest_filtering_compiling.proofs.Results.{if_ok, zip_weaker}
use Rattle.nextest_filtering_compiling.proofs.as_filters.FiltersetFilters.matches_tests.Goals as goal

pub returns : goal.returns
returns c =
    let names = c.args.names.now in
    let On : Compiled → Bor (List ℕ) → Bool → Type 0
    = λ default name value. IsOn (filter_of c.args.self.now.compiled) (filter_of default) (record { binary = binary_of c.args.binary.now; name = name.now }) (λ matcher. ⊥) value in
    let Is : Compiled → Bor (List ℕ) → Bool → Type 0 = λ default name value. IsValue (On default name) (Some value) in
    let default = c.args.default.now.compiled in
    if_ok (λ values. AllZip (Is default) names values.items) (λ values. AllZip (On default) names values.items)
    (λ values all. zip_weaker (Is default) (On default) (λ name value is. is.0) names values.items all) c.matches_tests.result
    (subst (λ (it : Compiled). IfOk c.matches_tests.result (λ values. AllZip (Is it) names values.items)) c.new-ecx.ensures c.matches_tests.ensures)
