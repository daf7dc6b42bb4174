use Rattle.std.proofs.Common.{subst}
use Rattle.std.specs.Prelude.{IfOk}
use Rattle.nextest_filtering_filters.specs.Filter.{Compiled, filter_of}
use Rattle.nextest_filtering_filters.specs.Meaning.{CanBeOn}
use Rattle.nextest_filtering_filters.specs.Query.{binary_of}
use Rattle.nextest_filtering_filters.specs.Formula.{IsValue}
use Rattle.nextest_filtering_compiling.proofs.as_filters.FiltersetFilters.matches_binary.Goals as goal

pub returns : goal.returns
returns c =
    subst (λ (default : Compiled). IfOk c.matches_binary.result (IsValue (CanBeOn (filter_of c.args.self.now.compiled) (filter_of default) (binary_of c.args.query.now))))
    c.new-ecx.ensures c.matches_binary.ensures
