use Rattle.std.proofs.lemmas.Result.{IfOk-weaker}
use Rattle.nextest_config_resolution_profiles.proofs.Columns.{told_each}
use Rattle.nextest_config_resolution_profiles.proofs.held_rules.filtered_column.Goals as goal
use Rattle.nextest_filtering_filters.specs.Query.{binary_of}

pub returns : goal.returns
returns g c =
    IfOk-weaker c.matches_tests.result _ _
    (λ column all. told_each g.met.F.Filters.laws c.args.filter.now c.args.default.now (binary_of c.args.binary.now) c.requires.serves c.requires.no_groups c.args.names.now column.items all)
    c.matches_tests.ensures
