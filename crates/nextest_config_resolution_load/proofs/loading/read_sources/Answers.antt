use Rattle.std.proofs.Common.{◌≡◌, Bor, List, filter_map, map, ap, ◌∙◌, subst}
use Rattle.std.specs.List.{AllByRecursion, flat_map}
use Rattle.toml.specs.Data.{table, Members}
use Rattle.toml.specs.View.{table_view}
use Rattle.nextest_config_resolution_tree.specs.Ends.{End, IsListOf}
use Rattle.nextest_config_resolution_tree.specs.RunOf.{list_of}
use Rattle.nextest_config_resolution_load.specs.Checks.{bad_merged, config_in, file_of, file_with_setup, members_of, merged_in, source_checks, tree_of_files, value_checks}
use Rattle.nextest_config_resolution_load.specs.Load.{IsKept}
use Rattle.nextest_config_resolution_load.specs.Reading.{AreReadSources, AreRulesOf, early_checks}
use Rattle.nextest_config_resolution_load.specs.Refusing.{RefusesFor}
use Rattle.nextest_config_resolution_load.specs.Warn.{AreKept, warnings_for}
use Rattle.nextest_config_resolution_load.proofs.Passing.{kept_both, passes_on, refuses_before, refuses_behind}
use Rattle.nextest_config_resolution_load.proofs.loading.read_sources.Goals as goal
use Rattle.nextest_config_resolution_sources.specs.Counting.{counting_sources}
use Rattle.nextest_config_resolution_sources.specs.declared.source.ConfigSource.{ConfigSource}

-- what the lent sources are
counted : (sources : List ConfigSource) (lent listed : List (Bor ConfigSource)) → lent ≡ listed → map (λ it. it.now) listed ≡ counting_sources sources
    → map (λ it. it.now) lent ≡ counting_sources sources
counted sources lent listed same are = ap (λ (them : List (Bor ConfigSource)). map (λ it. it.now) them) same ∙ are

-- and what their files come to
merged : (built_in : Members) (sources all : List ConfigSource) (files : List Members) (list : List End) → all ≡ counting_sources sources → files ≡ map file_with_setup (filter_map file_of all)
    → IsListOf list (table (members_of (tree_of_files (table built_in) files))) → IsListOf list (table (merged_in built_in sources))
merged built_in sources all files list same are is =
    subst (λ (them : List Members). IsListOf list (table (members_of (tree_of_files (table built_in) them)))) (are ∙ ap (λ (them : List ConfigSource). map file_with_setup (filter_map file_of them)) same) is

pub returns-in_err-read-clause-read : goal.returns-in_err-read-clause-read
returns-in_err-read-clause-read g c =
    let Is = g.R.Languages.is_filter c.args.cx.now in
    let IsSpec = g.R.Languages.is_spec in
    let IsTooDeep = g.R.Languages.is_too_deep in
    let features = c.args.features in
    let built_in = table_view c.args.built_in.now in
    let sources = c.args.sources.now in
    let told = c.in_err-read.field-0.0 in
    let same = counted sources c.as_slice.result.now _ c.as_slice.ensures.value c.in_ok-counted.ensures in
    passes_on Is IsSpec IsTooDeep (AreReadSources Is IsSpec built_in sources) (early_checks features built_in sources) told c.from_residual-in_err-read.result
    (refuses_before Is IsSpec IsTooDeep (flat_map (source_checks features) (counting_sources sources)) (value_checks bad_merged (config_in (merged_in built_in sources))) told
    (subst (λ (all : List ConfigSource). RefusesFor Is IsSpec IsTooDeep (flat_map (source_checks features) all) told) same c.in_err-read.ensures.read))
    c.from_residual-in_err-read.ensures.1

pub returns-in_err-config-clause-read : goal.returns-in_err-config-clause-read
returns-in_err-config-clause-read g c =
    let Is = g.R.Languages.is_filter c.args.cx.now in
    let IsSpec = g.R.Languages.is_spec in
    let IsTooDeep = g.R.Languages.is_too_deep in
    let features = c.args.features in
    let built_in = table_view c.args.built_in.now in
    let sources = c.args.sources.now in
    let told = c.in_err-config.field-0.0 in
    let same = counted sources c.as_slice.result.now _ c.as_slice.ensures.value c.in_ok-counted.ensures in
    let lists = merged built_in sources (map (λ it. it.now) c.as_slice.result.now) (map table_view c.in_ok-read.read.files.items) (list_of c.in_ok-tree.tree) same c.in_ok-read.ensures.read.1.files c.in_ok-tree.ensures in
    passes_on Is IsSpec IsTooDeep (AreReadSources Is IsSpec built_in sources) (early_checks features built_in sources) told c.from_residual-in_err-config.result
    (refuses_behind Is IsSpec IsTooDeep (flat_map (source_checks features) (counting_sources sources)) (value_checks bad_merged (config_in (merged_in built_in sources))) told
    (subst (λ (all : List ConfigSource). AllByRecursion (IsKept Is IsSpec) (flat_map (source_checks features) all)) same c.in_ok-read.ensures.read.0)
    (c.in_err-config.ensures.read (merged_in built_in sources) lists))
    c.from_residual-in_err-config.ensures.1

pub returns-clause-read : goal.returns-clause-read
returns-clause-read g c =
    let Is = g.R.Languages.is_filter c.args.cx.now in
    let IsSpec = g.R.Languages.is_spec in
    let features = c.args.features in
    let built_in = table_view c.args.built_in.now in
    let sources = c.args.sources.now in
    let read = c.in_ok-read.read in
    let same = counted sources c.as_slice.result.now _ c.as_slice.ensures.value c.in_ok-counted.ensures in
    let lists = merged built_in sources (map (λ it. it.now) c.as_slice.result.now) (map table_view read.files.items) (list_of c.in_ok-tree.tree) same c.in_ok-read.ensures.read.1.files c.in_ok-tree.ensures in
    let is = c.in_ok-config.ensures.read (merged_in built_in sources) lists in (
      kept_both Is IsSpec g.R.Languages.is_too_deep (flat_map (source_checks features) (counting_sources sources)) (value_checks bad_merged (config_in (merged_in built_in sources)))
          (subst (λ (all : List ConfigSource). AllByRecursion (IsKept Is IsSpec) (flat_map (source_checks features) all)) same c.in_ok-read.ensures.read.0)
          is.0,
      record {
        values = is.1;
        rises = c.in_ok-config.ensures.rises;
        rules = subst (λ (all : List ConfigSource). AreRulesOf Is IsSpec all read.rules.items) same c.in_ok-read.ensures.read.1.rules;
      },
    )

pub returns-clause-kept : goal.returns-clause-kept
returns-clause-kept g c =
    let same = counted c.args.sources.now c.as_slice.result.now _ c.as_slice.ensures.value c.in_ok-counted.ensures in
    subst (λ (all : List ConfigSource). AreKept c.args.kept.now c.read_files.new.kept (flat_map warnings_for all)) same c.in_ok-read.ensures.kept
