-- What compiling one predicate, and a whole tree, gives.
use Rattle.std.specs.Prelude.{◌≡◌, ◌≢◌, ◌⊎◌, List, [], ◌∷◌, ◌++◌, None, Some}
use Rattle.nextest_filtering_arguments.specs.declared.ban.FiltersetKind.{FiltersetKind}
use Rattle.nextest_filtering_arguments.specs.declared.error.ParseSingleError.{ParseSingleError}
use Rattle.nextest_filtering_filters.specs.Filter.{filter_of}
use Rattle.nextest_filtering_filters.specs.declared.leaf.FiltersetLeaf.{FiltersetLeaf}
use Rattle.nextest_filtering_ast.specs.Tree.{Leaf, leaf_of}
use Rattle.nextest_filtering_syntax.specs.Parsed.{tree_of}
use Rattle.nextest_filtering_ast.specs.declared.leaf.ParsedLeaf.{ParsedLeaf}
use Rattle.nextest_filtering_ast.specs.declared.leaf.SourceSpan.{SourceSpan}
use Rattle.nextest_filtering_syntax.specs.declared.tree.ParsedExpr.{ParsedExpr}
use Rattle.nextest_filtering_compiling.specs.Bans.{bans_of, place_of}
use Rattle.nextest_filtering_compiling.specs.Compiling.{AreCompiled, IsCompiled, IsCompiledLeaf}
use Rattle.nextest_filtering_compiling.specs.Context.{Context}
use Rattle.nextest_filtering_compiling.specs.Faults.{Have, LeafHas}
use Rattle.nextest_filtering_compiling.specs.Leaves.{leaves_of}
use Rattle.nextest_filtering_compiling.specs.declared.compile.Outcome.{Outcome}
use Rattle.nextest_filtering_compiling.specs.declared.compile.Outcome.TheVariants as outcome
use Rattle.nextest_filtering_compiling.specs.declared.filterset.Filtered.{Filtered}
use Rattle.nextest_filtering_compiling.specs.declared.filterset.Filtered.TheVariants as filtered
use Rattle.nextest_filtering_filters.specs.declared.known_groups.KnownGroups.{KnownGroups}

-- what a predicate is compiled to, or its fault, where it stands so
abbrev pub IsOutcomeAt : Context → KnownGroups → SourceSpan → Leaf → Outcome → Type 0
IsOutcomeAt cx known span it (outcome.Leaf made) = LeafHas cx known span it None × IsCompiledLeaf cx.graph it made
IsOutcomeAt cx known span it (outcome.Fault fault) = LeafHas cx known span it (Some fault)

abbrev pub IsOutcome : Context → KnownGroups → ParsedLeaf → Outcome → Type 0
IsOutcome cx known it = IsOutcomeAt cx known (place_of it) (leaf_of it)

-- it stands behind what others were compiled to, or behind their faults
abbrev pub IsKept : Outcome → List FiltersetLeaf → List ParseSingleError → List FiltersetLeaf → List ParseSingleError → Type 0
IsKept (outcome.Leaf it) made faults more_made more_faults = (more_made ≡ made ++ it ∷ []) × (more_faults ≡ faults)
IsKept (outcome.Fault fault) made faults more_made more_faults = more_faults ≡ faults ++ fault ∷ []

-- the filter that a tree is, where no predicate has a fault; else the faults
abbrev pub IsFiltered : Context → FiltersetKind → KnownGroups → ParsedExpr → Filtered → Type 0
IsFiltered cx kind known tree (filtered.Filter made) = (bans_of kind (leaves_of tree) ≡ []) × Have cx known (leaves_of tree) []
    × IsCompiled cx.graph (tree_of tree) (filter_of made) × AreCompiled cx.graph (leaves_of tree) made.leaves
IsFiltered cx kind known tree (filtered.Faults faults) = (faults.items ≢ [])
    × ((faults.items ≡ bans_of kind (leaves_of tree)) ⊎ ((bans_of kind (leaves_of tree) ≡ []) × Have cx known (leaves_of tree) faults.items))
