-- The predicates that may not stand in a filterset.
use Rattle.std.specs.Prelude.{List, [], ◌∷◌, ◌++◌, Option, Some, None, unwrap_or}
use Rattle.nextest_filtering_arguments.specs.declared.ban.BannedPredicateReason.{BannedPredicateReason}
use Rattle.nextest_filtering_arguments.specs.declared.ban.BannedPredicateReason.TheVariants as reason
use Rattle.nextest_filtering_arguments.specs.declared.ban.FiltersetKind.{FiltersetKind}
use Rattle.nextest_filtering_arguments.specs.declared.ban.FiltersetKind.TheVariants as kind
use Rattle.nextest_filtering_arguments.specs.declared.error.ParseSingleError.{ParseSingleError}
use Rattle.nextest_filtering_arguments.specs.declared.error.ParseSingleError.TheVariants as fault
use Rattle.nextest_filtering_syntax.specs.Places.{span_of}
use Rattle.nextest_filtering_ast.specs.Tree.{Leaf, matching, default_filter, test_name, group, leaf_of}
use Rattle.nextest_filtering_ast.specs.declared.leaf.ParsedLeaf.{ParsedLeaf}
use Rattle.nextest_filtering_ast.specs.declared.leaf.SourceSpan.{SourceSpan}

-- why a predicate may not stand in a filterset of this kind, if it may not
abbrev pub ban_of : FiltersetKind → Leaf → Option BannedPredicateReason
ban_of kind.DefaultFilter default_filter = Some reason.DefaultInfiniteRecursion
ban_of kind.DefaultFilter (matching group m) = Some reason.GroupNotAvailableInDefaultFilter
ban_of kind.OverrideFilter (matching group m) = Some reason.GroupCircularDependency
ban_of kind.TestArchive (matching group m) = Some reason.GroupNotAvailableInArchive
ban_of kind.TestArchive (matching test_name m) = Some reason.TestNotAvailableInArchive
ban_of kind it = None

-- where a predicate stands; `all()` and `none()` are never told of
abbrev pub place_of : ParsedLeaf → SourceSpan
place_of it = unwrap_or (span_of it) (record { offset = 0; length = 0 })

-- the fault, where there is a reason
abbrev pub fault_for : FiltersetKind → SourceSpan → Option BannedPredicateReason → List ParseSingleError
fault_for kind span None = []
fault_for kind span (Some reason) = fault.BannedPredicate kind span reason ∷ []

-- those of predicates, from left to right
abbrev pub bans_of : FiltersetKind → List ParsedLeaf → List ParseSingleError
bans_of kind [] = []
bans_of kind (it ∷ more) = fault_for kind (place_of it) (ban_of kind (leaf_of it)) ++ bans_of kind more
