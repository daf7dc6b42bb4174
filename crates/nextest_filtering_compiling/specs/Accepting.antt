-- Which filtersets are accepted, and how the others are refused.
use Rattle.std.specs.Prelude.{◌≡◌, ◌≢◌, ◌⊎◌, ℕ, List, [], None, Result, Ok, Err, ⊤}
use Rattle.nextest_filtering_arguments.specs.Faults.{AreFaultsOf}
use Rattle.nextest_filtering_arguments.specs.declared.ban.FiltersetKind.{FiltersetKind}
use Rattle.nextest_filtering_arguments.specs.declared.error.ParseSingleError.{ParseSingleError}
use Rattle.nextest_filtering_filters.specs.Filter.{filter_of}
use Rattle.nextest_filtering_syntax.specs.Places.{StandsWhole}
use Rattle.nextest_filtering_ast.specs.Grammar.{IsFilterset}
use Rattle.nextest_filtering_ast.specs.Tree.{Tree, negation, union, intersection, difference, parens, set}
use Rattle.nextest_filtering_syntax.specs.Parsed.{tree_of}
use Rattle.nextest_filtering_syntax.specs.declared.tree.ParsedExpr.{ParsedExpr}
use Rattle.nextest_filtering_compiling.specs.Bans.{ban_of, bans_of}
use Rattle.nextest_filtering_compiling.specs.Compiling.{AreCompiled, IsCompiled}
use Rattle.nextest_filtering_compiling.specs.Context.{Context}
use Rattle.nextest_filtering_compiling.specs.Faults.{Have, LeafHas}
use Rattle.nextest_filtering_compiling.specs.Leaves.{leaves_of}
use Rattle.nextest_filtering_compiling.specs.declared.error.FiltersetError.{FiltersetError}
use Rattle.nextest_filtering_compiling.specs.declared.error.FiltersetError.TheVariants as error
use Rattle.nextest_filtering_compiling.specs.declared.filterset.Filterset.{Filterset}
use Rattle.nextest_filtering_filters.specs.declared.known_groups.KnownGroups.{KnownGroups}

-- each predicate may stand in a filterset of this kind, and something can be it
abbrev pub IsFree : Context → FiltersetKind → KnownGroups → Tree → Type 0
IsFree cx kind known (negation op t) = IsFree cx kind known t
IsFree cx kind known (union op a b) = IsFree cx kind known a × IsFree cx kind known b
IsFree cx kind known (intersection op a b) = IsFree cx kind known a × IsFree cx kind known b
IsFree cx kind known (difference op a b) = IsFree cx kind known a × IsFree cx kind known b
IsFree cx kind known (parens t) = IsFree cx kind known t
IsFree cx kind known (set it) = (ban_of kind it ≡ None) × LeafHas cx known (record { offset = 0; length = 0 }) it None

-- the text is a filterset, which is this tree, and is accepted
abbrev pub IsAccepted : Context → FiltersetKind → KnownGroups → List ℕ → Tree → Type 0
IsAccepted cx kind known text tree = IsFilterset text tree × IsFree cx kind known tree

-- A text is refused for faults of its own, else for the predicates that may not stand there, alone,
-- else for those that nothing can be.
abbrev pub IsRefusedFor : Context → FiltersetKind → KnownGroups → List ℕ → List ParseSingleError → Type 0
IsRefusedFor cx kind known text faults =
    (((other : Tree) → IsFilterset text other → ⊥) × AreFaultsOf text faults)
    ⊎ ((parsed : ParsedExpr) × IsFilterset text (tree_of parsed) × StandsWhole text parsed
    × ((faults ≡ bans_of kind (leaves_of parsed)) ⊎ ((bans_of kind (leaves_of parsed) ≡ []) × Have cx known (leaves_of parsed) faults)))

-- what a text gives: its tree with the spans of its predicates, and the filter that the tree is
-- compiled to, its predicates one by one; or the faults for which it is refused, of which there are
-- some; want of memory says nothing
abbrev pub Parses : Context → FiltersetKind → KnownGroups → List ℕ → Result Filterset FiltersetError → Type 0
Parses cx kind known text (Ok it) = (it.input ≡ text) × IsAccepted cx kind known text (tree_of it.parsed) × StandsWhole text it.parsed
    × IsCompiled cx.graph (tree_of it.parsed) (filter_of it.compiled) × AreCompiled cx.graph (leaves_of it.parsed) it.compiled.leaves
Parses cx kind known text (Err (error.Refused it)) = (it.input ≡ text) × (it.errors.items ≢ []) × IsRefusedFor cx kind known text it.errors.items
    × ((tree : Tree) → IsAccepted cx kind known text tree → ⊥)
Parses cx kind known text (Err error.OutOfMemory) = ⊤
