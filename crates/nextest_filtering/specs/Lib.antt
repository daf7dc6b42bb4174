-- What the contracts of the items that this crate hands on speak of.
-- filtersets: which texts they are, and how they print
pub use Rattle.nextest_filtering_ast.specs.Tree
pub use Rattle.nextest_filtering_syntax.specs.Parsed
pub use Rattle.nextest_filtering_ast.specs.Grammar
pub use Rattle.nextest_filtering_ast.specs.Words
pub use Rattle.nextest_filtering_ast.specs.Printing
pub use Rattle.nextest_filtering_ast.specs.Runtime
pub use Rattle.nextest_filtering_ast.specs.Same
pub use Rattle.nextest_filtering_ast.specs.Meaning
pub use Rattle.nextest_filtering_ast.specs.Matching
pub use Rattle.nextest_filtering_syntax.specs.Laws
-- reading: what is read, and where faults and predicates stand
pub use Rattle.nextest_filtering_syntax.specs.Reading
pub use Rattle.nextest_filtering_syntax.specs.Places
pub use Rattle.nextest_filtering_arguments.specs.Blanks
pub use Rattle.nextest_filtering_arguments.specs.Faults
pub use Rattle.nextest_filtering_arguments.specs.Kinds
-- filtersets that are compiled: which are accepted, and what they are on binaries and tests
pub use Rattle.nextest_filtering_compiling.specs.Accepting
pub use Rattle.nextest_filtering_compiling.specs.Bans
pub use Rattle.nextest_filtering_compiling.specs.Compiling
pub use Rattle.nextest_filtering_compiling.specs.Context
pub use Rattle.nextest_filtering_compiling.specs.Faults as CompileFaults
pub use Rattle.nextest_filtering_compiling.specs.Laws as CompileLaws
pub use Rattle.nextest_filtering_compiling.specs.Leaves
pub use Rattle.nextest_filtering_compiling.specs.Packages
pub use Rattle.nextest_filtering_compiling.specs.Trees as TreeMeaning
pub use Rattle.nextest_filtering_filters.specs.Asking
pub use Rattle.nextest_filtering_filters.specs.Filter
pub use Rattle.nextest_filtering_filters.specs.Laws as FilterLaws
pub use Rattle.nextest_filtering_filters.specs.Meaning as FilterMeaning
pub use Rattle.nextest_filtering_filters.specs.Query
pub use Rattle.nextest_filtering_filters.specs.Formula
pub use Rattle.nextest_filtering_graph.specs.Graph
pub use Rattle.nextest_filtering_graph.specs.Making
pub use Rattle.nextest_filtering_graph.specs.Reaching
-- arguments: texts, regular expressions, globs
pub use Rattle.nextest_filtering_escapes.specs.Text
pub use Rattle.nextest_filtering_escapes.specs.Spans
pub use Rattle.nextest_filtering_escapes.specs.Regex
pub use Rattle.nextest_filtering_escapes.specs.Printing as TextPrinting
pub use Rattle.nextest_filtering_escapes.specs.Laws as TextLaws
pub use Rattle.nextest_filtering_globs.specs.Glob
pub use Rattle.nextest_filtering_globs.specs.Syntax as GlobSyntax
pub use Rattle.nextest_filtering_globs.specs.Meaning as GlobMeaning
pub use Rattle.nextest_filtering_globs.specs.Laws as GlobLaws
-- types
pub use Rattle.nextest_filtering_ast.specs.declared.leaf.ParsedLeaf
pub use Rattle.nextest_filtering_ast.specs.declared.leaf.BuildPlatform
pub use Rattle.nextest_filtering_ast.specs.declared.leaf.SourceSpan
pub use Rattle.nextest_filtering_ast.specs.declared.matcher.NameMatcher
pub use Rattle.nextest_filtering_ast.specs.declared.matching.NameMatching
pub use Rattle.nextest_filtering_ast.specs.declared.operators.AndOperator
pub use Rattle.nextest_filtering_ast.specs.declared.operators.DifferenceOperator
pub use Rattle.nextest_filtering_ast.specs.declared.operators.NotOperator
pub use Rattle.nextest_filtering_ast.specs.declared.operators.OrOperator
pub use Rattle.nextest_filtering_ast.specs.declared.pattern.PatternError
pub use Rattle.nextest_filtering_arguments.specs.Bans as KindWords
pub use Rattle.nextest_filtering_arguments.specs.declared.ban.BannedPredicateReason
pub use Rattle.nextest_filtering_arguments.specs.declared.ban.FiltersetKind
pub use Rattle.nextest_filtering_arguments.specs.declared.error.ParseSingleError
pub use Rattle.nextest_filtering_compiling.specs.declared.error.FiltersetError
pub use Rattle.nextest_filtering_compiling.specs.declared.error.FiltersetParseErrors
pub use Rattle.nextest_filtering_compiling.specs.declared.filterset.Filterset
pub use Rattle.nextest_filtering_filters.specs.declared.known_groups.KnownGroups
pub use Rattle.nextest_filtering_filters.specs.declared.leaf.FiltersetLeaf
pub use Rattle.nextest_filtering_filters.specs.declared.query.BinaryQuery
pub use Rattle.nextest_filtering_filters.specs.declared.query.TestQuery
pub use Rattle.nextest_filtering_graph.specs.declared.graph_error.GraphError
pub use Rattle.nextest_filtering_graph.specs.declared.graph_fault.GraphFault
pub use Rattle.nextest_filtering_syntax.specs.declared.reading.Reading as ReadingType
pub use Rattle.nextest_filtering_syntax.specs.declared.reading.ParseError
pub use Rattle.nextest_filtering_syntax.specs.declared.tree.ParsedExpr
pub use Rattle.nextest_filtering_globs.specs.declared.construct_error.GlobConstructError
pub use Rattle.nextest_filtering_globs.specs.declared.token.ClassRange
pub use Rattle.nextest_filtering_globs.specs.declared.token.GlobToken
