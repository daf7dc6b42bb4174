-- Trees over the places of their predicates.
use Rattle.std.proofs.Common.{◌≡◌, ℕ, ◌+◌, List, [], ◌∷◌, ◌++◌, length, refl, ap, sym, subst, ◌∙◌, arith}
use Rattle.std.proofs.Math.Seq.{get_or-append_seam}
use Rattle.std.proofs.lemmas.List.{append_assoc, length-append}
use Rattle.std.proofs.lemmas.Option.{unwrap_or-slice_get}
use Rattle.nextest_filtering_filters.specs.Filter.{leaf_at}
use Rattle.nextest_filtering_filters.specs.declared.leaf.FiltersetLeaf.{FiltersetLeaf}
use Rattle.nextest_filtering_filters.specs.declared.leaf.FiltersetLeaf.TheVariants as leaf
use Rattle.nextest_filtering_filters.specs.Formula.{with_leaves}
use Rattle.nextest_filtering_graph.specs.Graph.{Graph}
use Rattle.nextest_filtering_ast.specs.Tree.{leaf_of}
use Rattle.nextest_filtering_syntax.specs.Parsed.{tree_of}
use Rattle.nextest_filtering_ast.specs.declared.leaf.ParsedLeaf.{ParsedLeaf}
use Rattle.nextest_filtering_syntax.specs.declared.tree.ParsedExpr.{ParsedExpr}
use Rattle.nextest_filtering_syntax.specs.declared.tree.ParsedExpr.TheVariants as tree
use Rattle.nextest_filtering_compiling.specs.Compiling.{AreCompiled, IsCompiled, IsCompiledLeaf}
use Rattle.nextest_filtering_compiling.specs.Leaves.{leaves_of, formula_of_tree}

-- predicates are compiled to those that stand from a place on
abbrev Stand : Graph → List FiltersetLeaf → ℕ → List ParsedLeaf → Type 0
Stand graph all first [] = Unit {0}
Stand graph all first (it ∷ more) = IsCompiledLeaf graph (leaf_of it) (leaf_at all first) × Stand graph all (first + 1) more

stand_left : (graph : Graph) (all : List FiltersetLeaf) (first : ℕ) (xs ys : List ParsedLeaf) → Stand graph all first (xs ++ ys) → Stand graph all first xs
stand_left graph all first [] ys stand = tt
stand_left graph all first (x ∷ xs) ys stand = (stand.0, stand_left graph all (first + 1) xs ys stand.1)

stand_right : (graph : Graph) (all : List FiltersetLeaf) (first next : ℕ) (xs ys : List ParsedLeaf) → next ≡ first + length xs → Stand graph all first (xs ++ ys) → Stand graph all next ys
stand_right graph all first next [] ys at stand = let same : first ≡ next = omega (arith, at) in subst (λ (n : ℕ). Stand graph all n ys) same stand
stand_right graph all first next (x ∷ xs) ys at stand = stand_right graph all (first + 1) next xs ys (omega (arith, at)) stand.1

stand_all : (graph : Graph) (front made : List FiltersetLeaf) (leaves : List ParsedLeaf) (all : List FiltersetLeaf) (first : ℕ) → all ≡ front ++ made → first ≡ length front
    → AreCompiled graph leaves made → Stand graph all first leaves
stand_all graph front made [] all first is at zip = tt
stand_all graph front [] (it ∷ leaves) all first is at zip = absurd zip
stand_all graph front (one ∷ made) (it ∷ leaves) all first is at zip =
    let found : leaf_at all first ≡ one
    = ap (λ (l : List FiltersetLeaf). leaf_at l first) is ∙ ap (leaf_at (front ++ one ∷ made)) at
    ∙ unwrap_or-slice_get (front ++ one ∷ made) (length front) leaf.None ∙ get_or-append_seam front one made leaf.None in (
      subst (IsCompiledLeaf graph (leaf_of it)) (sym found) zip.0,
      stand_all graph (front ++ one ∷ []) made leaves all (first + 1) (is ∙ sym (append_assoc front (one ∷ []) made)) (omega (arith, at, length-append front (one ∷ []))) zip.1,
    )

compiled_at : (graph : Graph) (all : List FiltersetLeaf) (t : ParsedExpr) (first : ℕ) → Stand graph all first (leaves_of t)
    → IsCompiled graph (tree_of t) (with_leaves (leaf_at all) (formula_of_tree first t))
compiled_at graph all (tree.Not' op p t) first stand = (with_leaves (leaf_at all) (formula_of_tree first t), refl, compiled_at graph all t first stand)
compiled_at graph all (tree.Union' op p a q b) first stand = (
  with_leaves (leaf_at all) (formula_of_tree first a),
  with_leaves (leaf_at all) (formula_of_tree (first + length (leaves_of a)) b),
  refl,
  compiled_at graph all a first (stand_left graph all first (leaves_of a) (leaves_of b) stand),
  compiled_at graph all b (first + length (leaves_of a)) (stand_right graph all first (first + length (leaves_of a)) (leaves_of a) (leaves_of b) refl stand),
)
compiled_at graph all (tree.Intersection' op p a q b) first stand = (
  with_leaves (leaf_at all) (formula_of_tree first a),
  with_leaves (leaf_at all) (formula_of_tree (first + length (leaves_of a)) b),
  refl,
  compiled_at graph all a first (stand_left graph all first (leaves_of a) (leaves_of b) stand),
  compiled_at graph all b (first + length (leaves_of a)) (stand_right graph all first (first + length (leaves_of a)) (leaves_of a) (leaves_of b) refl stand),
)
compiled_at graph all (tree.Difference' op p a q b) first stand = (
  with_leaves (leaf_at all) (formula_of_tree first a),
  with_leaves (leaf_at all) (formula_of_tree (first + length (leaves_of a)) b),
  refl,
  compiled_at graph all a first (stand_left graph all first (leaves_of a) (leaves_of b) stand),
  compiled_at graph all b (first + length (leaves_of a)) (stand_right graph all first (first + length (leaves_of a)) (leaves_of a) (leaves_of b) refl stand),
)
compiled_at graph all (tree.Parens' p t) first stand = compiled_at graph all t first stand
compiled_at graph all (tree.Set it) first stand = (leaf_at all first, refl, stand.0)

-- a tree over what its predicates are compiled to, by their places, is what it is compiled to
pub tree_compiled : (graph : Graph) (made : List FiltersetLeaf) (t : ParsedExpr) → AreCompiled graph (leaves_of t) made
    → IsCompiled graph (tree_of t) (with_leaves (leaf_at made) (formula_of_tree 0 t))
tree_compiled graph made t zip = compiled_at graph made t 0 (stand_all graph [] made (leaves_of t) made 0 refl refl zip)
