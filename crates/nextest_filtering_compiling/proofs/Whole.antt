-- A whole text: which predicates have no fault, and what is said of it.
use Rattle.std.proofs.Common.{◌≡◌, ◌≢◌, ◌⊎◌, inl, inr, ℕ, ◌==◌, Bool, true, false, List, [], ◌∷◌, ◌++◌, length, Option, None, Some, refl, ap, sym, subst, ◌∙◌, arith}
use Rattle.std.proofs.lemmas.Bool.{eqb-true, eqb-false}
use Rattle.nextest_filtering_arguments.specs.declared.ban.BannedPredicateReason.{BannedPredicateReason}
use Rattle.nextest_filtering_arguments.specs.declared.ban.FiltersetKind.{FiltersetKind}
use Rattle.nextest_filtering_arguments.specs.declared.error.ParseSingleError.{ParseSingleError}
use Rattle.nextest_filtering_filters.specs.Filter.{Compiled, filter_of, leaf_at}
use Rattle.nextest_filtering_filters.specs.declared.leaf.FiltersetLeaf.{FiltersetLeaf}
use Rattle.nextest_filtering_filters.specs.Formula.{Formula, with_leaves}
use Rattle.nextest_filtering_filters.specs.Steps.{formula_of}
use Rattle.nextest_filtering_filters.specs.declared.step.FormulaStep.{FormulaStep}
use Rattle.nextest_filtering_syntax.specs.Places.{StandsWhole}
use Rattle.nextest_filtering_syntax.specs.Reading.{IsReadingOf}
use Rattle.nextest_filtering_syntax.specs.declared.reading.Reading.{Reading}
use Rattle.nextest_filtering_ast.specs.Grammar.{IsFilterset}
use Rattle.nextest_filtering_ast.specs.Tree.{Leaf, Tree, matching, built_for, default_filter, everything, nothing, package_name, dependencies, dependents, kind, binary_name, binary_id, test_name, group, leaf_of}
use Rattle.nextest_filtering_syntax.specs.Parsed.{tree_of}
use Rattle.nextest_filtering_ast.specs.declared.leaf.ParsedLeaf.{ParsedLeaf}
use Rattle.nextest_filtering_ast.specs.declared.leaf.SourceSpan.{SourceSpan}
use Rattle.nextest_filtering_syntax.specs.declared.tree.ParsedExpr.{ParsedExpr}
use Rattle.nextest_filtering_syntax.specs.declared.tree.ParsedExpr.TheVariants as tree
use Rattle.nextest_filtering_compiling.specs.Accepting.{IsAccepted, IsFree, IsRefusedFor}
use Rattle.nextest_filtering_compiling.specs.Outcomes.{IsFiltered}
use Rattle.nextest_filtering_compiling.specs.Bans.{ban_of, bans_of, fault_for, place_of}
use Rattle.nextest_filtering_compiling.specs.Compiling.{AreCompiled, IsCompiled}
use Rattle.nextest_filtering_compiling.specs.Context.{Context}
use Rattle.nextest_filtering_compiling.specs.Faults.{Have, LeafHas, faults_of_option}
use Rattle.nextest_filtering_compiling.specs.Leaves.{leaves_of, formula_of_tree}
use Rattle.nextest_filtering_compiling.specs.declared.filterset.Filtered.TheVariants as filtered
use Rattle.nextest_filtering_filters.specs.declared.known_groups.KnownGroups.{KnownGroups}
use Rattle.nextest_filtering_compiling.proofs.Placed.{tree_compiled}

-- what has no items
pub is_nothing : {X : Type 0} (items : List X) (count : ℕ) (empty : Bool) → empty ≡ (count == 0) → empty ≡ true → count ≡ length items → items ≡ []
is_nothing {X} [] count empty is filled same = refl
is_nothing {X} (first ∷ more) count empty is filled same = let zero_is : count ≡ 0 = eqb-true count 0 (sym is ∙ filled) in absurd (omega (arith, same))

pub is_something : {X : Type 0} (items : List X) (count : ℕ) (empty : Bool) → empty ≡ (count == 0) → empty ≡ false → count ≡ length items → items ≢ []
is_something {X} [] count empty is filled same none = eqb-false count 0 (sym is ∙ filled) same
is_something {X} (first ∷ more) count empty is filled same none = cc

-- no predicate has a fault: its filter
pub filtered_as : (cx : Context) (purpose : FiltersetKind) (known : KnownGroups) (t : ParsedExpr) (bans faults : List ParseSingleError) (made : List FiltersetLeaf) (shape : List FormulaStep) (new : Compiled)
    → bans ≡ bans_of purpose (leaves_of t) → bans ≡ [] → Have cx known (leaves_of t) faults
    → (faults ≡ [] → AreCompiled cx.graph (leaves_of t) made) → faults ≡ [] → formula_of shape ≡ formula_of_tree 0 t
    → new.steps ≡ shape → new.leaves ≡ made → IsFiltered cx purpose known t (filtered.Filter new)
filtered_as cx purpose known t bans faults made shape new is_banned bans_none have zip faults_none formula steps leaves = (
  sym is_banned ∙ bans_none,
  subst (Have cx known (leaves_of t)) faults_none have,
  subst (IsCompiled cx.graph (tree_of t)) (sym same) (tree_compiled cx.graph made t (zip faults_none)),
  subst (AreCompiled cx.graph (leaves_of t)) (sym leaves) (zip faults_none),
)
  where
    same : filter_of new ≡ with_leaves (leaf_at made) (formula_of_tree 0 t)
    same = ap (λ (s : List FormulaStep). with_leaves (leaf_at new.leaves) (formula_of s)) steps ∙ ap (λ (f : Formula ℕ). with_leaves (leaf_at new.leaves) f) formula
        ∙ ap (λ (l : List FiltersetLeaf). with_leaves (leaf_at l) (formula_of_tree 0 t)) leaves

-- ---- predicates without faults

abbrev Free : Context → FiltersetKind → KnownGroups → List ParsedLeaf → Type 0
Free cx purpose known [] = Unit {0}
Free cx purpose known (it ∷ more) = (ban_of purpose (leaf_of it) ≡ None) × LeafHas cx known (place_of it) (leaf_of it) None × Free cx purpose known more

-- where a predicate stands is nothing to one without a fault
none_anywhere : (cx : Context) (known : KnownGroups) (one other : SourceSpan) (it : Leaf) → LeafHas cx known one it None → LeafHas cx known other it None
none_anywhere cx known one other (matching package_name m) has = has
none_anywhere cx known one other (matching dependencies m) has = has
none_anywhere cx known one other (matching dependents m) has = has
none_anywhere cx known one other (matching kind m) has = has
none_anywhere cx known one other (matching binary_name m) has = has
none_anywhere cx known one other (matching binary_id m) has = has
none_anywhere cx known one other (matching test_name m) has = has
none_anywhere cx known one other (matching group m) has = has
none_anywhere cx known one other (built_for p) has = has
none_anywhere cx known one other default_filter has = has
none_anywhere cx known one other everything has = has
none_anywhere cx known one other nothing has = has

not_both : (cx : Context) (known : KnownGroups) (span other : SourceSpan) (it : Leaf) (told : ParseSingleError) → LeafHas cx known span it None → LeafHas cx known other it (Some told) → ⊥
not_both cx known span other (matching package_name m) told none some = none some.1
not_both cx known span other (matching dependencies m) told none some = none some.1
not_both cx known span other (matching dependents m) told none some = none some.1
not_both cx known span other (matching kind m) told none some = cc
not_both cx known span other (matching binary_name m) told none some = none some.1
not_both cx known span other (matching binary_id m) told none some = none some.1
not_both cx known span other (matching test_name m) told none some = cc
not_both cx known span other (matching group m) told none some = none some.1
not_both cx known span other (built_for p) told none some = cc
not_both cx known span other default_filter told none some = cc
not_both cx known span other everything told none some = cc
not_both cx known span other nothing told none some = cc

free_left : (cx : Context) (purpose : FiltersetKind) (known : KnownGroups) (xs ys : List ParsedLeaf) → Free cx purpose known (xs ++ ys) → Free cx purpose known xs
free_left cx purpose known [] ys free = tt
free_left cx purpose known (x ∷ xs) ys (ban, has, free) = (ban, has, free_left cx purpose known xs ys free)

free_right : (cx : Context) (purpose : FiltersetKind) (known : KnownGroups) (xs ys : List ParsedLeaf) → Free cx purpose known (xs ++ ys) → Free cx purpose known ys
free_right cx purpose known [] ys free = free
free_right cx purpose known (x ∷ xs) ys (ban, has, free) = free_right cx purpose known xs ys free

free_both : (cx : Context) (purpose : FiltersetKind) (known : KnownGroups) (xs ys : List ParsedLeaf) → Free cx purpose known xs → Free cx purpose known ys → Free cx purpose known (xs ++ ys)
free_both cx purpose known [] ys left right = right
free_both cx purpose known (x ∷ xs) ys (ban, has, left) right = (ban, has, free_both cx purpose known xs ys left right)

free_tree : (cx : Context) (purpose : FiltersetKind) (known : KnownGroups) (t : ParsedExpr) → Free cx purpose known (leaves_of t) → IsFree cx purpose known (tree_of t)
free_tree cx purpose known (tree.Not' op p t) free = free_tree cx purpose known t free
free_tree cx purpose known (tree.Union' op p a q b) free =
    (free_tree cx purpose known a (free_left cx purpose known (leaves_of a) (leaves_of b) free), free_tree cx purpose known b (free_right cx purpose known (leaves_of a) (leaves_of b) free))
free_tree cx purpose known (tree.Intersection' op p a q b) free =
    (free_tree cx purpose known a (free_left cx purpose known (leaves_of a) (leaves_of b) free), free_tree cx purpose known b (free_right cx purpose known (leaves_of a) (leaves_of b) free))
free_tree cx purpose known (tree.Difference' op p a q b) free =
    (free_tree cx purpose known a (free_left cx purpose known (leaves_of a) (leaves_of b) free), free_tree cx purpose known b (free_right cx purpose known (leaves_of a) (leaves_of b) free))
free_tree cx purpose known (tree.Parens' p t) free = free_tree cx purpose known t free
free_tree cx purpose known (tree.Set it) (ban, has, more) = (ban, none_anywhere cx known (place_of it) (record { offset = 0; length = 0 }) (leaf_of it) has)

free_leaves : (cx : Context) (purpose : FiltersetKind) (known : KnownGroups) (t : ParsedExpr) → IsFree cx purpose known (tree_of t) → Free cx purpose known (leaves_of t)
free_leaves cx purpose known (tree.Not' op p t) free = free_leaves cx purpose known t free
free_leaves cx purpose known (tree.Union' op p a q b) free = free_both cx purpose known (leaves_of a) (leaves_of b) (free_leaves cx purpose known a free.0) (free_leaves cx purpose known b free.1)
free_leaves cx purpose known (tree.Intersection' op p a q b) free = free_both cx purpose known (leaves_of a) (leaves_of b) (free_leaves cx purpose known a free.0) (free_leaves cx purpose known b free.1)
free_leaves cx purpose known (tree.Difference' op p a q b) free = free_both cx purpose known (leaves_of a) (leaves_of b) (free_leaves cx purpose known a free.0) (free_leaves cx purpose known b free.1)
free_leaves cx purpose known (tree.Parens' p t) free = free_leaves cx purpose known t free
free_leaves cx purpose known (tree.Set it) free = (free.0, none_anywhere cx known (record { offset = 0; length = 0 }) (place_of it) (leaf_of it) free.1, tt)

no_ban : (purpose : FiltersetKind) (span : SourceSpan) (reason : Option BannedPredicateReason) (more : List ParseSingleError) → fault_for purpose span reason ++ more ≡ [] → (reason ≡ None) × (more ≡ [])
no_ban purpose span None more none = (refl, none)
no_ban purpose span (Some reason) more none = cc

no_fault : (first : Option ParseSingleError) (rest : List ParseSingleError) → [] ≡ faults_of_option first ++ rest → (first ≡ None) × ([] ≡ rest)
no_fault None rest none = (refl, none)
no_fault (Some told) rest none = cc

-- they are without faults, where none is listed
are_free : (cx : Context) (purpose : FiltersetKind) (known : KnownGroups) (leaves : List ParsedLeaf) → bans_of purpose leaves ≡ [] → Have cx known leaves [] → Free cx purpose known leaves
are_free cx purpose known [] bans have = tt
are_free cx purpose known (it ∷ leaves) bans (first, rest, same, has, have) =
    let ban = no_ban purpose (place_of it) (ban_of purpose (leaf_of it)) (bans_of purpose leaves) bans in
    let none = no_fault first rest same in
    (ban.0, subst (LeafHas cx known (place_of it) (leaf_of it)) none.0 has, are_free cx purpose known leaves ban.1 (subst (Have cx known leaves) (sym none.1) have))

bans_none : (cx : Context) (purpose : FiltersetKind) (known : KnownGroups) (leaves : List ParsedLeaf) → Free cx purpose known leaves → bans_of purpose leaves ≡ []
bans_none cx purpose known [] free = refl
bans_none cx purpose known (it ∷ leaves) (ban, has, free) =
    ap (λ (reason : Option BannedPredicateReason). fault_for purpose (place_of it) reason ++ bans_of purpose leaves) ban ∙ bans_none cx purpose known leaves free

faults_none : (cx : Context) (purpose : FiltersetKind) (known : KnownGroups) (leaves : List ParsedLeaf) (faults : List ParseSingleError) → Free cx purpose known leaves → Have cx known leaves faults → faults ≡ []
faults_none cx purpose known [] faults free have = have
faults_none cx purpose known (it ∷ leaves) faults (ban, none, free) (None, rest, same, has, have) = same ∙ faults_none cx purpose known leaves rest free have
faults_none cx purpose known (it ∷ leaves) faults (ban, none, free) (Some told, rest, same, has, have) = absurd (not_both cx known (place_of it) (place_of it) (leaf_of it) told none has)

-- ---- texts

-- why a text is refused
pub record Refuses (cx : Context) (purpose : FiltersetKind) (known : KnownGroups) (text : List ℕ) (faults : List ParseSingleError) : Type 0 where
  pub some : faults ≢ []
  pub why : IsRefusedFor cx purpose known text faults
  pub never : (t : Tree) → IsAccepted cx purpose known text t → ⊥

-- a text with faults of its own is refused
pub refused_text : (cx : Context) (purpose : FiltersetKind) (known : KnownGroups) (text : List ℕ) (reading : Reading) → IsReadingOf text reading → reading.faults.items ≢ []
    → Refuses cx purpose known text reading.faults.items
refused_text cx purpose known text reading is some = record {
  some = some;
  why = inl (λ other filterset. some (is.only other filterset).0, is.faithful);
  never = λ t accepted. some (is.only t accepted.0).0;
}

-- so is one that gets no tree
pub refused_treeless : (cx : Context) (purpose : FiltersetKind) (known : KnownGroups) (text : List ℕ) (reading : Reading) → IsReadingOf text reading → reading.tree ≡ None
    → Refuses cx purpose known text reading.faults.items
refused_treeless cx purpose known text reading is none =
    refused_text cx purpose known text reading is (λ clean. let never : reading.tree ≡ Some (is.accepts clean).0 = (is.accepts clean).1 in cc)

-- what a text without faults is
record IsRead (text : List ℕ) (parsed : ParsedExpr) : Type 0 where
  filterset : IsFilterset text (tree_of parsed)
  stands : StandsWhole text parsed
  only : (other : Tree) → IsFilterset text other → other ≡ tree_of parsed

same_some : (a b : ParsedExpr) → Some a ≡ Some b → a ≡ b
same_some a b same = cc

is_read : (text : List ℕ) (reading : Reading) (parsed : ParsedExpr) → IsReadingOf text reading → reading.faults.items ≡ [] → reading.tree ≡ Some parsed → IsRead text parsed
is_read text reading parsed is clean at =
    let found = is.accepts clean in
    let same : found.0 ≡ parsed = same_some found.0 parsed (sym found.1 ∙ at) in
    record {
      filterset = subst (λ (t : ParsedExpr). IsFilterset text (tree_of t)) same found.2;
      stands = subst (StandsWhole text) same found.3;
      only = λ other filterset.
          let one = (is.only other filterset).1 in
          one.2 ∙ ap tree_of (same_some one.0 parsed (sym one.1 ∙ at));
    }

-- one whose predicates have faults is refused
pub refused_predicates : (cx : Context) (purpose : FiltersetKind) (known : KnownGroups) (text : List ℕ) (reading : Reading) (parsed : ParsedExpr) (faults : List ParseSingleError)
    → IsReadingOf text reading → reading.faults.items ≡ [] → reading.tree ≡ Some parsed → faults ≢ []
    → (faults ≡ bans_of purpose (leaves_of parsed)) ⊎ ((bans_of purpose (leaves_of parsed) ≡ []) × Have cx known (leaves_of parsed) faults) → Refuses cx purpose known text faults
refused_predicates cx purpose known text reading parsed faults is clean at some why =
    let read = is_read text reading parsed is clean at in
    record {
      some = some;
      why = inr (parsed, read.filterset, read.stands, why);
      never = λ t accepted.
          let free = free_leaves cx purpose known parsed (subst (IsFree cx purpose known) (read.only t accepted.0) accepted.1) in
          elim why [
            | inl bans ↦ some (bans ∙ bans_none cx purpose known (leaves_of parsed) free)
            | inr others ↦ some (faults_none cx purpose known (leaves_of parsed) faults free others.1)
          ];
    }

-- what is said of a text that is accepted
pub record Accepts (cx : Context) (purpose : FiltersetKind) (known : KnownGroups) (text : List ℕ) (parsed : ParsedExpr) (made : Compiled) : Type 0 where
  pub accepted : IsAccepted cx purpose known text (tree_of parsed)
  pub stands : StandsWhole text parsed
  pub compiled : IsCompiled cx.graph (tree_of parsed) (filter_of made)
  pub leaves : AreCompiled cx.graph (leaves_of parsed) made.leaves

pub accepted_text : (cx : Context) (purpose : FiltersetKind) (known : KnownGroups) (text : List ℕ) (reading : Reading) (parsed : ParsedExpr) (made : Compiled)
    → IsReadingOf text reading → reading.faults.items ≡ [] → reading.tree ≡ Some parsed → IsFiltered cx purpose known parsed (filtered.Filter made) → Accepts cx purpose known text parsed made
accepted_text cx purpose known text reading parsed made is clean at (bans, have, compiled, leaves) =
    let read = is_read text reading parsed is clean at in
    record {
      accepted = (read.filterset, free_tree cx purpose known parsed (are_free cx purpose known (leaves_of parsed) bans have));
      stands = read.stands;
      compiled = compiled;
      leaves = leaves;
    }
