-- Whole texts.
use Rattle.std.specs.Prelude.{◌≡◌, ◌≢◌, refl, ℕ, List, [], ◌∷◌, length, Some, None, Result, Ok, Err, IfSome}
use Rattle.std.proofs.Common.{arith}
use Rattle.std.proofs.Math.Path.{ap, sym, subst, ◌∙◌}
use Rattle.nextest_filtering_syntax.specs.declared.tree.ParsedExpr.{ParsedExpr}
use Rattle.nextest_filtering_ast.specs.Tree.{Tree}
use Rattle.nextest_filtering_syntax.specs.Parsed.{tree_of}
use Rattle.nextest_filtering_ast.specs.Grammar.{IsFilterset}
use Rattle.nextest_filtering_arguments.specs.declared.error.ParseSingleError.{ParseSingleError}
use Rattle.nextest_filtering_arguments.specs.declared.stop.Stop.{Stop}
use Rattle.nextest_filtering_arguments.specs.declared.stop.Stop.TheVariants.{NoTree}
use Rattle.nextest_filtering_arguments.specs.Faults.{AreFaultsOf}
use Rattle.nextest_filtering_syntax.proofs.Leaves.{some_is, none_is_not}
use Rattle.nextest_filtering_syntax.specs.Places.{ArePlaced, StandsWhole}
use Rattle.nextest_filtering_syntax.specs.Reading.{ReadsWhole, IsReadingOf}
use Rattle.nextest_filtering_syntax.specs.declared.reading.Reading.{Reading}

no_length : (list : List ParseSingleError) → length list ≡ 0 → list ≡ []
no_length [] e = refl
no_length (x ∷ xs) e = absurd (Prim.omega (arith, e))

-- a tree that was made
pub reading_tree : (text input : List ℕ) (tree : ParsedExpr) (r : Reading) (list : List ParseSingleError) → r.tree ≡ Some tree → r.faults.items ≡ list → input ≡ text
    → AreFaultsOf input r.faults.items → ReadsWhole text (length list) (Ok tree) → ArePlaced text tree → (length list ≡ 0 → StandsWhole text tree) → IsReadingOf text r
reading_tree text input tree r list is items same faithful whole placed stands = record {
  accepts = λ none. let no_fault = ap length (sym items ∙ none) in (tree, is, whole.0 no_fault, stands no_fault);
  only = λ other reads.
      let known = whole.1 other reads in
      (items ∙ no_length list known.0, (tree, is, known.1));
  faithful = subst (λ l. AreFaultsOf l r.faults.items) same faithful;
  placed = subst (λ found. IfSome found (ArePlaced text)) (sym is) placed;
}

-- no tree
pub reading_none : (text input : List ℕ) (e : Stop) (o : Result ParsedExpr Stop) (r : Reading) (list : List ParseSingleError) → o ≡ Err e → e ≡ NoTree → r.faults.items ≡ list → input ≡ text
    → AreFaultsOf input r.faults.items → ReadsWhole text (length list) o → r.tree ≡ None → IsReadingOf text r
reading_none text input e o r list fails none items same faithful whole no_tree =
    let known = subst (ReadsWhole text (length list)) (fails ∙ ap Err none) whole in
    record {
      accepts = λ empty. absurd (Prim.omega (arith, known.0, ap length (sym items ∙ empty)));
      only = λ other reads. absurd (known.1 other reads);
      faithful = subst (λ l. AreFaultsOf l r.faults.items) same faithful;
      placed = subst (λ found. IfSome found (ArePlaced text)) (sym no_tree) tt;
    }

pub parse_some : (text : List ℕ) (r : Reading) (t : ParsedExpr) → r.tree ≡ Some t → IsReadingOf text r
    → ((other : Tree) → IsFilterset text other → (other ≡ tree_of t) × StandsWhole text t) × ArePlaced text t
parse_some text r t is reading = (
  (λ other reads.
      let known = reading.only other reads in
      let accepted = reading.accepts known.0 in (
        known.1.2 ∙ ap tree_of (some_is known.1.0 t (sym known.1.1 ∙ is)),
        subst (StandsWhole text) (some_is accepted.0 t (sym accepted.1 ∙ is)) accepted.3,
      )),
  subst (λ found. IfSome found (ArePlaced text)) is reading.placed,
)

pub parse_none : (text : List ℕ) (r : Reading) → r.tree ≡ None → IsReadingOf text r
    → (r.faults.items ≢ []) × AreFaultsOf text r.faults.items × ((other : Tree) → IsFilterset text other → ⊥)
parse_none text r is reading = (
  (λ none. none_is_not (reading.accepts none).0 (sym is ∙ (reading.accepts none).1)),
  reading.faithful,
  (λ other reads. none_is_not (reading.only other reads).1.0 (sym is ∙ (reading.only other reads).1.1)),
)
