-- Looking at names one after another.
use Rattle.std.proofs.Common.{◌≡◌, ℕ, suc, ◌+◌, ◌<◌, ◌≤◌, ◌==◌, Bool, true, false, not, List, [], ◌∷◌, length, get_or, take, refl, ap, sym, subst, ◌∙◌}
use Rattle.std.specs.Prelude.{All, Contains}
use Rattle.std.proofs.lemmas.Bool.{eqb-true}
use Rattle.std.proofs.lemmas.List.{take_all}
use Rattle.std.proofs.lemmas.List.Elements.{All-more, All-contains}
use Rattle.nextest_filtering_filters.specs.Meaning.{Tells}
use Rattle.nextest_filtering_ast.specs.Matching.{comparison_of, text_of}
use Rattle.nextest_filtering_ast.specs.Meaning.{Compares, MatchesName}
use Rattle.nextest_filtering_ast.specs.Tree.{Comparison, Matcher}
use Rattle.nextest_filtering_ast.specs.declared.matching.NameMatching.{NameMatching}
use Rattle.nextest_filtering_compiling.specs.Context.{Context}
use Rattle.nextest_filtering_compiling.specs.Faults.{NoBinary}

-- what looks at names tells of the matcher's
pub tells_name : (m : Matcher) (names : NameMatching) (name : List ℕ) (answer : Bool) → comparison_of names ≡ m.comparison → text_of names ≡ m.text
    → Tells (Compares (comparison_of names) (text_of names) name) answer → Tells (MatchesName m name) answer
tells_name m names name answer comparison text told =
    subst (λ (words : List ℕ). Tells (Compares m.comparison words name) answer) text
    (subst (λ (by : Comparison). Tells (Compares by (text_of names) name) answer) comparison told)

-- what isn't told isn't so
pub not_so : {So : Type 0} (answer : Bool) → Tells So answer → answer ≡ false → So → ⊥
not_so answer told is so = let holds : answer ≡ true = told.1 so in cc

-- one more has a name that isn't matched
pub none_more : {X : Type 0} (part : X → List ℕ) (m : Matcher) (names : NameMatching) (items : List X) (i : ℕ) (d : X) (name : List ℕ) (answer : Bool) → i < length items
    → comparison_of names ≡ m.comparison → text_of names ≡ m.text → name ≡ part (get_or items i d) → Tells (Compares (comparison_of names) (text_of names) name) answer → answer ≡ false
    → All (λ it. MatchesName m (part it) → ⊥) (take i items) → All (λ it. MatchesName m (part it) → ⊥) (take (i + 1) items)
none_more {X} part m names items i d name answer within comparison text is told fails before =
    All-more (λ (it : X). MatchesName m (part it) → ⊥) items i d within before
    (λ matches. not_so answer (tells_name m names name answer comparison text told) fails (subst (MatchesName m) (sym is) matches))

-- at the end none is matched
pub none_of_all : {X : Type 0} (part : X → List ℕ) (m : Matcher) (items : List X) (i : ℕ) → length items ≤ i
    → All (λ it. MatchesName m (part it) → ⊥) (take i items) → (it : X) → Contains items it → MatchesName m (part it) → ⊥
none_of_all {X} part m items i whole none it among =
    All-contains (λ (one : X). MatchesName m (part one) → ⊥) items it
    (subst (All (λ (one : X). MatchesName m (part one) → ⊥)) (take_all i items whole) none) among

not_zero : (n : ℕ) → (suc n == 0) ≡ false
not_zero n = by_test (suc n == 0) refl
  where
    by_test : (b : Bool) → (suc n == 0) ≡ b → (suc n == 0) ≡ false
    by_test true is = let zero_is : suc n ≡ 0 = eqb-true (suc n) 0 is in cc
    by_test false is = is

-- whether binaries are known tells then that none of them is matched
pub no_binary : (cx : Context) (part : List ℕ × List ℕ → List ℕ) (m : Matcher) (i : ℕ) (items : List (List ℕ × List ℕ)) (empty : Bool) → items ≡ cx.binaries → length cx.binaries ≤ i
    → All (λ it. MatchesName m (part it) → ⊥) (take i cx.binaries) → empty ≡ (length items == 0) → Tells (NoBinary cx part m) (not empty)
no_binary cx part m i items empty same whole none is =
    by_items cx.binaries refl (ap not (is ∙ ap (λ (l : List (List ℕ × List ℕ)). length l == 0) same))
  where
    by_items : (known : List (List ℕ × List ℕ)) → cx.binaries ≡ known → not empty ≡ not (length known == 0) → Tells (NoBinary cx part m) (not empty)
    by_items [] at says = ((λ yes_so. let never : true ≡ false = sym yes_so ∙ says in cc), (λ lacks. absurd (lacks.0 at)))
    by_items (first ∷ more) at says =
        ((λ _. ((λ nothing. let never : first ∷ more ≡ [] = sym at ∙ nothing in cc), none_of_all part m cx.binaries i whole none)), (λ _. says ∙ ap not (not_zero (length more))))
