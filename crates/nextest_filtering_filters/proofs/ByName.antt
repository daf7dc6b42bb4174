-- Filters that are asked question by question.
use Rattle.std.proofs.Common.{◌≡◌, ◌<◌, ◌≤◌, ℕ, zero, suc, Bool, true, false, not, ◌||◌, List, [], ◌∷◌, length, Some, refl, sym, ◌∙◌, subst, get_or, arith}
use Rattle.std.specs.Prelude.{⊤}
use Rattle.std.specs.List.{All, AllZip, list_any}
use Rattle.std.proofs.lemmas.List.Elements.{All-head, All-tail}
use Rattle.nextest_filtering_ast.specs.Meaning.{MatchesName}
use Rattle.nextest_filtering_ast.specs.Tree.{Matcher}
use Rattle.nextest_filtering_filters.specs.Asking.{Asking, AreAnswers, AreQuestionsOf, AreOn, IsLeafValue, values_may}
use Rattle.nextest_filtering_filters.specs.Deciding.{HasReadable}
use Rattle.nextest_filtering_filters.specs.Filter.{Compiled, filter_of, is_group, leaf_at}
use Rattle.nextest_filtering_filters.specs.Formula.{Gives, IsValue}
use Rattle.nextest_filtering_filters.specs.Meaning.{Either, IsOn, MayBe, Tells}
use Rattle.nextest_filtering_filters.specs.Query.{Binary, Test}
use Rattle.nextest_filtering_filters.specs.Questions.{comes_to, holds_by}
use Rattle.nextest_filtering_filters.specs.Steps.{formula_of}
use Rattle.nextest_filtering_filters.specs.Values.{may_by, values_at}
use Rattle.nextest_filtering_filters.specs.declared.asked.Asked.{Asked}
use Rattle.nextest_filtering_filters.specs.declared.leaf.FiltersetLeaf.{FiltersetLeaf}
use Rattle.nextest_filtering_filters.specs.declared.leaf.FiltersetLeaf.TheVariants as predicate
use Rattle.nextest_filtering_filters.specs.declared.questions.Questions.{Questions}
use Rattle.nextest_filtering_filters.specs.declared.step.FormulaStep.{FormulaStep}
use Rattle.nextest_filtering_filters.specs.declared.values.Values.{Values}
use Rattle.nextest_filtering_filters.proofs.Deciding.{not_itself, some_told}
use Rattle.nextest_filtering_filters.proofs.Giving.{gives_with}
use Rattle.nextest_filtering_filters.proofs.Parts.{is_value_same, may_back, may_less, may_one, nowhere_false, place_values, tells_one, told_one}
use Rattle.nextest_filtering_filters.proofs.StepsBack.{gives_by}
use Rattle.nextest_filtering_filters.proofs.Sure.{may_wider, same_without_lookup}

-- what holds of each predicate holds at each place
at_place : (P : FiltersetLeaf → Type 0) → P predicate.None → (leaves : List FiltersetLeaf) → All P leaves → (place : ℕ) → P (leaf_at leaves place)
at_place P none [] hold place = none
at_place P none (first ∷ leaves) hold zero = All-head P first leaves hold
at_place P none (first ∷ leaves) hold (suc place) = at_place P none leaves (All-tail P first leaves hold) place

-- what is asked of a predicate, by its number
pub asked_for : (R : FiltersetLeaf → Asked → Type 0) (leaves : List FiltersetLeaf) (them : List Asked) (place : ℕ) (other : Asked) → place < length them → AllZip R leaves them → R (leaf_at leaves place) (get_or them place other)
asked_for R [] [] place other less all = absurd (omega (arith, less))
asked_for R [] (it ∷ them) place other less all = absurd all
asked_for R (first ∷ leaves) [] place other less all = absurd all
asked_for R (first ∷ leaves) (it ∷ them) zero other less all = all.0
asked_for R (first ∷ leaves) (it ∷ them) (suc place) other less all = asked_for R leaves them place other (omega (arith, less)) all.1

-- and where nothing is
pub nothing_for : (R : FiltersetLeaf → Asked → Type 0) (leaves : List FiltersetLeaf) (them : List Asked) (place : ℕ) → length them ≤ place → AllZip R leaves them → leaf_at leaves place ≡ predicate.None
nothing_for R [] them place beyond all = refl
nothing_for R (first ∷ leaves) [] place beyond all = absurd all
nothing_for R (first ∷ leaves) (it ∷ them) zero beyond all = absurd (omega (arith, beyond))
nothing_for R (first ∷ leaves) (it ∷ them) (suc place) beyond all = nothing_for R leaves them place (omega (arith, beyond)) all.1

-- ---- on a test of a name

-- a predicate is one value
pub one_leaf : (binary : Binary) (name : List ℕ) (default : Bool) (it : FiltersetLeaf) (a b : Bool) → IsLeafValue binary name (λ m. ⊥) default it a → IsLeafValue binary name (λ m. ⊥) default it b → a ≡ b
one_leaf binary name default it a b =
    may_one binary (λ m. Tells (MatchesName m name)) (λ m. Tells ⊥) (λ other. other ≡ default) (λ m. tells_one (MatchesName m name)) (λ m. tells_one ⊥) (λ x y first second. first ∙ sym second) it a b

-- and it is some
answers : (binary : Binary) (name : List ℕ) (default : Bool) (leaves : List FiltersetLeaf) → All HasReadable leaves → (number : ℕ) → (b : Bool) × IsLeafValue binary name (λ m. ⊥) default (leaf_at leaves number) b
answers binary name default leaves readable number =
    some_told binary name (λ m. ⊥) (λ m plain. (false, ((λ is. absurd cc), (λ has. absurd has)))) (λ other. other ≡ default) (leaf_at leaves number) (at_place HasReadable tt leaves readable number) (λ is. (default, refl))

-- what the questions come to is what the filter is
pub on_name : (it : Compiled) (binary : Binary) (name : List ℕ) (default : Bool) (questions : Questions) (value : Bool) → All HasReadable it.leaves → AreQuestionsOf binary it questions
    → ((answer : ℕ → Bool) → AreAnswers binary name default it.leaves answer → value ≡ comes_to answer questions)
    → IsValue (Gives (IsLeafValue binary name (λ m. ⊥) default) (filter_of it)) (Some value)
on_name it binary name default questions value readable for_all told =
    let May : FiltersetLeaf → Bool → Type 0 = IsLeafValue binary name (λ m. ⊥) default in
    let at = leaf_at it.leaves in
    let found = answers binary name default it.leaves readable in
    let answer : ℕ → Bool = λ number. (found number).0 in
    let are : AreAnswers binary name default it.leaves answer = λ number. (found number).1 in
    let wide = λ (number : ℕ). may_wider binary (λ m. Tells (MatchesName m name)) (λ m. Tells ⊥) (λ other. other ≡ default) (λ (v : Bool). ⊤) (λ v so. tt) (at number) (answer number) (are number) in
    let is : value ≡ holds_by answer (formula_of it.steps) = told answer are ∙ for_all answer wide in
    let gives = subst (Gives May (filter_of it)) (sym is) (gives_with at May (formula_of it.steps) (holds_by answer (formula_of it.steps)) (gives_by May at answer are (formula_of it.steps))) in
    (gives, λ other. not_itself value (told_one binary name (λ m. ⊥) (λ o. o ≡ default) (λ a b first second. first ∙ sym second) (filter_of it) value (not value) gives other))

-- what is asked of a binary's tests is so, or isn't, on one of this name whose groups nobody knows
abbrev pub IsOnName : Asking → List ℕ → Bool → Type 0
IsOnName it name value = IsValue (IsOn (filter_of it.filter) (filter_of it.default) (record { binary = it.binary; name = name }) (λ matcher. ⊥)) (Some value)

-- and on one whose groups a look-up knows, where none is asked for
pub with_groups : (it : Asking) (name : List ℕ) (Member : Matcher → Type 0) (matters : Bool) (value : Bool) → matters ≡ (list_any is_group it.filter.leaves || list_any is_group it.default.leaves) → matters ≡ false → IsOnName it name value
    → IsValue (IsOn (filter_of it.filter) (filter_of it.default) (record { binary = it.binary; name = name }) Member) (Some value)
with_groups it name Member matters value is never on =
    let test : Test = record { binary = it.binary; name = name } in
    let both = neither (list_any is_group it.filter.leaves) (list_any is_group it.default.leaves) (sym is ∙ never) in
    let same = λ (b : Bool). same_without_lookup (λ (groups : Bool) (t : Test) (m : Matcher). Member m) true it.filter it.default test b both.0 both.1 in
    is_value_same (IsOn (filter_of it.filter) (filter_of it.default) test (λ matcher. ⊥)) (IsOn (filter_of it.filter) (filter_of it.default) test Member) (λ b so. (same b).1 so) (λ b so. (same b).0 so) (Some value) on
  where
    neither : (a b : Bool) → (a || b) ≡ false → (a ≡ false) × (b ≡ false)
    neither true b is = cc
    neither false b is = (refl, is)

-- ---- on a binary

any : (value : Bool) → values_may (record { may_hold = true; may_fail = true }) value
any true = refl
any false = refl

-- questions by the values that predicates may have there
pub for_all : (it : Compiled) (binary : Binary) (default : Values) (values lent : List Values) (steps : List FormulaStep) (questions : Questions) → default ≡ record { may_hold = true; may_fail = true } → AllZip (AreOn binary default) it.leaves values
    → lent ≡ values → steps ≡ it.steps
    → ((answer : ℕ → Bool) → ((number : ℕ) → may_by (values_at lent) number (answer number)) → comes_to answer questions ≡ holds_by answer (formula_of steps))
    → AreQuestionsOf binary it questions
for_all it binary default values lent steps questions is all same steps_are told answer may =
    let at = leaf_at it.leaves in
    let Can = MayBe binary Either Either (values_may default) in
    let exact = place_values Can (nowhere_false (Can predicate.None) refl (λ no. cc)) it.leaves values all in
    let there = λ (value : Bool). subst (λ (v : Values). values_may v value) (sym is) (any value) in
    let by_values = λ (number : ℕ). subst (λ (l : List Values). may_by (values_at l) number (answer number)) (sym same)
    (may_back (Can (at number)) (values_at values) number (exact number) (answer number) (may_less binary Either Either (λ (v : Bool). ⊤) (values_may default) (at number) (answer number) (λ asked so. there (answer number)) (may number))) in
    subst (λ (l : List FormulaStep). comes_to answer questions ≡ holds_by answer (formula_of l)) steps_are (told answer by_values)
