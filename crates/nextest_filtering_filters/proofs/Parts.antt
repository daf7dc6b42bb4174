-- What a filter is by the values of its predicates.
use Rattle.std.proofs.Common.{◌≡◌, ℕ, Bool, true, false, List, [], ◌∷◌, zero, suc, not, Option, None, Some, refl, sym, ◌∙◌, subst, inl, inr}
use Rattle.std.specs.List.{All, AllZip, list_any}
use Rattle.std.specs.Prelude.{◌||◌, IfSome, is_some}
use Rattle.nextest_filtering_filters.specs.Formula.{AreValues, Formula, Gives, IsValue}
use Rattle.nextest_filtering_filters.specs.Steps.{formula_of}
use Rattle.nextest_filtering_filters.specs.Values.{IsSome, may_by, nowhere, values_at}
use Rattle.nextest_filtering_filters.specs.declared.step.FormulaStep.{FormulaStep}
use Rattle.nextest_filtering_filters.specs.declared.values.Values.{Values}
use Rattle.nextest_filtering_filters.proofs.Giving.{gives_less, gives_one, gives_with, with_gives}
use Rattle.nextest_filtering_ast.specs.Meaning.{MatchesName}
use Rattle.nextest_filtering_ast.specs.Tree.{Matcher, matcher_of}
use Rattle.nextest_filtering_filters.specs.Asking.{AreOn, AreLeafValues, IsKept, IsLeafValue, PartOf, left_by, values_may}
use Rattle.nextest_filtering_filters.specs.Filter.{Compiled, filter_of, is_default, leaf_at}
use Rattle.nextest_filtering_filters.specs.Meaning.{CanBeOn, Either, IsOn, MayBe, Never, Tells}
use Rattle.nextest_filtering_filters.specs.Query.{Binary, Test}
use Rattle.nextest_filtering_filters.specs.declared.leaf.FiltersetLeaf.{FiltersetLeaf}
use Rattle.nextest_filtering_filters.specs.declared.leaf.FiltersetLeaf.TheVariants as leaf
use Rattle.nextest_filtering_filters.proofs.Lists.{all_second}

-- ---- one value that can be

pub is_value_same : (Can Other : Bool → Type 0) → ((b : Bool) → Can b → Other b) → ((b : Bool) → Other b → Can b) → (value : Option Bool) → IsValue Can value → IsValue Other value
is_value_same Can Other there back None both = (there true both.0, there false both.1)
is_value_same Can Other there back (Some value) one = (there value one.0, λ other. one.1 (back (not value) other))

-- ---- a filter by what may be at its places

pub filter_less : (it : Compiled) (May Less : FiltersetLeaf → Bool → Type 0) → ((place : ℕ) (value : Bool) → Less (leaf_at it.leaves place) value → May (leaf_at it.leaves place) value)
    → (value : Bool) → Gives Less (filter_of it) value → Gives May (filter_of it) value
filter_less it May Less less value gives =
    let at = leaf_at it.leaves in
    let steps = formula_of it.steps in
    gives_with at May steps value (gives_less (λ n. May (at n)) (λ n. Less (at n)) less steps value (with_gives at Less steps value gives))

-- values of predicates, place by place
pub place_values : (May : FiltersetLeaf → Bool → Type 0) → AreValues (May leaf.None) nowhere → (leaves : List FiltersetLeaf) (values : List Values) → AllZip (λ it v. AreValues (May it) v × IsSome v) leaves values → (place : ℕ)
    → AreValues (May (leaf_at leaves place)) (values_at values place)
place_values May none [] [] all place = none
place_values May none [] (v ∷ values) all place = absurd all
place_values May none (it ∷ leaves) [] all place = absurd all
place_values May none (it ∷ leaves) (v ∷ values) all zero = all.0.0
place_values May none (it ∷ leaves) (v ∷ values) all (suc place) = place_values May none leaves values all.1 place

may_there : (Can : Bool → Type 0) (at : ℕ → Values) (place : ℕ) → AreValues Can (at place) → (b : Bool) → may_by at place b → Can b
may_there Can at place exact true so = exact.0.0 so
may_there Can at place exact false so = exact.1.0 so

pub may_back : (Can : Bool → Type 0) (at : ℕ → Values) (place : ℕ) → AreValues Can (at place) → (b : Bool) → Can b → may_by at place b
may_back Can at place exact true so = exact.0.1 so
may_back Can at place exact false so = exact.1.1 so

-- the value by values of places is the filter's
pub by_places : (May : FiltersetLeaf → Bool → Type 0) → AreValues (May leaf.None) nowhere → (it : Compiled) (values : List Values) → AllZip (λ l v. AreValues (May l) v × IsSome v) it.leaves values
    → (value : Option Bool) → IsValue (Gives (may_by (values_at values)) (formula_of it.steps)) value → IsValue (Gives May (filter_of it)) value
by_places May none it values all =
    let steps = formula_of it.steps in
    let at = leaf_at it.leaves in
    let exact = place_values May none it.leaves values all in
    is_value_same (Gives (may_by (values_at values)) steps) (Gives May (filter_of it))
    (λ b gives. gives_with at May steps b (gives_less (λ n. May (at n)) (may_by (values_at values)) (λ n. may_there (May (at n)) (values_at values) n (exact n)) steps b gives))
    (λ b gives. gives_less (may_by (values_at values)) (λ n. May (at n)) (λ n. may_back (May (at n)) (values_at values) n (exact n)) steps b (with_gives at May steps b gives))

-- where nothing stands
pub nowhere_false : (Can : Bool → Type 0) → Can false → (Can true → ⊥) → AreValues Can nowhere
nowhere_false Can fails never = (((λ so. absurd cc), (λ can. absurd (never can))), ((λ so. fails), (λ can. refl)))

-- of lists that are lent
lent_value : (values lent : List Values) (steps other : List FormulaStep) (value : Option Bool) → lent ≡ values → other ≡ steps → IsValue (Gives (may_by (values_at lent)) (formula_of other)) value
    → IsValue (Gives (may_by (values_at values)) (formula_of steps)) value
lent_value values lent steps other value same is it =
    subst (λ s. IsValue (Gives (may_by (values_at values)) (formula_of s)) value) is (subst (λ l. IsValue (Gives (may_by (values_at l)) (formula_of other)) value) same it)

pub on_binary : (it : Compiled) (binary : Binary) (default : Values) (values lent : List Values) (steps : List FormulaStep) → AllZip (AreOn binary default) it.leaves values → lent ≡ values → steps ≡ it.steps
    → (value : Option Bool) → IsValue (Gives (may_by (values_at lent)) (formula_of steps)) value → IsValue (Gives (MayBe binary Either Either (values_may default)) (filter_of it)) value
on_binary it binary default values lent steps all same is value one =
    let May = MayBe binary Either Either (values_may default) in
    by_places May (nowhere_false (May leaf.None) refl (λ is. cc)) it values all value (lent_value values lent it.steps steps value same is one)

pub some_on_binary : (binary : Binary) (default : Values) (leaves : List FiltersetLeaf) (values lent : List Values) → AllZip (AreOn binary default) leaves values → lent ≡ values → All IsSome lent
some_on_binary binary default leaves values lent all same = subst (All IsSome) (sym same) (all_second (AreOn binary default) IsSome (λ l v so. so.1) leaves values all)

-- ---- on a test

pub tells_one : (So : Type 0) (a b : Bool) → Tells So a → Tells So b → a ≡ b
tells_one So true true first second = refl
tells_one So false false first second = refl
tells_one So true false first second = sym (second.1 (first.0 refl))
tells_one So false true first second = first.1 (second.0 refl)

-- a predicate is one value where matchers and the default filter are
pub may_one : (binary : Binary) (Name Group : Matcher → Bool → Type 0) (Default : Bool → Type 0) → ((m : Matcher) (a b : Bool) → Name m a → Name m b → a ≡ b)
    → ((m : Matcher) (a b : Bool) → Group m a → Group m b → a ≡ b) → ((a b : Bool) → Default a → Default b → a ≡ b)
    → (it : FiltersetLeaf) (a b : Bool) → MayBe binary Name Group Default it a → MayBe binary Name Group Default it b → a ≡ b
may_one binary Name Group Default name group default (leaf.Packages set) a b first second = first ∙ sym second
may_one binary Name Group Default name group default (leaf.Kind m span) a b first second = tells_one (MatchesName (matcher_of m) binary.kind) a b first second
may_one binary Name Group Default name group default (leaf.Platform p span) a b first second = tells_one (p ≡ binary.platform) a b first second
may_one binary Name Group Default name group default (leaf.Binary m span) a b first second = tells_one (MatchesName (matcher_of m) binary.name) a b first second
may_one binary Name Group Default name group default (leaf.BinaryId m span) a b first second = tells_one (MatchesName (matcher_of m) binary.id) a b first second
may_one binary Name Group Default name group default (leaf.Test m span) a b first second = name (matcher_of m) a b first second
may_one binary Name Group Default name group default (leaf.Group m span) a b first second = group (matcher_of m) a b first second
may_one binary Name Group Default name group default leaf.Default a b first second = default a b first second
may_one binary Name Group Default name group default leaf.All a b first second = first ∙ sym second
may_one binary Name Group Default name group default leaf.None a b first second = first ∙ sym second

-- a filter is one value on a test, where the default filter is
pub told_one : (binary : Binary) (name : List ℕ) (Member : Matcher → Type 0) (Default : Bool → Type 0) → ((a b : Bool) → Default a → Default b → a ≡ b) → (filter : Formula FiltersetLeaf) (a b : Bool)
    → Gives (MayBe binary (λ m. Tells (MatchesName m name)) (λ m. Tells (Member m)) Default) filter a → Gives (MayBe binary (λ m. Tells (MatchesName m name)) (λ m. Tells (Member m)) Default) filter b → a ≡ b
told_one binary name Member Default default filter =
    let Name : Matcher → Bool → Type 0 = λ m. Tells (MatchesName m name) in
    let Group : Matcher → Bool → Type 0 = λ m. Tells (Member m) in
    gives_one (MayBe binary Name Group Default)
    (may_one binary Name Group Default (λ m a b first second. tells_one (MatchesName m name) a b first second) (λ m a b first second. tells_one (Member m) a b first second) default) filter

-- the one value of what has one at most
one_of : (Can : Bool → Type 0) → ((a b : Bool) → Can a → Can b → a ≡ b) → (value : Option Bool) (it : Bool) → ((one : Bool) → value ≡ Some one → it ≡ one) → IsValue Can value → IsValue Can (Some it)
one_of Can single None it is both = absurd (let no_way = single true false both.0 both.1 in cc)
one_of Can single (Some one) it is can = subst (λ v. IsValue Can (Some v)) (sym (is one refl)) can

pub on_test : (it : Compiled) (binary : Binary) (name : List ℕ) (Member : Matcher → Type 0) (default : Bool) (values lent : List Values) (steps : List FormulaStep) → AllZip (AreLeafValues binary name Member default) it.leaves values
    → lent ≡ values → steps ≡ it.steps → (value : Option Bool) (one : Bool) → ((other : Bool) → value ≡ Some other → one ≡ other) → IsValue (Gives (may_by (values_at lent)) (formula_of steps)) value
    → IsValue (Gives (IsLeafValue binary name Member default) (filter_of it)) (Some one)
on_test it binary name Member default values lent steps all same is value one answered given =
    let May = IsLeafValue binary name Member default in
    one_of (Gives May (filter_of it)) (told_one binary name Member (λ other. other ≡ default) (λ a b first second. first ∙ sym second) (filter_of it)) value one answered
    (by_places May (nowhere_false (May leaf.None) refl (λ is. cc)) it values all value (lent_value values lent it.steps steps value same is given))

pub some_on_test : (binary : Binary) (name : List ℕ) (Member : Matcher → Type 0) (default : Bool) (leaves : List FiltersetLeaf) (values lent : List Values) → AllZip (AreLeafValues binary name Member default) leaves values → lent ≡ values
    → All IsSome lent
some_on_test binary name Member default leaves values lent all same =
    subst (All IsSome) (sym same) (all_second (AreLeafValues binary name Member default) IsSome (λ l v so. so.1) leaves values all)

-- ---- the default filter

-- no place asks for what none of the predicates does
pub none_at : (asks : FiltersetLeaf → Bool) → asks leaf.None ≡ false → (leaves : List FiltersetLeaf) (place : ℕ) → list_any asks leaves ≡ false → asks (leaf_at leaves place) ≡ false
none_at asks nothing [] place none = nothing
none_at asks nothing (first ∷ leaves) zero none = by_first (asks first) none
  where
    by_first : (b : Bool) → (b || list_any asks leaves) ≡ false → b ≡ false
    by_first true is = is
    by_first false is = refl
none_at asks nothing (first ∷ leaves) (suc place) none = none_at asks nothing leaves place (by_first (asks first) none)
  where
    by_first : (b : Bool) → (b || list_any asks leaves) ≡ false → list_any asks leaves ≡ false
    by_first true is = cc
    by_first false is = is

pub may_less : (binary : Binary) (Name Group : Matcher → Bool → Type 0) (Default Other : Bool → Type 0) (it : FiltersetLeaf) (value : Bool) → (is_default it ≡ true → Default value → Other value)
    → MayBe binary Name Group Default it value → MayBe binary Name Group Other it value
may_less binary Name Group Default Other (leaf.Packages set) value there may = may
may_less binary Name Group Default Other (leaf.Kind m span) value there may = may
may_less binary Name Group Default Other (leaf.Platform p span) value there may = may
may_less binary Name Group Default Other (leaf.Binary m span) value there may = may
may_less binary Name Group Default Other (leaf.BinaryId m span) value there may = may
may_less binary Name Group Default Other (leaf.Test m span) value there may = may
may_less binary Name Group Default Other (leaf.Group m span) value there may = may
may_less binary Name Group Default Other leaf.Default value there may = there refl may
may_less binary Name Group Default Other leaf.All value there may = may
may_less binary Name Group Default Other leaf.None value there may = may

-- what the default filter may be makes a difference just where it is asked for
pub by_default : (it : Compiled) (binary : Binary) (Name Group : Matcher → Bool → Type 0) (Default Other : Bool → Type 0) → (list_any is_default it.leaves ≡ true → (value : Bool) → Default value → Other value)
    → (value : Bool) → Gives (MayBe binary Name Group Default) (filter_of it) value → Gives (MayBe binary Name Group Other) (filter_of it) value
by_default it binary Name Group Default Other there = by_asked (list_any is_default it.leaves) refl
  where
    by_asked : (asked : Bool) → list_any is_default it.leaves ≡ asked
        → (value : Bool) → Gives (MayBe binary Name Group Default) (filter_of it) value → Gives (MayBe binary Name Group Other) (filter_of it) value
    by_asked true is = filter_less it (MayBe binary Name Group Other) (MayBe binary Name Group Default) (λ place value may. may_less binary Name Group Default Other (leaf_at it.leaves place) value (λ _. there is value) may)
    by_asked false is = filter_less it (MayBe binary Name Group Other) (MayBe binary Name Group Default)
        (λ place value may. may_less binary Name Group Default Other (leaf_at it.leaves place) value (λ here. let never = none_at is_default refl it.leaves place is in absurd cc) may)

-- a filter that doesn't ask for it is the same whatever it may be
pub without_default : (it : Compiled) (binary : Binary) (Name Group : Matcher → Bool → Type 0) (Default Other : Bool → Type 0) → list_any is_default it.leaves ≡ false
    → (value : Option Bool) → IsValue (Gives (MayBe binary Name Group Default) (filter_of it)) value → IsValue (Gives (MayBe binary Name Group Other) (filter_of it)) value
without_default it binary Name Group Default Other none =
    is_value_same (Gives (MayBe binary Name Group Default) (filter_of it)) (Gives (MayBe binary Name Group Other) (filter_of it))
    (by_default it binary Name Group Default Other (λ is. absurd cc)) (by_default it binary Name Group Other Default (λ is. absurd cc))

-- the values that one leaves
pub left_exact : (Can : Bool → Type 0) (value : Option Bool) → IsValue Can value → AreValues Can (left_by value)
left_exact Can None both = (((λ so. both.0), (λ can. refl)), ((λ so. both.1), (λ can. refl)))
left_exact Can (Some true) one = (((λ so. one.0), (λ can. refl)), ((λ so. absurd cc), (λ can. absurd (one.1 can))))
left_exact Can (Some false) one = (((λ so. absurd cc), (λ can. absurd (one.1 can))), ((λ so. one.0), (λ can. refl)))

pub left_some : (value : Option Bool) → IsSome (left_by value)
left_some None = inl refl
left_some (Some true) = inl refl
left_some (Some false) = inr refl

pub can_be : (filter default : Compiled) (binary : Binary) (values : Values) → (list_any is_default filter.leaves ≡ true → AreValues (Gives (MayBe binary Either Either Never) (filter_of default)) values)
    → (value : Option Bool) → IsValue (Gives (MayBe binary Either Either (values_may values)) (filter_of filter)) value → IsValue (CanBeOn (filter_of filter) (filter_of default) binary) value
can_be filter default binary values exact =
    let Can = Gives (MayBe binary Either Either Never) (filter_of default) in
    is_value_same (Gives (MayBe binary Either Either (values_may values)) (filter_of filter)) (CanBeOn (filter_of filter) (filter_of default) binary)
    (by_default filter binary Either Either (values_may values) Can (λ asked. may_there Can (λ number. values) 0 (exact asked)))
    (by_default filter binary Either Either Can (values_may values) (λ asked. may_back Can (λ number. values) 0 (exact asked)))

pub only_value : (Can : Bool → Type 0) (one other : Bool) → IsValue Can (Some one) → Can other → other ≡ one
only_value Can true true is can = refl
only_value Can false false is can = refl
only_value Can true false is can = absurd (is.1 can)
only_value Can false true is can = absurd (is.1 can)

pub is_on : (filter default : Compiled) (test : Test) (Member : Matcher → Type 0) (one : Bool)
    → (list_any is_default filter.leaves ≡ true → IsValue (Gives (MayBe test.binary (λ m. Tells (MatchesName m test.name)) (λ m. Tells (Member m)) Never) (filter_of default)) (Some one))
    → (value : Option Bool) → IsValue (Gives (IsLeafValue test.binary test.name Member one) (filter_of filter)) value → IsValue (IsOn (filter_of filter) (filter_of default) test Member) value
is_on filter default test Member one exact =
    let Name : Matcher → Bool → Type 0 = λ m. Tells (MatchesName m test.name) in
    let Group : Matcher → Bool → Type 0 = λ m. Tells (Member m) in
    let Can = Gives (MayBe test.binary Name Group Never) (filter_of default) in
    is_value_same (Gives (IsLeafValue test.binary test.name Member one) (filter_of filter)) (IsOn (filter_of filter) (filter_of default) test Member)
    (by_default filter test.binary Name Group (λ other. other ≡ one) Can (λ asked other is. subst Can (sym is) (exact asked).0))
    (by_default filter test.binary Name Group Can (λ other. other ≡ one) (λ asked other can. only_value Can one other (exact asked) can))

-- ---- an evaluator of these

pub with_three : {A B C : Type 0} (P : A → B → C → Type 0) (a x : A) (b y : B) (c z : C) → a ≡ x → b ≡ y → c ≡ z → P a b c → P x y z
with_three P a x b y c z first second third it = subst (P x y) third (subst (λ m. P x m c) second (subst (λ m. P m b c) first it))

-- ---- what is kept of a default filter

-- what is so of it where something is kept, is so of it where it is asked for
pub kept_of : (filter default : Compiled) (binary : Binary) (part : Option PartOf) (P : Compiled → Binary → Type 0) → IsKept filter default binary part → IfSome part (λ it. P it.filter it.binary)
    → list_any is_default filter.leaves ≡ true → P default binary
kept_of filter default binary None P kept so asked = cc
kept_of filter default binary (Some part) P kept so asked = subst (P default) kept.1 (subst (λ (f : Compiled). P f part.binary) kept.0 so)

pub kept_asks_not : (filter default : Compiled) (binary : Binary) (part : Option PartOf) → IsKept filter default binary part → list_any is_default default.leaves ≡ false → IfSome part (λ it. list_any is_default it.filter.leaves ≡ false)
kept_asks_not filter default binary None kept none = tt
kept_asks_not filter default binary (Some part) kept none = subst (λ (f : Compiled). list_any is_default f.leaves ≡ false) (sym kept.0) none

-- where nothing is kept, the filter doesn't ask for it
pub nothing_kept : (filter default : Compiled) (binary : Binary) (part : Option PartOf) → is_some part ≡ false → IsKept filter default binary part → list_any is_default filter.leaves ≡ false
nothing_kept filter default binary None none kept = kept
nothing_kept filter default binary (Some part) none kept = cc
