-- Every question of a filter has an answer.
use Rattle.std.proofs.Common.{◌≡◌, ◌⊎◌, ℕ, Bool, true, false, List, [], ◌∷◌, ◌++◌, drop, get_or, not, Option, None, Some, refl, sym, ap, subst, inl, inr}
use Rattle.std.specs.BTreeSet.{contains_text}
use Rattle.std.specs.Bool.{Decides}
use Rattle.std.specs.Option.{IsSomeAnd}
use Rattle.std.specs.Prelude.{chars, is_some}
use Rattle.std.specs.Str.{bytes_eq}
use Rattle.std.specs.Str.Iter.{HasSubslice}
use Rattle.std.proofs.lemmas.Bool.Decides.{Decides-eqb}
use Rattle.std.proofs.lemmas.Slice.Eq.{bytes_eq-Decides}
use Rattle.regex.specs.Patterns.{default_config, find_str}
use Rattle.regex_syntax.specs.Grammar.{read}
use Rattle.nextest_filtering_filters.specs.Formula.{AreValues, Formula, Gives, IsValue, both, both_gives, either, either_gives, leaf, leaf_gives, negated, negated_gives, with_leaves}
use Rattle.nextest_filtering_filters.specs.Steps.{formula_of}
use Rattle.nextest_filtering_filters.specs.Values.{IsSome, one_value}
use Rattle.nextest_filtering_filters.specs.Waiting.{AreOf}
use Rattle.nextest_filtering_filters.specs.declared.values.Values.{Values}
use Rattle.nextest_filtering_filters.proofs.Giving.{gives_with, is_value, leaf_values, values_both, values_either, values_negated, with_gives}
use Rattle.nextest_filtering_globs.specs.Inside.{has_last, run, start_of, state}
use Rattle.nextest_filtering_globs.specs.Meaning.{Matches}
use Rattle.nextest_filtering_globs.specs.declared.token.GlobToken.{GlobToken}
use Rattle.nextest_filtering_globs.proofs.Fold.{answers}
use Rattle.nextest_filtering_globs.proofs.Unique.{one_list}
use Rattle.nextest_filtering_ast.specs.Meaning.{Compares, MatchesName}
use Rattle.nextest_filtering_ast.specs.Tree.{Comparison, IsGlobText, Matcher, contains, equal, glob, matcher_of, regex}
use Rattle.nextest_filtering_ast.specs.declared.leaf.BuildPlatform.{BuildPlatform}
use Rattle.nextest_filtering_ast.specs.declared.leaf.BuildPlatform.TheVariants as platform
use Rattle.nextest_filtering_filters.specs.Asking.{left_by}
use Rattle.nextest_filtering_filters.specs.Deciding.{AllLeaves, AreReadable, HasReadable, IsReadable}
use Rattle.nextest_filtering_filters.specs.Filter.{Compiled, filter_of, is_default, leaf_at}
use Rattle.nextest_filtering_filters.specs.Meaning.{CanBeOn, Either, IsOn, MayBe, Never, Tells}
use Rattle.nextest_filtering_filters.specs.Query.{Binary, Test}
use Rattle.nextest_filtering_filters.specs.declared.leaf.FiltersetLeaf.{FiltersetLeaf}
use Rattle.nextest_filtering_filters.specs.declared.leaf.FiltersetLeaf.TheVariants as predicate
use Rattle.nextest_filtering_filters.proofs.Parts.{left_exact, left_some, tells_one}

-- ---- it is so, or isn't

told : (So : Type 0) → So ⊎ (So → ⊥) → (b : Bool) × Tells So b
told So (inl so) = (true, ((λ is. so), (λ has. refl)))
told So (inr never) = (false, ((λ is. absurd cc), (λ has. absurd (never has))))

by_decision : (r : Bool) (So : Type 0) → Decides r So → So ⊎ (So → ⊥)
by_decision true So exact = inl (exact.0 refl)
by_decision false So exact = inr (λ has. let never = exact.1 has in cc)

-- ---- names

-- the text begins with this
begins : (x text : List ℕ) → ((rest : List ℕ) × (text ≡ x ++ rest)) ⊎ ((rest : List ℕ) × (text ≡ x ++ rest) → ⊥)
begins [] text = inl (text, refl)
begins (c ∷ x) [] = inr (λ has. let is = has.1 in cc)
begins (c ∷ x) (d ∷ text) = by_first (by_decision _ (d ≡ c) (Decides-eqb d c)) (begins x text)
  where
    by_first : (d ≡ c) ⊎ (d ≡ c → ⊥) → ((rest : List ℕ) × (text ≡ x ++ rest)) ⊎ ((rest : List ℕ) × (text ≡ x ++ rest) → ⊥)
        → ((rest : List ℕ) × (d ∷ text ≡ c ∷ (x ++ rest))) ⊎ ((rest : List ℕ) × (d ∷ text ≡ c ∷ (x ++ rest)) → ⊥)
    by_first (inr other) more = inr (λ has. other (ap (λ (l : List ℕ). get_or l 0 0) has.1))
    by_first (inl same) (inr never) = inr (λ has. never (has.0, ap (λ (l : List ℕ). drop 1 l) has.1))
    by_first (inl same) (inl has) = inl (has.0, (λ i. same i ∷ has.1 i))

-- the text has this as a part
has_part : (x text : List ℕ) → HasSubslice text x ⊎ (HasSubslice text x → ⊥)
has_part x [] = by_front (begins x [])
  where
    by_front : ((rest : List ℕ) × ([] ≡ x ++ rest)) ⊎ ((rest : List ℕ) × ([] ≡ x ++ rest) → ⊥) → HasSubslice [] x ⊎ (HasSubslice [] x → ⊥)
    by_front (inl has) = inl ([], has.0, has.1)
    by_front (inr never) = inr (λ has. not_there has.0 has.1 has.2)
      where
        not_there : (front back : List ℕ) → [] ≡ front ++ (x ++ back) → ⊥
        not_there [] back is = never (back, is)
        not_there (c ∷ front) back is = cc
has_part x (d ∷ text) = by_front (begins x (d ∷ text)) (has_part x text)
  where
    by_front : ((rest : List ℕ) × (d ∷ text ≡ x ++ rest)) ⊎ ((rest : List ℕ) × (d ∷ text ≡ x ++ rest) → ⊥) → HasSubslice text x ⊎ (HasSubslice text x → ⊥)
        → HasSubslice (d ∷ text) x ⊎ (HasSubslice (d ∷ text) x → ⊥)
    by_front (inl has) later = inl ([], has.0, has.1)
    by_front (inr never) (inl has) = inl (d ∷ has.0, has.1, ap (λ (l : List ℕ). d ∷ l) has.2)
    by_front (inr never) (inr later) = inr (λ has. not_there has.0 has.1 has.2)
      where
        not_there : (front back : List ℕ) → d ∷ text ≡ front ++ (x ++ back) → ⊥
        not_there [] back is = never (back, is)
        not_there (c ∷ front) back is = later (front, back, ap (λ (l : List ℕ). drop 1 l) is)

some_and : {T : Type 0} (o : Option T) (test : T → Bool) → (b : Bool) × Tells (IsSomeAnd o (λ x. test x ≡ true)) b
some_and None test = (false, ((λ is. absurd cc), (λ has. absurd has)))
some_and (Some x) test = (test x, ((λ is. is), (λ has. has)))

of_glob : (text name : List ℕ) → IsGlobText text → (b : Bool) × Tells (Compares glob text name) b
of_glob text name spelled =
    let tokens = spelled.0 in
    let places = (run (chars name) tokens (state (start_of (chars name)) [])).current in
    let exact = answers tokens (chars text) (chars name) places spelled.1 refl in (
      has_last places,
      (
        (λ is. (tokens, spelled.1, exact.0 is)),
        (λ has. exact.1 (subst (λ (t : List GlobToken). Matches t (chars name)) (one_list 0 has.0 tokens (chars text) has.1 spelled.1) has.2)),
      ),
    )

compares : (how : Comparison) (text name : List ℕ) → (how ≡ glob → IsGlobText text) → (b : Bool) × Tells (Compares how text name) b
compares equal text name readable = (bytes_eq name text, bytes_eq-Decides name text)
compares contains text name readable = told (HasSubslice name text) (has_part text name)
compares glob text name readable = of_glob text name (readable refl)
compares regex text name readable = some_and (read default_config (chars text)) (λ x. is_some (find_str x.0.value name 0))

-- a matcher matches a name, or doesn't
pub decided_name : (m : Matcher) (name : List ℕ) → IsReadable m → (b : Bool) × Tells (MatchesName m name) b
decided_name m name readable = compares m.comparison m.text name readable

-- ---- predicates

platforms : (p q : BuildPlatform) → (p ≡ q) ⊎ (p ≡ q → ⊥)
platforms platform.Target platform.Target = inl refl
platforms platform.Host platform.Host = inl refl
platforms platform.Target platform.Host = inr (λ is. cc)
platforms platform.Host platform.Target = inr (λ is. cc)

-- on a test a predicate holds, or doesn't
pub some_told : (binary : Binary) (name : List ℕ) (Member : Matcher → Type 0) → ((m : Matcher) → IsReadable m → (b : Bool) × Tells (Member m) b) → (Default : Bool → Type 0) (it : FiltersetLeaf) → HasReadable it
    → (is_default it ≡ true → (b : Bool) × Default b) → (b : Bool) × MayBe binary (λ m. Tells (MatchesName m name)) (λ m. Tells (Member m)) Default it b
some_told binary name Member member Default (predicate.Packages set) readable default = (contains_text set binary.package_id, refl)
some_told binary name Member member Default (predicate.Kind m span) readable default = decided_name (matcher_of m) binary.kind readable
some_told binary name Member member Default (predicate.Platform p span) readable default = told (p ≡ binary.platform) (platforms p binary.platform)
some_told binary name Member member Default (predicate.Binary m span) readable default = decided_name (matcher_of m) binary.name readable
some_told binary name Member member Default (predicate.BinaryId m span) readable default = decided_name (matcher_of m) binary.id readable
some_told binary name Member member Default (predicate.Test m span) readable default = decided_name (matcher_of m) name readable
some_told binary name Member member Default (predicate.Group m span) readable default = member (matcher_of m) readable
some_told binary name Member member Default predicate.Default readable default = default refl
some_told binary name Member member Default predicate.All readable default = (true, refl)
some_told binary name Member member Default predicate.None readable default = (false, refl)

-- ---- all leaves of a formula

leaves_both : {L : Type 0} (Holds Other : L → Type 0) (formula : Formula L) → AllLeaves Holds formula → AllLeaves Other formula → AllLeaves (λ it. Holds it × Other it) formula
leaves_both Holds Other (leaf it) hold also = (hold, also)
leaves_both Holds Other (negated inside) hold also = leaves_both Holds Other inside hold also
leaves_both Holds Other (either left right) hold also = (leaves_both Holds Other left hold.0 also.0, leaves_both Holds Other right hold.1 also.1)
leaves_both Holds Other (both left right) hold also = (leaves_both Holds Other left hold.0 also.0, leaves_both Holds Other right hold.1 also.1)

-- of one with another leaf for each
leaves_with : {L M : Type 0} (change : L → M) (Holds : M → Type 0) (formula : Formula L) → AllLeaves Holds (with_leaves change formula) → AllLeaves (λ it. Holds (change it)) formula
leaves_with change Holds (leaf it) hold = hold
leaves_with change Holds (negated inside) hold = leaves_with change Holds inside hold
leaves_with change Holds (either left right) hold = (leaves_with change Holds left hold.0, leaves_with change Holds right hold.1)
leaves_with change Holds (both left right) hold = (leaves_with change Holds left hold.0, leaves_with change Holds right hold.1)

-- the predicates of a default filter
abbrev IsInDefault : FiltersetLeaf → Type 0
IsInDefault it = HasReadable it × (is_default it ≡ false)

-- ---- on a test

-- a formula is something where its leaves are
gives_some : {L : Type 0} (May : L → Bool → Type 0) (Holds : L → Type 0) → ((it : L) → Holds it → (b : Bool) × May it b) → (formula : Formula L) → AllLeaves Holds formula → (b : Bool) × Gives May formula b
gives_some May Holds some (leaf it) hold = let made = some it hold in (made.0, leaf_gives it made.0 made.1)
gives_some May Holds some (negated inside) hold = let made = gives_some May Holds some inside hold in (not made.0, negated_gives inside made.0 made.1)
gives_some May Holds some (either left right) hold =
    let one = gives_some May Holds some left hold.0 in
    let other = gives_some May Holds some right hold.1 in
    (_, either_gives left right one.0 other.0 one.1 other.1)
gives_some May Holds some (both left right) hold =
    let one = gives_some May Holds some left hold.0 in
    let other = gives_some May Holds some right hold.1 in
    (_, both_gives left right one.0 other.0 one.1 other.1)

-- a filter holds on a test, or doesn't
pub decided_on_test : (filter default : Compiled) → AreReadable (filter_of filter) → AreReadable (filter_of default) → AllLeaves (λ it. is_default it ≡ false) (filter_of default) → (test : Test) (Member : Matcher → Type 0)
    → ((m : Matcher) → IsReadable m → (b : Bool) × Tells (Member m) b) → (b : Bool) × IsOn (filter_of filter) (filter_of default) test Member b
decided_on_test filter default readable default_readable none test Member member =
    let Known = MayBe test.binary (λ m. Tells (MatchesName m test.name)) (λ m. Tells (Member m)) in
    let known = some_told test.binary test.name Member member in
    let inner = gives_some (Known Never) IsInDefault (λ it (readable, never). known Never it readable (λ is. absurd cc)) (filter_of default)
    (leaves_both HasReadable (λ it. is_default it ≡ false) (filter_of default) default_readable none) in
    let Default = Gives (Known Never) (filter_of default) in
    gives_some (Known Default) HasReadable (λ it readable. known Default it readable (λ is. inner)) (filter_of filter) readable

-- ---- on a binary

-- the values that can be, of which there are some
record Exact (Can : Bool → Type 0) : Type 0 where
  values : Values
  exact : AreValues Can values
  some : IsSome values

pub not_itself : (b : Bool) → b ≡ not b → ⊥
not_itself true is = cc
not_itself false is = cc

exactly : (Can : Bool → Type 0) (value : Option Bool) → IsValue Can value → Exact Can
exactly Can value is = record { values = left_by value; exact = left_exact Can value is; some = left_some value }

exactly_told : (So : Type 0) → (b : Bool) × Tells So b → Exact (Tells So)
exactly_told So it = exactly (Tells So) (Some it.0) (it.1, λ other. not_itself it.0 (tells_one So it.0 (not it.0) it.1 other))

exactly_one : (b : Bool) → Exact (λ value. value ≡ b)
exactly_one b = exactly (λ value. value ≡ b) (Some b) (refl, λ other. not_itself b (sym other))

exact_on : (binary : Binary) (Default : Bool → Type 0) (it : FiltersetLeaf) → HasReadable it → (is_default it ≡ true → Exact Default) → Exact (MayBe binary Either Either Default it)
exact_on binary Default (predicate.Packages set) readable default = exactly_one (contains_text set binary.package_id)
exact_on binary Default (predicate.Kind m span) readable default = exactly_told (MatchesName (matcher_of m) binary.kind) (decided_name (matcher_of m) binary.kind readable)
exact_on binary Default (predicate.Platform p span) readable default = exactly_told (p ≡ binary.platform) (told (p ≡ binary.platform) (platforms p binary.platform))
exact_on binary Default (predicate.Binary m span) readable default = exactly_told (MatchesName (matcher_of m) binary.name) (decided_name (matcher_of m) binary.name readable)
exact_on binary Default (predicate.BinaryId m span) readable default = exactly_told (MatchesName (matcher_of m) binary.id) (decided_name (matcher_of m) binary.id readable)
exact_on binary Default (predicate.Test m span) readable default = exactly (Either (matcher_of m)) None (tt, tt)
exact_on binary Default (predicate.Group m span) readable default = exactly (Either (matcher_of m)) None (tt, tt)
exact_on binary Default predicate.Default readable default = default refl
exact_on binary Default predicate.All readable default = exactly_one true
exact_on binary Default predicate.None readable default = exactly_one false

from_of : (May : ℕ → Bool → Type 0) (formula : Formula ℕ) (values : Values) → AreOf May formula values → Exact (Gives May formula)
from_of May formula values of = record { values = values; exact = of.0; some = of.1 }

exact_formula : (May : ℕ → Bool → Type 0) (Holds : ℕ → Type 0) → ((place : ℕ) → Holds place → Exact (May place)) → (formula : Formula ℕ) → AllLeaves Holds formula → Exact (Gives May formula)
exact_formula May Holds there (leaf place) hold = let it = there place hold in from_of May (leaf place) it.values (leaf_values May place it.values it.exact it.some)
exact_formula May Holds there (negated inside) hold = let it = exact_formula May Holds there inside hold in from_of May (negated inside) _ (values_negated May inside it.values (it.exact, it.some))
exact_formula May Holds there (either left right) hold =
    let one = exact_formula May Holds there left hold.0 in
    let other = exact_formula May Holds there right hold.1 in
    from_of May (either left right) _ (values_either May left right one.values other.values (one.exact, one.some) (other.exact, other.some))
exact_formula May Holds there (both left right) hold =
    let one = exact_formula May Holds there left hold.0 in
    let other = exact_formula May Holds there right hold.1 in
    from_of May (both left right) _ (values_both May left right one.values other.values (one.exact, one.some) (other.exact, other.some))

exact_filter : (it : Compiled) (May : FiltersetLeaf → Bool → Type 0) (Holds : FiltersetLeaf → Type 0) → ((one : FiltersetLeaf) → Holds one → Exact (May one)) → AllLeaves Holds (filter_of it) → Exact (Gives May (filter_of it))
exact_filter it May Holds there hold =
    let at = leaf_at it.leaves in
    let steps = formula_of it.steps in
    let made = exact_formula (λ n. May (at n)) (λ n. Holds (at n)) (λ n. there (at n)) steps (leaves_with at Holds steps hold) in
    let to = gives_with at May steps in
    let from = with_gives at May steps in
    record {
      values = made.values;
      exact = (((λ so. to true (made.exact.0.0 so)), (λ gives. made.exact.0.1 (from true gives))), ((λ so. to false (made.exact.1.0 so)), (λ gives. made.exact.1.1 (from false gives))));
      some = made.some;
    }

-- a filter has one value on a binary, or can be both
pub decided_on_binary : (filter default : Compiled) → AreReadable (filter_of filter) → AreReadable (filter_of default) → AllLeaves (λ it. is_default it ≡ false) (filter_of default) → (binary : Binary)
    → (v : Option Bool) × IsValue (CanBeOn (filter_of filter) (filter_of default) binary) v
decided_on_binary filter default readable default_readable none binary =
    let Wide = MayBe binary Either Either in
    let inner = exact_filter default (Wide Never) IsInDefault (λ it (readable, never). exact_on binary Never it readable (λ is. absurd cc))
    (leaves_both HasReadable (λ it. is_default it ≡ false) (filter_of default) default_readable none) in
    let Default = Gives (Wide Never) (filter_of default) in
    let made = exact_filter filter (Wide Default) HasReadable (λ it readable. exact_on binary Default it readable (λ is. inner)) readable in
    (one_value made.values, is_value (CanBeOn (filter_of filter) (filter_of default) binary) made.values made.exact made.some)
