-- What filters answer of binaries and tests: there is an answer, and it is one.
use Rattle.std.proofs.Common.{◌≡◌, ℕ, Bool, true, false, not, List, [], ◌∷◌, map, Some, refl}
use Rattle.std.specs.Bool.{beq}
use Rattle.std.specs.List.{All}
use Rattle.std.specs.Option.{option_eq}
use Rattle.std.proofs.lemmas.List.Elements.{All-nil, All-cons, All-head, All-tail}
use Rattle.nextest_filtering_filters.specs.Deciding.{AllLeaves, AreReadable, IsReadable}
use Rattle.nextest_filtering_filters.specs.Filter.{Compiled, filter_of, is_default}
use Rattle.nextest_filtering_filters.specs.Formula.{Formula}
use Rattle.nextest_filtering_filters.specs.Meaning.{CanBeOn, IsOn, Tells}
use Rattle.nextest_filtering_filters.specs.Query as query
use Rattle.nextest_filtering_filters.specs.declared.leaf.FiltersetLeaf.{FiltersetLeaf}
use Rattle.nextest_filtering_filters.proofs.Deciding.{decided_on_binary, decided_on_test}
use Rattle.nextest_filtering_filters.proofs.Parts.{tells_one}
use Rattle.nextest_filtering_filters.proofs.Sure.{one_on_test}
use Rattle.nextest_filtering_ast.specs.Tree.{Matcher}
use Rattle.test_runner_core_listing.specs.Answers.{Answers, AreAnswers, AnswerAs, query_of, seen_test}
use Rattle.test_runner_core_listing.proofs.Told.{can_hold}
use Rattle.test_runner_core_workspace.specs.declared.record.Binary.{Binary}

-- ---- there is an answer

-- whether all are so, by whether the first is and whether the others are
all_told : {X : Type 0} (P : X → Type 0) (x : X) (xs : List X) (one more : Bool) → Tells (P x) one → Tells (All P xs) more → (b : Bool) × Tells (All P (x ∷ xs)) b
all_told P x xs true true first rest = (true, ((λ e. All-cons P x xs (first.0 refl) (rest.0 refl)), (λ all. refl)))
all_told P x xs true false first rest = (false, ((λ e. absurd cc), (λ all. rest.1 (All-tail P x xs all))))
all_told P x xs false more first rest = (false, ((λ e. absurd cc), (λ all. first.1 (All-head P x xs all))))

decided_all : {X Y : Type 0} (f : X → Y) (P : Y → Type 0) (Readable : X → Type 0) → ((x : X) → Readable x → (b : Bool) × Tells (P (f x)) b) → (xs : List X) → All Readable xs → (b : Bool) × Tells (All P (map f xs)) b
decided_all f P Readable decided [] readable = (true, ((λ e. All-nil P), (λ all. refl)))
decided_all f P Readable decided (x ∷ xs) readable =
    let first = decided x (All-head Readable x xs readable) in
    let rest = decided_all f P Readable decided xs (All-tail Readable x xs readable) in
    all_told P (f x) (map f xs) first.0 rest.0 first.1 rest.1

-- a filter can hold on a binary, or can't
decided_can : (filter default : Compiled) (binary : query.Binary) → AreReadable (filter_of filter) → AreReadable (filter_of default) → AllLeaves (λ it. is_default it ≡ false) (filter_of default)
    → (b : Bool) × Tells (CanBeOn (filter_of filter) (filter_of default) binary true) b
decided_can filter default binary readable default_readable none =
    let value = decided_on_binary filter default readable default_readable none binary in
    (not (option_eq beq value.0 (Some false)), can_hold (CanBeOn (filter_of filter) (filter_of default) binary) value.0 value.1)

one_told : (Is : Bool → Type 0) → ((a b : Bool) → Is a → Is b → a ≡ b) → (value : Bool) → Is value → Tells (Is true) value
one_told Is one true is = ((λ e. is), (λ has. refl))
one_told Is one false is = ((λ e. absurd cc), (λ has. one false true is has))

-- it holds on a test, or doesn't
decided_is : (filter default : Compiled) (test : query.Test) (Member : Matcher → Type 0) → ((m : Matcher) → IsReadable m → (b : Bool) × Tells (Member m) b)
    → AreReadable (filter_of filter) → AreReadable (filter_of default) → AllLeaves (λ it. is_default it ≡ false) (filter_of default)
    → (b : Bool) × Tells (IsOn (filter_of filter) (filter_of default) test Member true) b
decided_is filter default test Member member readable default_readable none =
    let on = decided_on_test filter default readable default_readable none test Member member in
    (on.0, one_told (IsOn (filter_of filter) (filter_of default) test Member) (one_on_test (filter_of filter) (filter_of default) test Member) on.0 on.1)

pub has_answers : (Member : query.Test → Matcher → Type 0) (filters : List Compiled) (default : Compiled) → ((test : query.Test) (m : Matcher) → IsReadable m → (b : Bool) × Tells (Member test m) b)
    → All (λ filter. AreReadable (filter_of filter)) filters → AreReadable (filter_of default) → AllLeaves (λ it. is_default it ≡ false) (filter_of default)
    → (answers : Answers) × AnswerAs filters default Member answers
has_answers Member filters default member readable default_readable none = (
  record { lists = λ binary. (listed binary).0; selects = λ binary name. (selected binary name).0 },
  record { lists = λ binary. (listed binary).1; selects = λ binary name. (selected binary name).1 },
)
  where
    listed : (binary : Binary) → (b : Bool) × Tells (All (λ (filter : Formula FiltersetLeaf). CanBeOn filter (filter_of default) (query_of binary) true) (map filter_of filters)) b
    listed binary =
        decided_all filter_of (λ (filter : Formula FiltersetLeaf). CanBeOn filter (filter_of default) (query_of binary) true) (λ (filter : Compiled). AreReadable (filter_of filter))
        (λ filter filter_readable. decided_can filter default (query_of binary) filter_readable default_readable none) filters readable

    selected : (binary : Binary) (name : List ℕ)
        → (b : Bool) × Tells (All (λ (filter : Formula FiltersetLeaf). IsOn filter (filter_of default) (seen_test binary name) (Member (seen_test binary name)) true) (map filter_of filters)) b
    selected binary name =
        let test = seen_test binary name in
        decided_all filter_of (λ (filter : Formula FiltersetLeaf). IsOn filter (filter_of default) test (Member test) true) (λ (filter : Compiled). AreReadable (filter_of filter))
        (λ filter filter_readable. decided_is filter default test (Member test) (member test) filter_readable default_readable none) filters readable

-- ---- it is one

pub answers_once : (Member : query.Test → Matcher → Type 0) (filters : List (Formula FiltersetLeaf)) (default : Formula FiltersetLeaf) (a b : Answers)
    → AreAnswers filters default Member a → AreAnswers filters default Member b → a ≡ b
answers_once Member filters default a b first second = λ i. record {
  lists = λ binary. tells_one (All (λ (filter : Formula FiltersetLeaf). CanBeOn filter default (query_of binary) true) filters) (a.lists binary) (b.lists binary) (first.lists binary) (second.lists binary) i;
  selects = λ binary name.
      tells_one (All (λ (filter : Formula FiltersetLeaf). IsOn filter default (seen_test binary name) (Member (seen_test binary name)) true) filters) (a.selects binary name) (b.selects binary name)
      (first.selects binary name) (second.selects binary name) i;
}
