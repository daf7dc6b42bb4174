-- Packages that are named, and those that are asked for.
use Rattle.std.proofs.Common.{◌≡◌, ℕ, ◌+◌, ◌<◌, ◌≤◌, ◌==◌, zero, suc, ◌⊎◌, inl, inr, Bool, true, false, cond, List, [], ◌∷◌, ◌++◌, length, get_or, String, string_bytes, Global, refl, ap, sym, subst, ◌∙◌, arith}
use Rattle.std.specs.Prelude.{All, Contains, ◌↔◌}
use Rattle.std.specs.Str.{bytes_eq}
use Rattle.std.specs.List.{slice_get}
use Rattle.std.specs.BTreeSet.{BTreeSet, contains_text, Updates}
use Rattle.std.specs.String.{string_cmp}
use Rattle.std.proofs.lemmas.Bool.{cases_lt, eqb-false}
use Rattle.std.proofs.lemmas.List.Elements.{Contains-push, Contains-push_cases, Contains-append_left, Contains-get_or}
use Rattle.std.proofs.lemmas.Map.Text.{btree_set_updates_text}
use Rattle.std.proofs.lemmas.Option.{slice_get-get_or, slice_get_within, get_or_from_slice_get}
use Rattle.std.proofs.lemmas.Slice.Eq.{bytes_eq-Decides}
use Rattle.nextest_filtering_filters.specs.Meaning.{Tells}
use Rattle.nextest_filtering_graph.specs.Graph.{Graph}
use Rattle.nextest_filtering_ast.specs.Meaning.{MatchesName}
use Rattle.nextest_filtering_ast.specs.Tree.{Matcher, matching}
use Rattle.nextest_filtering_ast.specs.declared.leaf.SourceSpan.{SourceSpan}
use Rattle.nextest_filtering_arguments.specs.declared.error.ParseSingleError.TheVariants as fault
use Rattle.nextest_filtering_filters.specs.declared.leaf.FiltersetLeaf.TheVariants as leaf
use Rattle.nextest_filtering_compiling.specs.Asking.{AreNamed, IsAsked, IsSetFor, subject_of}
use Rattle.nextest_filtering_compiling.specs.Outcomes.{IsOutcomeAt}
use Rattle.nextest_filtering_compiling.specs.Context.{Context}
use Rattle.nextest_filtering_compiling.specs.Faults.{NoPackage}
use Rattle.nextest_filtering_compiling.specs.Packages.{AsksFor, HasId, IsNamed}
use Rattle.nextest_filtering_compiling.specs.declared.compile.Outcome.TheVariants as outcome
use Rattle.nextest_filtering_filters.specs.declared.known_groups.KnownGroups.{KnownGroups}
use Rattle.nextest_filtering_compiling.specs.declared.packages.Asks.{Asks}
use Rattle.nextest_filtering_compiling.specs.declared.packages.Asks.TheVariants as asks

-- the places below a number, of the packages with such a name
abbrev pub NamedBelow : Graph → Matcher → List ℕ → ℕ → Type 0
NamedBelow graph m places count = (one : ℕ) → Contains places one ↔ ((one < count) × IsNamed graph m one)

below_one_more : (a b : ℕ) → a < b + 1 → (a < b) ⊎ (b ≡ a)
below_one_more a b less = elim (cases_lt a b) [
  | inl small ↦ inl small
  | inr large ↦ inr (omega arith)
]

-- one more package, with such a name
pub named_one : (graph : Graph) (m : Matcher) (places new : List ℕ) (place : ℕ) (d : List ℕ × List ℕ) → place < length graph.packages → MatchesName m (get_or graph.packages place d).1
    → new ≡ places ++ place ∷ [] → NamedBelow graph m places place → NamedBelow graph m new (place + 1)
named_one graph m places new place d within matches is before = subst (λ (l : List ℕ). NamedBelow graph m l (place + 1)) (sym is) (λ one. (there one, back one))
  where
    this : IsNamed graph m place
    this = (get_or graph.packages place d, slice_get-get_or graph.packages place d within, matches)

    there : (one : ℕ) → Contains (places ++ place ∷ []) one → (one < place + 1) × IsNamed graph m one
    there one among = elim (Contains-push_cases places place one among) [
      | inl earlier ↦ let found = (before one).0 earlier in let less = found.0 in (omega arith, found.1)
      | inr same ↦ subst (λ (n : ℕ). (n < place + 1) × IsNamed graph m n) same (omega arith, this)
    ]

    back : (one : ℕ) → (one < place + 1) × IsNamed graph m one → Contains (places ++ place ∷ []) one
    back one (less, named) = elim (below_one_more one place less) [
      | inl small ↦ Contains-append_left places (place ∷ []) one ((before one).1 (small, named))
      | inr same ↦ subst (Contains (places ++ place ∷ [])) same (Contains-push places place)
    ]

-- one more package, with another name
pub named_none : (graph : Graph) (m : Matcher) (places : List ℕ) (place : ℕ) (d : List ℕ × List ℕ) → (MatchesName m (get_or graph.packages place d).1 → ⊥)
    → NamedBelow graph m places place → NamedBelow graph m places (place + 1)
named_none graph m places place d not_matched before = λ one. (there one, back one)
  where
    there : (one : ℕ) → Contains places one → (one < place + 1) × IsNamed graph m one
    there one among = let found = (before one).0 among in let less = found.0 in (omega arith, found.1)

    here : (one : ℕ) → place ≡ one → IsNamed graph m one → ⊥
    here one same (it, at, matches) =
        not_matched (subst (λ (pair : List ℕ × List ℕ). MatchesName m pair.1) (sym (get_or_from_slice_get graph.packages place it d (ap (slice_get graph.packages) same ∙ at))) matches)

    back : (one : ℕ) → (one < place + 1) × IsNamed graph m one → Contains places one
    back one (less, named) = elim (below_one_more one place less) [
      | inl small ↦ (before one).1 (small, named)
      | inr same ↦ absurd (here one same named)
    ]

-- all packages
pub named_all : (graph : Graph) (m : Matcher) (places : List ℕ) (count : ℕ) → length graph.packages ≤ count → NamedBelow graph m places count → AreNamed graph m places
named_all graph m places count whole before = λ one.
    ((λ among. ((before one).0 among).1), (λ named. (before one).1 (let within = slice_get_within graph.packages one named.0 named.1 in omega arith, named)))

-- the places that are named lie among the packages
pub named_within : (graph : Graph) (m : Matcher) (places : List ℕ) → AreNamed graph m places → All (λ it. it < length graph.packages) places
named_within graph m places are k d within =
    let named = (are (get_or places k d)).0 (Contains-get_or places k d within) in
    slice_get_within graph.packages (get_or places k d) named.0 named.1

-- ---- ids of those that are asked for

-- the id of a package below a place that is asked for
abbrev pub IsIdBelow : Graph → Asks → List ℕ → ℕ → List ℕ → Type 0
IsIdBelow graph how named count id = (one : ℕ) × (one < count) × IsAsked graph.links how named one × HasId graph id one

-- the ids of the packages below a place that are asked for
abbrev pub AreIdsBelow : {Y : Type 0} → Graph → Asks → List ℕ → ℕ → BTreeSet (String Y) → Type 0
AreIdsBelow graph how named count ids = (id : List ℕ) → Tells (IsIdBelow graph how named count id) (contains_text ids id)

later : (graph : Graph) (how : Asks) (named : List ℕ) (place : ℕ) (id : List ℕ) → IsIdBelow graph how named place id → IsIdBelow graph how named (place + 1) id
later graph how named place id (one, less, asked, has) = (one, omega arith, asked, has)

earlier_or_last : (graph : Graph) (how : Asks) (named : List ℕ) (place : ℕ) (id : List ℕ) → IsIdBelow graph how named (place + 1) id
    → IsIdBelow graph how named place id ⊎ (IsAsked graph.links how named place × HasId graph id place)
earlier_or_last graph how named place id (one, less, asked, has) = elim (below_one_more one place less) [
  | inl small ↦ inl (one, small, asked, has)
  | inr same ↦ inr (subst (IsAsked graph.links how named) (sym same) asked, subst (HasId graph id) (sym same) has)
]

id_here : (graph : Graph) (place : ℕ) (d : List ℕ × List ℕ) (id : List ℕ) → HasId graph id place → (get_or graph.packages place d).0 ≡ id
id_here graph place d id (it, at, same) = ap (λ (pair : List ℕ × List ℕ). pair.0) (get_or_from_slice_get graph.packages place it d at) ∙ same

-- one more package is asked for
pub asked_one : {Y : Type 0} (graph : Graph) (how : Asks) (named : List ℕ) (place : ℕ) (d : List ℕ × List ℕ) (ids new : BTreeSet (String Y)) (key : String Y)
    → place < length graph.packages → string_bytes key ≡ (get_or graph.packages place d).0 → IsAsked graph.links how named place → Updates string_cmp ids new key true
    → AreIdsBelow graph how named place ids → AreIdsBelow graph how named (place + 1) new
asked_one {Y} graph how named place d ids new key within is_key asked update before id = by_test (bytes_eq (string_bytes key) id) refl
  where
    says : contains_text new id ≡ cond (bytes_eq (string_bytes key) id) true (contains_text ids id)
    says = btree_set_updates_text (string_bytes key) ids new true update id

    here : string_bytes key ≡ id → IsIdBelow graph how named (place + 1) id
    here same = (place, omega arith, asked, (get_or graph.packages place d, slice_get-get_or graph.packages place d within, sym is_key ∙ same))

    other : bytes_eq (string_bytes key) id ≡ false → IsAsked graph.links how named place × HasId graph id place → ⊥
    other apart last =
        let same : bytes_eq (string_bytes key) id ≡ true = (bytes_eq-Decides (string_bytes key) id).1 (is_key ∙ id_here graph place d id last.1) in cc

    by_test : (b : Bool) → bytes_eq (string_bytes key) id ≡ b → Tells (IsIdBelow graph how named (place + 1) id) (contains_text new id)
    by_test true same =
        ((λ _. here ((bytes_eq-Decides (string_bytes key) id).0 same)), (λ _. says ∙ ap (λ (c : Bool). cond c true (contains_text ids id)) same))
    by_test false apart =
        let still : contains_text new id ≡ contains_text ids id = says ∙ ap (λ (c : Bool). cond c true (contains_text ids id)) apart in (
          (λ found. later graph how named place id ((before id).0 (sym still ∙ found))),
          (λ so. elim (earlier_or_last graph how named place id so) [
            | inl earlier ↦ still ∙ (before id).1 earlier
            | inr last ↦ absurd (other apart last)
          ]),
        )

-- one more package isn't
pub asked_none : {Y : Type 0} (graph : Graph) (how : Asks) (named : List ℕ) (place : ℕ) (ids : BTreeSet (String Y)) → (IsAsked graph.links how named place → ⊥)
    → AreIdsBelow graph how named place ids → AreIdsBelow graph how named (place + 1) ids
asked_none {Y} graph how named place ids not_asked before id = (
  (λ found. later graph how named place id ((before id).0 found)),
  (λ so. elim (earlier_or_last graph how named place id so) [
    | inl earlier ↦ (before id).1 earlier
    | inr last ↦ absurd (not_asked last.0)
  ]),
)

abbrev IsId : Graph → Asks → List ℕ → List ℕ → Type 0
IsId graph how named id = (place : ℕ) × IsAsked graph.links how named place × HasId graph id place

any_place : (graph : Graph) (how : Asks) (named : List ℕ) (count : ℕ) (id : List ℕ) → IsIdBelow graph how named count id → IsId graph how named id
any_place graph how named count id (one, less, asked, has) = (one, asked, has)

its_place : (graph : Graph) (how : Asks) (named : List ℕ) (count : ℕ) (id : List ℕ) → length graph.packages ≤ count → IsId graph how named id → IsIdBelow graph how named count id
its_place graph how named count id whole (one, asked, (it, at, same)) =
    (one, let within = slice_get_within graph.packages one it at in omega arith, asked, (it, at, same))

-- all packages
pub asked_all : {Y : Type 0} (graph : Graph) (how : Asks) (named : List ℕ) (count : ℕ) (ids : BTreeSet (String Y)) → length graph.packages ≤ count
    → AreIdsBelow graph how named count ids → IsSetFor graph how named ids
asked_all {Y} graph how named count ids whole before id =
    ((λ found. any_place graph how named count id ((before id).0 found)), (λ so. (before id).1 (its_place graph how named count id whole so)))

-- ---- the predicate

-- it has a fault where none is named
pub none_named : (cx : Context) (known : KnownGroups) (span : SourceSpan) (how : Asks) (m : Matcher) (places : List ℕ) → AreNamed cx.graph m places → length places ≡ 0
    → IsOutcomeAt cx known span (matching (subject_of how) m) (outcome.Fault (fault.NoPackageMatch span))
none_named cx known span how m places are none = by_how how
  where
    lacks : NoPackage cx m
    lacks place named = let among = (are place).1 named in let within = among.1 in absurd (omega (arith, none))

    by_how : (asks : Asks) → IsOutcomeAt cx known span (matching (subject_of asks) m) (outcome.Fault (fault.NoPackageMatch span))
    by_how asks.Named = (refl, lacks)
    by_how asks.Reached = (refl, lacks)
    by_how asks.Reaching = (refl, lacks)

-- the ids are those that it asks for
asks_for : (graph : Graph) (how : Asks) (m : Matcher) (places : List ℕ) (id : List ℕ) → AreNamed graph m places → IsId graph how places id → AsksFor graph (subject_of how) m id
asks_for graph asks.Named m places id are (place, (one, among, same), has) = (place, subst (IsNamed graph m) same ((are one).0 among), has)
asks_for graph asks.Reached m places id are (place, (one, among, reaches), has) = (one, place, (are one).0 among, reaches, has)
asks_for graph asks.Reaching m places id are (place, (one, among, reaches), has) = (place, one, has, reaches, (are one).0 among)

is_asked_for : (graph : Graph) (how : Asks) (m : Matcher) (places : List ℕ) (id : List ℕ) → AreNamed graph m places → AsksFor graph (subject_of how) m id → IsId graph how places id
is_asked_for graph asks.Named m places id are (place, named, has) = (place, (place, (are place).1 named, refl), has)
is_asked_for graph asks.Reached m places id are (from, to, named, reaches, has) = (to, (from, (are from).1 named, reaches), has)
is_asked_for graph asks.Reaching m places id are (from, to, has, reaches, named) = (from, (to, (are to).1 named, reaches), has)

-- what isn't empty has some
pub not_none : (n count : ℕ) → (count == 0) ≡ false → count ≡ n → 0 < n
not_none zero count is same = absurd (eqb-false count 0 is same)
not_none (suc n) count is same = omega arith

-- it is compiled to their set where some are named
pub some_named : (cx : Context) (known : KnownGroups) (span : SourceSpan) (how : Asks) (m : Matcher) (places : List ℕ) (ids : BTreeSet (String Global)) → AreNamed cx.graph m places
    → 0 < length places → IsSetFor cx.graph how places ids → IsOutcomeAt cx known span (matching (subject_of how) m) (outcome.Leaf (leaf.Packages ids))
some_named cx known span how m places ids are some set = by_how how tells
  where
    has : NoPackage cx m → ⊥
    has lacks = lacks (get_or places 0 0) ((are (get_or places 0 0)).0 (Contains-get_or places 0 0 some))

    tells : (id : List ℕ) → Tells (AsksFor cx.graph (subject_of how) m id) (contains_text ids id)
    tells id = ((λ found. asks_for cx.graph how m places id are ((set id).0 found)), (λ so. (set id).1 (is_asked_for cx.graph how m places id are so)))

    by_how : (asks : Asks) → ((id : List ℕ) → Tells (AsksFor cx.graph (subject_of asks) m id) (contains_text ids id))
        → IsOutcomeAt cx known span (matching (subject_of asks) m) (outcome.Leaf (leaf.Packages ids))
    by_how asks.Named all = (has, all)
    by_how asks.Reached all = (has, all)
    by_how asks.Reaching all = (has, all)
