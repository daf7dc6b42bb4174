-- What a filterset is by its tree, the filter that the tree is compiled to is.
use Rattle.std.proofs.Common.{◌≡◌, ◌↔◌, Bool, sym, subst}
use Rattle.std.specs.BTreeSet.{contains_text}
use Rattle.nextest_filtering_filters.specs.Meaning.{CanBeOn, Either, IsOn, MayBe, Never, Tells}
use Rattle.nextest_filtering_filters.specs.Query.{Binary, Test}
use Rattle.nextest_filtering_filters.specs.declared.leaf.FiltersetLeaf.{FiltersetLeaf}
use Rattle.nextest_filtering_filters.specs.declared.leaf.FiltersetLeaf.TheVariants as leaf
use Rattle.nextest_filtering_filters.proofs.Parts.{tells_one}
use Rattle.nextest_filtering_filters.specs.Formula as formula
use Rattle.nextest_filtering_filters.specs.Formula.{Formula, Gives, both_gives, either_gives, leaf_gives, negated_gives}
use Rattle.nextest_filtering_filters.proofs.Giving.{of_leaf}
use Rattle.nextest_filtering_graph.specs.Graph.{Graph}
use Rattle.nextest_filtering_ast.specs.Meaning.{MatchesName}
use Rattle.nextest_filtering_ast.specs.Tree.{Leaf, Matcher, Subject, Tree, binary_id, binary_name, built_for, default_filter, dependencies, dependents, difference, everything, group, intersection, kind, matcher_of, matching, negation, nothing, package_name, parens, set, test_name, union}
use Rattle.nextest_filtering_ast.specs.declared.leaf.SourceSpan.{SourceSpan}
use Rattle.nextest_filtering_ast.specs.declared.matcher.NameMatcher.{NameMatcher}
use Rattle.nextest_filtering_compiling.specs.Compiling.{IsCompiled, IsCompiledLeaf, IsSetOf, IsWith}
use Rattle.nextest_filtering_compiling.specs.Laws.{KeepsMeaning, OneMeaning}
use Rattle.nextest_filtering_compiling.specs.Meaning.{same_on_binary, same_on_test}
use Rattle.nextest_filtering_compiling.specs.Packages.{AsksFor}
use Rattle.nextest_filtering_compiling.specs.Trees.{MayBeAs, TreeCanBeOn, TreeIsOn, shape_of_tree}

-- ---- predicates

-- a set of the packages that a predicate asks for
set_as_compiled : (graph : Graph) (subject : Subject) (m : Matcher) (x : FiltersetLeaf) → IsSetOf graph subject m x
    → (binary : Binary) (Name Group : Matcher → Bool → Type 0) (Default : Bool → Type 0) (value : Bool) → MayBe binary Name Group Default x value ↔ Tells (AsksFor graph subject m binary.package_id) value
set_as_compiled graph subject m (leaf.Packages ids) is binary Name Group Default value =
    let id = binary.package_id in
    let Asked : Type 0 = AsksFor graph subject m id in
    ((λ may. subst (Tells Asked) (sym may) (is id)), (λ may. tells_one Asked value (contains_text ids id) may (is id)))
set_as_compiled graph subject m x is binary Name Group Default value = absurd is

-- a predicate with its matcher
with_as_compiled : (predicate : NameMatcher → SourceSpan → FiltersetLeaf) (m : Matcher) (x : FiltersetLeaf) → IsWith predicate m x → (So : FiltersetLeaf → Type 0) (Of : Matcher → Type 0)
    → ((copy : NameMatcher) (span : SourceSpan) → So (predicate copy span) ↔ Of (matcher_of copy)) → So x ↔ Of m
with_as_compiled predicate m x (copy, span, is, same) So Of exact =
    ((λ so. subst Of same ((exact copy span).0 (subst So is so))), (λ so. subst So (sym is) ((exact copy span).1 (subst Of (sym same) so))))

-- what a predicate is compiled to may be exactly what the predicate may be, where the default
-- filter may be the same
leaf_as_compiled : (graph : Graph) (binary : Binary) (Name Group : Matcher → Bool → Type 0) (Default Other : Bool → Type 0) → ((value : Bool) → Other value ↔ Default value) → (it : Leaf) (x : FiltersetLeaf)
    → IsCompiledLeaf graph it x → (value : Bool) → MayBe binary Name Group Other x value ↔ MayBeAs graph binary Name Group Default it value
leaf_as_compiled graph binary Name Group Default Other same (matching package_name m) x is value = set_as_compiled graph package_name m x is binary Name Group Other value
leaf_as_compiled graph binary Name Group Default Other same (matching dependencies m) x is value = set_as_compiled graph dependencies m x is binary Name Group Other value
leaf_as_compiled graph binary Name Group Default Other same (matching dependents m) x is value = set_as_compiled graph dependents m x is binary Name Group Other value
leaf_as_compiled graph binary Name Group Default Other same (matching kind m) x is value =
    with_as_compiled leaf.Kind m x is (λ l. MayBe binary Name Group Other l value) (λ n. Tells (MatchesName n binary.kind) value) (λ copy span. ((λ so. so), (λ so. so)))
leaf_as_compiled graph binary Name Group Default Other same (matching binary_name m) x is value =
    with_as_compiled leaf.Binary m x is (λ l. MayBe binary Name Group Other l value) (λ n. Tells (MatchesName n binary.name) value) (λ copy span. ((λ so. so), (λ so. so)))
leaf_as_compiled graph binary Name Group Default Other same (matching binary_id m) x is value =
    with_as_compiled leaf.BinaryId m x is (λ l. MayBe binary Name Group Other l value) (λ n. Tells (MatchesName n binary.id) value) (λ copy span. ((λ so. so), (λ so. so)))
leaf_as_compiled graph binary Name Group Default Other same (matching test_name m) x is value =
    with_as_compiled leaf.Test m x is (λ l. MayBe binary Name Group Other l value) (λ n. Name n value) (λ copy span. ((λ so. so), (λ so. so)))
leaf_as_compiled graph binary Name Group Default Other same (matching group m) x is value =
    with_as_compiled leaf.Group m x is (λ l. MayBe binary Name Group Other l value) (λ n. Group n value) (λ copy span. ((λ so. so), (λ so. so)))
leaf_as_compiled graph binary Name Group Default Other same (built_for platform) x (span, is) value =
    subst (λ l. MayBe binary Name Group Other l value ↔ Tells (platform ≡ binary.platform) value) (sym is) ((λ so. so), (λ so. so))
leaf_as_compiled graph binary Name Group Default Other same default_filter x is value = subst (λ l. MayBe binary Name Group Other l value ↔ Default value) (sym is) (same value)
leaf_as_compiled graph binary Name Group Default Other same everything x is value =
    subst (λ l. MayBe binary Name Group Other l value ↔ MayBeAs graph binary Name Group Default everything value) (sym is) ((λ so. so), (λ so. so))
leaf_as_compiled graph binary Name Group Default Other same nothing x is value =
    subst (λ l. MayBe binary Name Group Other l value ↔ MayBeAs graph binary Name Group Default nothing value) (sym is) ((λ so. so), (λ so. so))

-- ---- formulas over leaves of two kinds

-- all that the one gives, the other gives
abbrev Less : {L M : Type 0} → (L → Bool → Type 0) → (M → Bool → Type 0) → Formula L → Formula M → Type 0
Less May Might a b = (value : Bool) → Gives May a value → Gives Might b value

-- so where their parts do
less_leaf : {L M : Type 0} (May : L → Bool → Type 0) (Might : M → Bool → Type 0) (x : L) (y : M) → ((value : Bool) → May x value → Might y value) → Less May Might (formula.leaf x) (formula.leaf y)
less_leaf May Might x y less value gives = leaf_gives y value (less value (of_leaf May x value gives))

less_negated : {L M : Type 0} (May : L → Bool → Type 0) (Might : M → Bool → Type 0) (a : Formula L) (b : Formula M) → Less May Might a b → Less May Might (formula.negated a) (formula.negated b)
less_negated May Might _ b less _ (negated_gives inside value gives) = negated_gives b value (less value gives)

less_either : {L M : Type 0} (May : L → Bool → Type 0) (Might : M → Bool → Type 0) (a b : Formula L) (c d : Formula M) → Less May Might a c → Less May Might b d
    → Less May Might (formula.either a b) (formula.either c d)
less_either May Might _ _ c d one other _ (either_gives left right x y first second) = either_gives c d x y (one x first) (other y second)

less_both : {L M : Type 0} (May : L → Bool → Type 0) (Might : M → Bool → Type 0) (a b : Formula L) (c d : Formula M) → Less May Might a c → Less May Might b d
    → Less May Might (formula.both a b) (formula.both c d)
less_both May Might _ _ c d one other _ (both_gives left right x y first second) = both_gives c d x y (one x first) (other y second)

-- both give the same
abbrev Alike : {L M : Type 0} → (L → Bool → Type 0) → (M → Bool → Type 0) → Formula L → Formula M → Type 0
Alike May Might a b = (value : Bool) → Gives May a value ↔ Gives Might b value

alike_leaf : {L M : Type 0} (May : L → Bool → Type 0) (Might : M → Bool → Type 0) (x : L) (y : M) → ((value : Bool) → May x value ↔ Might y value) → Alike May Might (formula.leaf x) (formula.leaf y)
alike_leaf May Might x y alike value = (less_leaf May Might x y (λ v. (alike v).0) value, less_leaf Might May y x (λ v. (alike v).1) value)

alike_negated : {L M : Type 0} (May : L → Bool → Type 0) (Might : M → Bool → Type 0) (a : Formula L) (b : Formula M) → Alike May Might a b → Alike May Might (formula.negated a) (formula.negated b)
alike_negated May Might a b alike value = (less_negated May Might a b (λ v. (alike v).0) value, less_negated Might May b a (λ v. (alike v).1) value)

alike_either : {L M : Type 0} (May : L → Bool → Type 0) (Might : M → Bool → Type 0) (a b : Formula L) (c d : Formula M) → Alike May Might a c → Alike May Might b d
    → Alike May Might (formula.either a b) (formula.either c d)
alike_either May Might a b c d one other value = (
  less_either May Might a b c d (λ v. (one v).0) (λ v. (other v).0) value,
  less_either Might May c d a b (λ v. (one v).1) (λ v. (other v).1) value,
)

alike_both : {L M : Type 0} (May : L → Bool → Type 0) (Might : M → Bool → Type 0) (a b : Formula L) (c d : Formula M) → Alike May Might a c → Alike May Might b d
    → Alike May Might (formula.both a b) (formula.both c d)
alike_both May Might a b c d one other value = (
  less_both May Might a b c d (λ v. (one v).0) (λ v. (other v).0) value,
  less_both Might May c d a b (λ v. (one v).1) (λ v. (other v).1) value,
)

-- of a formula that is this one
alike_is : {L M : Type 0} (May : L → Bool → Type 0) (Might : M → Bool → Type 0) (a c : Formula L) (b : Formula M) → a ≡ c → Alike May Might c b → Alike May Might a b
alike_is May Might a c b is alike = subst (λ f. Alike May Might f b) (sym is) alike

-- ---- trees

-- what a tree is compiled to gives exactly what the tree gives, where the default filter may be the
-- same
pub gives_as_compiled : (graph : Graph) (binary : Binary) (Name Group : Matcher → Bool → Type 0) (Default Other : Bool → Type 0) → ((value : Bool) → Other value ↔ Default value) → (tree : Tree)
    (filter : Formula FiltersetLeaf) → IsCompiled graph tree filter → (value : Bool) → Gives (MayBe binary Name Group Other) filter value ↔ Gives (MayBeAs graph binary Name Group Default) (shape_of_tree tree) value
gives_as_compiled graph binary Name Group Default Other same (negation op t) filter (inside, is, made) =
    let May = MayBe binary Name Group Other in
    let Might = MayBeAs graph binary Name Group Default in
    alike_is May Might filter (formula.negated inside) (formula.negated (shape_of_tree t)) is
    (alike_negated May Might inside (shape_of_tree t) (gives_as_compiled graph binary Name Group Default Other same t inside made))
gives_as_compiled graph binary Name Group Default Other same (union op t u) filter (left, right, is, made, also) =
    let May = MayBe binary Name Group Other in
    let Might = MayBeAs graph binary Name Group Default in
    alike_is May Might filter (formula.either left right) (formula.either (shape_of_tree t) (shape_of_tree u)) is
    (alike_either May Might left right (shape_of_tree t) (shape_of_tree u) (gives_as_compiled graph binary Name Group Default Other same t left made)
    (gives_as_compiled graph binary Name Group Default Other same u right also))
gives_as_compiled graph binary Name Group Default Other same (intersection op t u) filter (left, right, is, made, also) =
    let May = MayBe binary Name Group Other in
    let Might = MayBeAs graph binary Name Group Default in
    alike_is May Might filter (formula.both left right) (formula.both (shape_of_tree t) (shape_of_tree u)) is
    (alike_both May Might left right (shape_of_tree t) (shape_of_tree u) (gives_as_compiled graph binary Name Group Default Other same t left made)
    (gives_as_compiled graph binary Name Group Default Other same u right also))
gives_as_compiled graph binary Name Group Default Other same (difference op t u) filter (left, right, is, made, also) =
    let May = MayBe binary Name Group Other in
    let Might = MayBeAs graph binary Name Group Default in
    alike_is May Might filter (formula.both left (formula.negated right)) (formula.both (shape_of_tree t) (formula.negated (shape_of_tree u))) is
    (alike_both May Might left (formula.negated right) (shape_of_tree t) (formula.negated (shape_of_tree u)) (gives_as_compiled graph binary Name Group Default Other same t left made)
    (alike_negated May Might right (shape_of_tree u) (gives_as_compiled graph binary Name Group Default Other same u right also)))
gives_as_compiled graph binary Name Group Default Other same (parens t) filter made = gives_as_compiled graph binary Name Group Default Other same t filter made
gives_as_compiled graph binary Name Group Default Other same (set it) filter (x, is, made) =
    let May = MayBe binary Name Group Other in
    let Might = MayBeAs graph binary Name Group Default in
    alike_is May Might filter (formula.leaf x) (formula.leaf it) is (alike_leaf May Might x it (leaf_as_compiled graph binary Name Group Default Other same it x made))

-- so with a default filter, which isn't asked of itself
by_default_as_compiled : (graph : Graph) (tree default : Tree) (filter fallback : Formula FiltersetLeaf) → IsCompiled graph tree filter → IsCompiled graph default fallback
    → (binary : Binary) (Name Group : Matcher → Bool → Type 0) (value : Bool)
    → Gives (MayBe binary Name Group (Gives (MayBe binary Name Group Never) fallback)) filter value
    ↔ Gives (MayBeAs graph binary Name Group (Gives (MayBeAs graph binary Name Group Never) (shape_of_tree default))) (shape_of_tree tree) value
by_default_as_compiled graph tree default filter fallback made also binary Name Group =
    gives_as_compiled graph binary Name Group (Gives (MayBeAs graph binary Name Group Never) (shape_of_tree default)) (Gives (MayBe binary Name Group Never) fallback)
    (gives_as_compiled graph binary Name Group Never Never (λ v. ((λ so. so), (λ so. so))) default fallback also) tree filter made

-- what the filter can be on a binary, the tree can
pub can_be_as_compiled : (graph : Graph) (tree default : Tree) (filter fallback : Formula FiltersetLeaf) → IsCompiled graph tree filter → IsCompiled graph default fallback
    → (binary : Binary) (value : Bool) → CanBeOn filter fallback binary value ↔ TreeCanBeOn graph tree default binary value
can_be_as_compiled graph tree default filter fallback made also binary = by_default_as_compiled graph tree default filter fallback made also binary Either Either

-- what it is on a test, the tree is
pub is_on_as_compiled : (graph : Graph) (tree default : Tree) (filter fallback : Formula FiltersetLeaf) → IsCompiled graph tree filter → IsCompiled graph default fallback
    → (test : Test) (Member : Matcher → Type 0) (value : Bool) → IsOn filter fallback test Member value ↔ TreeIsOn graph tree default test Member value
is_on_as_compiled graph tree default filter fallback made also test Member =
    by_default_as_compiled graph tree default filter fallback made also test.binary (λ m. Tells (MatchesName m test.name)) (λ m. Tells (Member m))

-- compiling keeps what filtersets mean
pub kept_meaning : {G : Type 0} (Member : G → Test → Matcher → Type 0) → KeepsMeaning Member
kept_meaning Member groups graph tree default filter fallback made also = (
  (λ binary value. let exact = can_be_as_compiled graph tree default filter fallback made also binary value in (exact.1, exact.0)),
  (λ test value. let exact = is_on_as_compiled graph tree default filter fallback made also test (Member groups test) value in (exact.1, exact.0)),
)

-- ---- two filters of one tree

-- what the one is, the other is, both ways
pub one_meaning : {G : Type 0} (Member : G → Test → Matcher → Type 0) → OneMeaning Member
one_meaning Member graph tree a b default one other = (
  (λ binary value. (same_on_binary graph tree a b default one other binary value, same_on_binary graph tree b a default other one binary value)),
  (λ groups test value.
      let In = Member groups test in
      (same_on_test graph tree a b default one other test In value, same_on_test graph tree b a default other one test In value)),
)
