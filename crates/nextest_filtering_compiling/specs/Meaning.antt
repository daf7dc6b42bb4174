-- What a tree means: it is one filter, however it is compiled, and its matchers are readable.
use Rattle.std.proofs.Common.{◌≡◌, Bool, ℕ, List, sym, subst, ◌∙◌}
use Rattle.std.specs.BTreeSet.{contains_text}
use Rattle.nextest_filtering_filters.specs.Deciding.{AreReadable, HasReadable, IsReadable}
use Rattle.nextest_filtering_filters.specs.Meaning.{CanBeOn, Either, IsOn, MayBe, Never, Tells}
use Rattle.nextest_filtering_filters.specs.Query as query
use Rattle.nextest_filtering_filters.specs.Query.{Test}
use Rattle.nextest_filtering_filters.specs.declared.leaf.FiltersetLeaf.{FiltersetLeaf}
use Rattle.nextest_filtering_filters.specs.declared.leaf.FiltersetLeaf.TheVariants as leaf
use Rattle.nextest_filtering_filters.proofs.Parts.{tells_one}
use Rattle.nextest_filtering_filters.specs.Formula as formula
use Rattle.nextest_filtering_filters.specs.Formula.{Formula, Gives, both_gives, either_gives, leaf_gives, negated_gives}
use Rattle.nextest_filtering_filters.proofs.Giving.{of_leaf}
use Rattle.nextest_filtering_graph.specs.Graph.{Graph}
use Rattle.nextest_filtering_ast.specs.Grammar.{IsPattern, Conjunction, Expression, IsFilterset, ReadsArgument, Unary, a_group, a_negation, a_predicate, first_conjunction, first_operand, joint_of, next_conjunction, next_operand}
use Rattle.nextest_filtering_ast.specs.Meaning.{MatchesName}
use Rattle.nextest_filtering_ast.specs.Tree.{Leaf, Matcher, Subject, Tree, binary_id, binary_name, built_for, default_filter, dependencies, dependents, difference, everything, group, intersection, kind, matcher_of, matching, negation, nothing, package_name, parens, set, test_name, union}
use Rattle.nextest_filtering_ast.specs.declared.leaf.SourceSpan.{SourceSpan}
use Rattle.nextest_filtering_ast.specs.declared.matcher.NameMatcher.{NameMatcher}
use Rattle.nextest_filtering_ast.specs.declared.operators.Joint.{Joint}
use Rattle.nextest_filtering_ast.specs.declared.operators.Joint.TheVariants as joint
use Rattle.nextest_filtering_compiling.specs.Compiling.{IsCompiled, IsCompiledLeaf, IsSetOf, IsWith}
use Rattle.nextest_filtering_compiling.specs.Packages.{AsksFor}

-- ---- two that a predicate is compiled to

-- sets of the same packages
same_set : (graph : Graph) (subject : Subject) (m : Matcher) (x y : FiltersetLeaf) → IsSetOf graph subject m x → IsSetOf graph subject m y
    → (binary : query.Binary) (Name Group : Matcher → Bool → Type 0) (Default : Bool → Type 0) (value : Bool) → MayBe binary Name Group Default x value → MayBe binary Name Group Default y value
same_set graph subject m (leaf.Packages ids) (leaf.Packages others) one other binary Name Group Default value may =
    let id = binary.package_id in
    may ∙ tells_one (AsksFor graph subject m id) (contains_text ids id) (contains_text others id) (one id) (other id)
same_set graph subject m (leaf.Packages ids) y one other binary Name Group Default value may = absurd other
same_set graph subject m x y one other binary Name Group Default value may = absurd one

-- the same predicate with the same matcher
same_with : (predicate : NameMatcher → SourceSpan → FiltersetLeaf) (m : Matcher) (x y : FiltersetLeaf) → IsWith predicate m x → IsWith predicate m y → (So : FiltersetLeaf → Type 0) (Of : Matcher → Type 0)
    → ((copy : NameMatcher) (span : SourceSpan) → So (predicate copy span) → Of (matcher_of copy)) → ((copy : NameMatcher) (span : SourceSpan) → Of (matcher_of copy) → So (predicate copy span)) → So x → So y
same_with predicate m x y (one, span, is, same) (other, place, also, likewise) So Of there back so =
    subst So (sym also) (back other place (subst Of (same ∙ sym likewise) (there one span (subst So is so))))

-- what one of them may be, the other may be
same_leaf : (graph : Graph) (binary : query.Binary) (Name Group : Matcher → Bool → Type 0) (Default : Bool → Type 0) (it : Leaf) (x y : FiltersetLeaf) → IsCompiledLeaf graph it x → IsCompiledLeaf graph it y
    → (value : Bool) → MayBe binary Name Group Default x value → MayBe binary Name Group Default y value
same_leaf graph binary Name Group Default (matching package_name m) x y one other value = same_set graph package_name m x y one other binary Name Group Default value
same_leaf graph binary Name Group Default (matching dependencies m) x y one other value = same_set graph dependencies m x y one other binary Name Group Default value
same_leaf graph binary Name Group Default (matching dependents m) x y one other value = same_set graph dependents m x y one other binary Name Group Default value
same_leaf graph binary Name Group Default (matching kind m) x y one other value =
    same_with leaf.Kind m x y one other (λ l. MayBe binary Name Group Default l value) (λ n. Tells (MatchesName n binary.kind) value) (λ copy span so. so) (λ copy span so. so)
same_leaf graph binary Name Group Default (matching binary_name m) x y one other value =
    same_with leaf.Binary m x y one other (λ l. MayBe binary Name Group Default l value) (λ n. Tells (MatchesName n binary.name) value) (λ copy span so. so) (λ copy span so. so)
same_leaf graph binary Name Group Default (matching binary_id m) x y one other value =
    same_with leaf.BinaryId m x y one other (λ l. MayBe binary Name Group Default l value) (λ n. Tells (MatchesName n binary.id) value) (λ copy span so. so) (λ copy span so. so)
same_leaf graph binary Name Group Default (matching test_name m) x y one other value =
    same_with leaf.Test m x y one other (λ l. MayBe binary Name Group Default l value) (λ n. Name n value) (λ copy span so. so) (λ copy span so. so)
same_leaf graph binary Name Group Default (matching group m) x y one other value =
    same_with leaf.Group m x y one other (λ l. MayBe binary Name Group Default l value) (λ n. Group n value) (λ copy span so. so) (λ copy span so. so)
same_leaf graph binary Name Group Default (built_for platform) x y (span, is) (place, also) value =
    let So : FiltersetLeaf → Type 0 = λ l. MayBe binary Name Group Default l value in
    (λ may. let so : So (leaf.Platform platform place) = subst So is may in subst So (sym also) so)
same_leaf graph binary Name Group Default default_filter x y one other value = subst (λ l. MayBe binary Name Group Default l value) (one ∙ sym other)
same_leaf graph binary Name Group Default everything x y one other value = subst (λ l. MayBe binary Name Group Default l value) (one ∙ sym other)
same_leaf graph binary Name Group Default nothing x y one other value = subst (λ l. MayBe binary Name Group Default l value) (one ∙ sym other)

-- ---- two that a tree is compiled to

-- all that a formula gives, another gives
abbrev Less : (FiltersetLeaf → Bool → Type 0) → Formula FiltersetLeaf → Formula FiltersetLeaf → Type 0
Less May a b = (value : Bool) → Gives May a value → Gives May b value

-- so where their parts do
less_negated : (May : FiltersetLeaf → Bool → Type 0) (a b : Formula FiltersetLeaf) → Less May a b → Less May (formula.negated a) (formula.negated b)
less_negated May _ b less _ (negated_gives inside value gives) = negated_gives b value (less value gives)

less_either : (May : FiltersetLeaf → Bool → Type 0) (a b c d : Formula FiltersetLeaf) → Less May a c → Less May b d → Less May (formula.either a b) (formula.either c d)
less_either May _ _ c d one other _ (either_gives left right x y first second) = either_gives c d x y (one x first) (other y second)

less_both : (May : FiltersetLeaf → Bool → Type 0) (a b c d : Formula FiltersetLeaf) → Less May a c → Less May b d → Less May (formula.both a b) (formula.both c d)
less_both May _ _ c d one other _ (both_gives left right x y first second) = both_gives c d x y (one x first) (other y second)

-- of formulas that are these
less_same : (May : FiltersetLeaf → Bool → Type 0) (a b c d : Formula FiltersetLeaf) → a ≡ c → b ≡ d → Less May c d → Less May a b
less_same May a b c d one other less = subst (λ f. Less May a f) (sym other) (subst (λ f. Less May f d) (sym one) less)

-- what one of them gives, the other gives
same_gives : (graph : Graph) (binary : query.Binary) (Name Group : Matcher → Bool → Type 0) (Default : Bool → Type 0) (tree : Tree) (a b : Formula FiltersetLeaf) → IsCompiled graph tree a → IsCompiled graph tree b
    → Less (MayBe binary Name Group Default) a b
same_gives graph binary Name Group Default (negation op t) a b (c, is, one) (d, also, other) =
    let May = MayBe binary Name Group Default in
    less_same May a b (formula.negated c) (formula.negated d) is also (less_negated May c d (same_gives graph binary Name Group Default t c d one other))
same_gives graph binary Name Group Default (union op t u) a b (c, e, is, one, two) (d, f, also, other, more) =
    let May = MayBe binary Name Group Default in
    less_same May a b (formula.either c e) (formula.either d f) is also
    (less_either May c e d f (same_gives graph binary Name Group Default t c d one other) (same_gives graph binary Name Group Default u e f two more))
same_gives graph binary Name Group Default (intersection op t u) a b (c, e, is, one, two) (d, f, also, other, more) =
    let May = MayBe binary Name Group Default in
    less_same May a b (formula.both c e) (formula.both d f) is also
    (less_both May c e d f (same_gives graph binary Name Group Default t c d one other) (same_gives graph binary Name Group Default u e f two more))
same_gives graph binary Name Group Default (difference op t u) a b (c, e, is, one, two) (d, f, also, other, more) =
    let May = MayBe binary Name Group Default in
    less_same May a b (formula.both c (formula.negated e)) (formula.both d (formula.negated f)) is also
    (less_both May c (formula.negated e) d (formula.negated f) (same_gives graph binary Name Group Default t c d one other)
    (less_negated May e f (same_gives graph binary Name Group Default u e f two more)))
same_gives graph binary Name Group Default (parens t) a b one other = same_gives graph binary Name Group Default t a b one other
same_gives graph binary Name Group Default (set it) a b (x, is, one) (y, also, other) =
    let May = MayBe binary Name Group Default in
    less_same May a b (formula.leaf x) (formula.leaf y) is also
    (λ value gives. leaf_gives y value (same_leaf graph binary Name Group Default it x y one other value (of_leaf May x value gives)))

-- what one filter that a tree is compiled to is on a test, each is
pub same_on_test : (graph : Graph) (tree : Tree) (a b default : Formula FiltersetLeaf) → IsCompiled graph tree a → IsCompiled graph tree b → (test : Test) (Member : Matcher → Type 0) (value : Bool)
    → IsOn a default test Member value → IsOn b default test Member value
same_on_test graph tree a b default one other test Member =
    let Name : Matcher → Bool → Type 0 = λ m. Tells (MatchesName m test.name) in
    let Group : Matcher → Bool → Type 0 = λ m. Tells (Member m) in
    same_gives graph test.binary Name Group (Gives (MayBe test.binary Name Group Never) default) tree a b one other

-- so on a binary
pub same_on_binary : (graph : Graph) (tree : Tree) (a b default : Formula FiltersetLeaf) → IsCompiled graph tree a → IsCompiled graph tree b → (binary : query.Binary) (value : Bool)
    → CanBeOn a default binary value → CanBeOn b default binary value
same_on_binary graph tree a b default one other binary = same_gives graph binary Either Either (Gives (MayBe binary Either Either Never) default) tree a b one other

-- ---- matchers that are readable

-- that of a predicate, where it has one
abbrev HasReadableMatcher : Leaf → Type 0
HasReadableMatcher (matching subject m) = IsReadable m
HasReadableMatcher (built_for platform) = Unit {0}
HasReadableMatcher default_filter = Unit {0}
HasReadableMatcher everything = Unit {0}
HasReadableMatcher nothing = Unit {0}

-- those of a tree
abbrev HasReadableMatchers : Tree → Type 0
HasReadableMatchers (negation op t) = HasReadableMatchers t
HasReadableMatchers (union op t u) = HasReadableMatchers t × HasReadableMatchers u
HasReadableMatchers (intersection op t u) = HasReadableMatchers t × HasReadableMatchers u
HasReadableMatchers (difference op t u) = HasReadableMatchers t × HasReadableMatchers u
HasReadableMatchers (parens t) = HasReadableMatchers t
HasReadableMatchers (set it) = HasReadableMatcher it

-- what is read of a text has such matchers
argument_read : (it : Leaf) (argument rest : List ℕ) → ReadsArgument it argument rest → HasReadableMatcher it
argument_read (matching subject m) argument rest reads = λ is. subst (λ how. IsPattern how m.text) is reads.0
argument_read (built_for platform) argument rest reads = tt
argument_read default_filter argument rest reads = tt
argument_read everything argument rest reads = tt
argument_read nothing argument rest reads = tt

joined_read : (op : Joint) (t u : Tree) → HasReadableMatchers t → HasReadableMatchers u → HasReadableMatchers (joint_of op t u)
joined_read (joint.And op) t u one other = (one, other)
joined_read (joint.Minus op) t u one other = (one, other)

mutual
  unary_read : (text : List ℕ) (t : Tree) (rest : List ℕ) → Unary text t rest → HasReadableMatchers t
  unary_read _ _ _ (a_negation op t text behind rest reads operand) = unary_read behind t rest operand
  unary_read _ _ _ (a_group t text inside behind rest opens read closes) = expression_read inside t behind read
  unary_read _ _ _ (a_predicate it text rest read) = argument_read it read.opened read.read read.argument

  conjunction_read : (text : List ℕ) (t : Tree) (rest : List ℕ) → Conjunction text t rest → HasReadableMatchers t
  conjunction_read _ _ _ (first_operand t text rest read) = unary_read text t rest read
  conjunction_read _ _ _ (next_operand op a b t text middle behind rest first reads operand is) =
      subst HasReadableMatchers (sym is) (joined_read op a b (conjunction_read text a middle first) (unary_read behind b rest operand))

  expression_read : (text : List ℕ) (t : Tree) (rest : List ℕ) → Expression text t rest → HasReadableMatchers t
  expression_read _ _ _ (first_conjunction t text rest read) = conjunction_read text t rest read
  expression_read _ _ _ (next_conjunction op a b text middle behind rest first reads second) = (expression_read text a middle first, conjunction_read behind b rest second)

-- so is what they are compiled to
set_readable : (graph : Graph) (subject : Subject) (m : Matcher) (x : FiltersetLeaf) → IsSetOf graph subject m x → HasReadable x
set_readable graph subject m (leaf.Packages ids) is = tt
set_readable graph subject m x is = absurd is

with_readable : (predicate : NameMatcher → SourceSpan → FiltersetLeaf) → ((copy : NameMatcher) (span : SourceSpan) → IsReadable (matcher_of copy) → HasReadable (predicate copy span)) → (m : Matcher) (x : FiltersetLeaf)
    → IsReadable m → IsWith predicate m x → HasReadable x
with_readable predicate has m x reads (copy, span, is, same) = subst HasReadable (sym is) (has copy span (subst IsReadable (sym same) reads))

leaf_readable : (graph : Graph) (it : Leaf) (x : FiltersetLeaf) → HasReadableMatcher it → IsCompiledLeaf graph it x → HasReadable x
leaf_readable graph (matching package_name m) x reads is = set_readable graph package_name m x is
leaf_readable graph (matching dependencies m) x reads is = set_readable graph dependencies m x is
leaf_readable graph (matching dependents m) x reads is = set_readable graph dependents m x is
leaf_readable graph (matching kind m) x reads is = with_readable leaf.Kind (λ copy span so. so) m x reads is
leaf_readable graph (matching binary_name m) x reads is = with_readable leaf.Binary (λ copy span so. so) m x reads is
leaf_readable graph (matching binary_id m) x reads is = with_readable leaf.BinaryId (λ copy span so. so) m x reads is
leaf_readable graph (matching test_name m) x reads is = with_readable leaf.Test (λ copy span so. so) m x reads is
leaf_readable graph (matching group m) x reads is = with_readable leaf.Group (λ copy span so. so) m x reads is
leaf_readable graph (built_for platform) x reads (span, is) = subst HasReadable (sym is) tt
leaf_readable graph default_filter x reads is = subst HasReadable (sym is) tt
leaf_readable graph everything x reads is = subst HasReadable (sym is) tt
leaf_readable graph nothing x reads is = subst HasReadable (sym is) tt

-- and a whole tree's filter
are_readable : (graph : Graph) (tree : Tree) (it : Formula FiltersetLeaf) → HasReadableMatchers tree → IsCompiled graph tree it → AreReadable it
are_readable graph (negation op t) it reads (inside, is, made) = subst AreReadable (sym is) (are_readable graph t inside reads made)
are_readable graph (union op t u) it reads (left, right, is, made, other) = subst AreReadable (sym is) (are_readable graph t left reads.0 made, are_readable graph u right reads.1 other)
are_readable graph (intersection op t u) it reads (left, right, is, made, other) = subst AreReadable (sym is) (are_readable graph t left reads.0 made, are_readable graph u right reads.1 other)
are_readable graph (difference op t u) it reads (left, right, is, made, other) = subst AreReadable (sym is) (are_readable graph t left reads.0 made, are_readable graph u right reads.1 other)
are_readable graph (parens t) it reads made = are_readable graph t it reads made
are_readable graph (set predicate) it reads (made, is, compiled) = subst AreReadable (sym is) (leaf_readable graph predicate made reads compiled)

-- each glob of a filter that a text is has a text that is one
pub readable : (text : List ℕ) (tree : Tree) → IsFilterset text tree → (graph : Graph) (it : Formula FiltersetLeaf) → IsCompiled graph tree it → AreReadable it
readable text tree filterset graph it = are_readable graph tree it (expression_read text tree filterset.rest filterset.read)
