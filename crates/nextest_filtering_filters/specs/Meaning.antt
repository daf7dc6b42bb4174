-- What filters are on binaries and on tests.
use Rattle.std.specs.Prelude.{◌≡◌, ◌↔◌, Bool, true, false, ⊤}
use Rattle.std.specs.BTreeSet.{contains_text}
use Rattle.nextest_filtering_filters.specs.Formula.{Formula, Gives}
use Rattle.nextest_filtering_ast.specs.Meaning.{MatchesName}
use Rattle.nextest_filtering_ast.specs.Tree.{Matcher, matcher_of}
use Rattle.nextest_filtering_filters.specs.declared.leaf.FiltersetLeaf.{FiltersetLeaf}
use Rattle.nextest_filtering_filters.specs.declared.leaf.FiltersetLeaf.TheVariants as leaf
use Rattle.nextest_filtering_filters.specs.Query.{Binary, Test}

-- true exactly where this is so
abbrev pub Tells : Type 0 → Bool → Type 0
Tells So value = (value ≡ true) ↔ So

-- what a binary alone tells of a predicate; of a test's name, its group and the default filter
-- nothing
abbrev pub IsKnownOn : Binary → FiltersetLeaf → Bool → Type 0
IsKnownOn binary (leaf.Packages set) value = value ≡ contains_text set binary.package_id
IsKnownOn binary (leaf.Kind m span) value = Tells (MatchesName (matcher_of m) binary.kind) value
IsKnownOn binary (leaf.Platform p span) value = Tells (p ≡ binary.platform) value
IsKnownOn binary (leaf.Binary m span) value = Tells (MatchesName (matcher_of m) binary.name) value
IsKnownOn binary (leaf.BinaryId m span) value = Tells (MatchesName (matcher_of m) binary.id) value
IsKnownOn binary (leaf.Test m span) value = ⊥
IsKnownOn binary (leaf.Group m span) value = ⊥
IsKnownOn binary leaf.Default value = ⊥
IsKnownOn binary leaf.All value = value ≡ true
IsKnownOn binary leaf.None value = value ≡ false

-- what a predicate may be on a binary, where this is what matchers of names and of groups, and the
-- default filter, may be
abbrev pub MayBe : Binary → (Matcher → Bool → Type 0) → (Matcher → Bool → Type 0) → (Bool → Type 0) → FiltersetLeaf → Bool → Type 0
MayBe binary Name Group Default (leaf.Test m span) value = Name (matcher_of m) value
MayBe binary Name Group Default (leaf.Group m span) value = Group (matcher_of m) value
MayBe binary Name Group Default leaf.Default value = Default value
MayBe binary Name Group Default other value = IsKnownOn binary other value

-- either value
abbrev pub Either : Matcher → Bool → Type 0
Either m value = ⊤

-- none: a default filter isn't asked of itself
abbrev pub Never : Bool → Type 0
Never value = ⊥

-- what a filter can be on a binary, for some answers to its questions for names and groups, each
-- place apart from all others; at each `default()` those of the default filter afresh
abbrev pub CanBeOn : Formula FiltersetLeaf → Formula FiltersetLeaf → Binary → Bool → Type 0
CanBeOn filter default binary = Gives (MayBe binary Either Either (Gives (MayBe binary Either Either Never) default)) filter

-- what a filter is on a test, where the test's group has a name that such matchers match
abbrev pub IsOn : Formula FiltersetLeaf → Formula FiltersetLeaf → Test → (Matcher → Type 0) → Bool → Type 0
IsOn filter default test Member =
    let Known = MayBe test.binary (λ m. Tells (MatchesName m test.name)) (λ m. Tells (Member m)) in
    Gives (Known (Gives (Known Never) default)) filter
