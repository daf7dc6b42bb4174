-- What trees of filtersets answer: something, where it is known which packages their predicates ask
-- for; and it can't be that this isn't known.
use Rattle.std.proofs.Common.{◌≡◌, ◌⊎◌, inl, inr, ℕ, zero, suc, Bool, true, false, true≢false, not, ◌&&◌, ◌||◌, List, [], ◌∷◌, Some, refl, sym, subst}
use Rattle.std.specs.Prelude.{⊤}
use Rattle.std.specs.List.{All, Contains, list_any, slice_get}
use Rattle.std.specs.Str.{bytes_eq}
use Rattle.std.proofs.lemmas.List.Elements.{All-nil, All-cons, All-head, All-tail}
use Rattle.nextest_config_elements_identifiers.specs.Groups.{text_of}
use Rattle.nextest_config_resolution_profiles.proofs.Enabling.{among, among_back}
use Rattle.nextest_filtering_compiling.specs.Packages.{AsksFor, HasId}
use Rattle.nextest_filtering_compiling.specs.Trees.{MayBeAs, shape_of_tree}
use Rattle.nextest_filtering_filters.proofs.Deciding.{decided_name}
use Rattle.nextest_filtering_filters.proofs.Giving.{of_both, of_either, of_leaf, of_negated}
use Rattle.nextest_filtering_filters.proofs.Parts.{tells_one}
use Rattle.nextest_filtering_filters.specs.Deciding.{AllLeaves, IsReadable}
use Rattle.nextest_filtering_filters.specs.Formula.{Formula, Gives, both, both_gives, either, either_gives, leaf, leaf_gives, negated, negated_gives}
use Rattle.nextest_filtering_filters.specs.Meaning.{Either, Never, Tells}
use Rattle.nextest_filtering_filters.specs.Query as query
use Rattle.nextest_filtering_graph.specs.Graph.{Graph, ids}
use Rattle.nextest_filtering_ast.specs.Grammar.{IsPattern, Conjunction, Expression, IsFilterset, ReadsArgument, Unary, a_group, a_negation, a_predicate, first_conjunction, first_operand, joint_of, next_conjunction, next_operand}
use Rattle.nextest_filtering_ast.specs.Meaning.{MatchesName}
use Rattle.nextest_filtering_ast.specs.Tree.{Leaf, Matcher, Subject, Tree, binary_id, binary_name, built_for, default_filter, dependencies, dependents, everything, group, kind, matching, nothing, package_name, test_name}
use Rattle.nextest_filtering_ast.specs.declared.leaf.BuildPlatform.{BuildPlatform}
use Rattle.nextest_filtering_ast.specs.declared.leaf.BuildPlatform.TheVariants as platform
use Rattle.nextest_filtering_ast.specs.declared.operators.Joint.{Joint}
use Rattle.nextest_filtering_ast.specs.declared.operators.Joint.TheVariants as joint
use Rattle.test_runner_core_listing.specs.Answers.{Answers, query_of, seen_test}
use Rattle.test_runner_core_plan.specs.declared.plan_settings.PlanSettings.{PlanSettings}
use Rattle.test_runner_core_workspace.specs.declared.record.Binary.{Binary}
use Rattle.test_runner_core_workspace.specs.declared.record.WorkspaceRecord.{WorkspaceRecord}
use Rattle.test_runner_core_planning.specs.Filtering.{AllCanHold, AllHold, AreAnswersOf, InForce, IsOfGroup, graph_of}
use Rattle.test_runner_core_planning.proofs.Elements.{first_has, rest_has}
use Rattle.test_runner_core_planning.proofs.Finite.{kept_of}

-- ---- it is so, or isn't

abbrev Dec : Type 0 → Type 0
Dec So = So ⊎ (So → ⊥)

through : {A B : Type 0} → Dec A → (A → B) → (B → A) → Dec B
through (inl so) to from = inl (to so)
through (inr never) to from = inr (λ b. never (from b))

with_both : {A B : Type 0} → Dec A → Dec B → Dec (A × B)
with_both (inl one) (inl other) = inl (one, other)
with_both (inl one) (inr never) = inr (λ has. never has.1)
with_both (inr never) other = inr (λ has. never has.0)

some_bool : (P : Bool → Type 0) → ((b : Bool) → Dec (P b)) → Dec ((b : Bool) × P b)
some_bool P each = by_each (each true) (each false)
  where
    by_each : Dec (P true) → Dec (P false) → Dec ((b : Bool) × P b)
    by_each (inl so) other = inl (true, so)
    by_each (inr never) (inl so) = inl (false, so)
    by_each (inr never) (inr neither) = inr (λ has. in_neither has.0 has.1)
      where
        in_neither : (b : Bool) → P b → ⊥
        in_neither true so = never so
        in_neither false so = neither so

same_or_not : (a b : Bool) → Dec (a ≡ b)
same_or_not true true = inl refl
same_or_not false false = inl refl
same_or_not true false = inr (λ e. true≢false e)
same_or_not false true = inr (λ e. true≢false (sym e))

told : (So : Type 0) → Dec So → (b : Bool) × Tells So b
told So (inl so) = (true, ((λ e. so), (λ has. refl)))
told So (inr never) = (false, ((λ e. absurd (true≢false (sym e))), (λ has. absurd (never has))))

-- what is told is one of both
tells_or_not : (So : Type 0) (b value : Bool) → Tells So b → Dec (Tells So value)
tells_or_not So b value tells = by_same (same_or_not b value)
  where
    by_same : Dec (b ≡ value) → Dec (Tells So value)
    by_same (inl same) = inl (subst (Tells So) same tells)
    by_same (inr other) = inr (λ also. other (tells_one So b value tells also))

-- ---- formulas

not_not : (b : Bool) → not (not b) ≡ b
not_not true = refl
not_not false = refl

-- two values that come together to another
record Joined (op : Bool → Bool → Bool) (P Q : Bool → Type 0) (value : Bool) : Type 0 where
  a : Bool
  b : Bool
  one : P a
  other : Q b
  is : value ≡ op a b

joined_or_not : (op : Bool → Bool → Bool) (P Q : Bool → Type 0) (value : Bool) → ((a : Bool) → Dec (P a)) → ((b : Bool) → Dec (Q b)) → Dec (Joined op P Q value)
joined_or_not op P Q value p q =
    through
    (some_bool (λ a. (b : Bool) × (P a × (Q b × (value ≡ op a b))))
    (λ a. some_bool (λ b. P a × (Q b × (value ≡ op a b))) (λ b. with_both (p a) (with_both (q b) (same_or_not value (op a b))))))
    (λ has. record { a = has.0; b = has.1.0; one = has.1.1.0; other = has.1.1.1.0; is = has.1.1.1.1 }) (λ it. (it.a, (it.b, (it.one, (it.other, it.is)))))

-- what a formula gives is decided where it is of its leaves
module _ {L : Type 0} (May : L → Bool → Type 0) (Holds : L → Type 0) (some : (it : L) → Holds it → (value : Bool) → Dec (May it value)) where
  decided : (f : Formula L) → AllLeaves Holds f → (value : Bool) → Dec (Gives May f value)
  decided (leaf it) hold value = through (some it hold value) (leaf_gives it value) (of_leaf May it value)
  decided (negated inside) hold value =
      through (decided inside hold (not value)) (λ gives. subst (Gives May (negated inside)) (not_not value) (negated_gives inside (not value) gives)) (of_negated May inside value)
  decided (either left right) hold value =
      through (joined_or_not (λ a b. a || b) (Gives May left) (Gives May right) value (decided left hold.0) (decided right hold.1))
      (λ it. subst (Gives May (either left right)) (sym it.is) (either_gives left right it.a it.b it.one it.other))
      (λ gives. let it = of_either May left right value gives in record { a = it.0; b = it.1; one = it.2; other = it.3; is = it.4 })
  decided (both left right) hold value =
      through (joined_or_not (λ a b. a && b) (Gives May left) (Gives May right) value (decided left hold.0) (decided right hold.1))
      (λ it. subst (Gives May (both left right)) (sym it.is) (both_gives left right it.a it.b it.one it.other))
      (λ gives. let it = of_both May left right value gives in record { a = it.0; b = it.1; one = it.2; other = it.3; is = it.4 })

-- ---- predicates

-- where it compares by a glob, the text of its matcher is one
abbrev HasReadableMatcher : Leaf → Type 0
HasReadableMatcher (matching subject m) = IsReadable m
HasReadableMatcher (built_for p) = ⊤
HasReadableMatcher default_filter = ⊤
HasReadableMatcher everything = ⊤
HasReadableMatcher nothing = ⊤

-- and it is known which packages it asks for
abbrev IsKnown : Graph → Leaf → Type 0
IsKnown graph (matching subject m) = IsReadable m × ((id : List ℕ) → (b : Bool) × Tells (AsksFor graph subject m id) b)
IsKnown graph (built_for p) = ⊤
IsKnown graph default_filter = ⊤
IsKnown graph everything = ⊤
IsKnown graph nothing = ⊤

-- so it is of each predicate of a tree
abbrev pub IsKnownTree : Graph → Tree → Type 0
IsKnownTree graph tree = AllLeaves (IsKnown graph) (shape_of_tree tree)

named : (m : Matcher) (name : List ℕ) → IsReadable m → (value : Bool) → Dec (Tells (MatchesName m name) value)
named m name reads value = let is = decided_name m name reads in tells_or_not (MatchesName m name) is.0 value is.1

platforms : (p q : BuildPlatform) → Dec (p ≡ q)
platforms platform.Target platform.Target = inl refl
platforms platform.Host platform.Host = inl refl
platforms platform.Target platform.Host = inr (λ is. cc)
platforms platform.Host platform.Target = inr (λ is. cc)

module _ (graph : Graph) (binary : query.Binary) (Name Group : Matcher → Bool → Type 0) (name : (m : Matcher) → IsReadable m → (value : Bool) → Dec (Name m value))
    (in_group : (m : Matcher) → IsReadable m → (value : Bool) → Dec (Group m value)) where
  asks : (subject : Subject) (m : Matcher) → ((id : List ℕ) → (b : Bool) × Tells (AsksFor graph subject m id) b) → (value : Bool) → Dec (Tells (AsksFor graph subject m binary.package_id) value)
  asks subject m known value = let is = known binary.package_id in tells_or_not (AsksFor graph subject m binary.package_id) is.0 value is.1

  leaf_decided : (Default : Bool → Type 0) → ((value : Bool) → Dec (Default value)) → (it : Leaf) → IsKnown graph it → (value : Bool) → Dec (MayBeAs graph binary Name Group Default it value)
  leaf_decided Default default (matching package_name m) known value = asks package_name m known.1 value
  leaf_decided Default default (matching dependencies m) known value = asks dependencies m known.1 value
  leaf_decided Default default (matching dependents m) known value = asks dependents m known.1 value
  leaf_decided Default default (matching kind m) known value = named m binary.kind known.0 value
  leaf_decided Default default (matching binary_name m) known value = named m binary.name known.0 value
  leaf_decided Default default (matching binary_id m) known value = named m binary.id known.0 value
  leaf_decided Default default (matching test_name m) known value = name m known.0 value
  leaf_decided Default default (matching group m) known value = in_group m known.0 value
  leaf_decided Default default (built_for p) known value =
      let is = told (p ≡ binary.platform) (platforms p binary.platform) in tells_or_not (p ≡ binary.platform) is.0 value is.1
  leaf_decided Default default default_filter known value = default value
  leaf_decided Default default everything known value = same_or_not value true
  leaf_decided Default default nothing known value = same_or_not value false

  abbrev Own : Tree → Bool → Type 0
  Own default = Gives (MayBeAs graph binary Name Group Never) (shape_of_tree default)

  tree_decided : (tree default : Tree) → IsKnownTree graph tree → IsKnownTree graph default → Dec (Gives (MayBeAs graph binary Name Group (Own default)) (shape_of_tree tree) true)
  tree_decided tree default known known_default =
      decided (MayBeAs graph binary Name Group (Own default)) (IsKnown graph)
      (leaf_decided (Own default)
      (decided (MayBeAs graph binary Name Group Never) (IsKnown graph) (leaf_decided Never (λ value. inr (λ never. never))) (shape_of_tree default) known_default))
      (shape_of_tree tree) known true

-- ---- filters in force

all_or_not : {X : Type 0} (P Holds : X → Type 0) → ((x : X) → Holds x → Dec (P x)) → (xs : List X) → All Holds xs → Dec (All P xs)
all_or_not P Holds some [] all = inl (All-nil P)
all_or_not P Holds some (x ∷ xs) all =
    through (with_both (some x (All-head Holds x xs all)) (all_or_not P Holds some xs (All-tail Holds x xs all))) (λ has. All-cons P x xs has.0 has.1) (λ has. (All-head P x xs has, All-tail P x xs has))

-- they answer something
module _ (workspace : WorkspaceRecord) (of_test : query.Test → PlanSettings) (it : InForce) (known : All (IsKnownTree (graph_of workspace)) it.filters)
    (known_default : IsKnownTree (graph_of workspace) it.default) where
  listed : (binary : Binary) → (b : Bool) × Tells (AllCanHold workspace it binary) b
  listed binary =
      told (AllCanHold workspace it binary)
      (all_or_not _ (IsKnownTree (graph_of workspace))
      (λ filter known_filter. tree_decided (graph_of workspace) (query_of binary) Either Either (λ m reads value. inl tt) (λ m reads value. inl tt) filter it.default known_filter known_default) it.filters known)

  selected : (binary : Binary) (name : List ℕ) → (b : Bool) × Tells (AllHold workspace of_test it binary name) b
  selected binary name =
      let test = seen_test binary name in
      told (AllHold workspace of_test it binary name)
      (all_or_not _ (IsKnownTree (graph_of workspace))
      (λ filter known_filter. tree_decided (graph_of workspace) test.binary (λ m. Tells (MatchesName m test.name)) (λ m. Tells (IsOfGroup of_test test m)) (λ m reads value. named m test.name reads value)
      (λ m reads value. named m (text_of (of_test test).test_group) reads value) filter it.default known_filter known_default) it.filters known)

  pub some_answers : (answers : Answers) × AreAnswersOf workspace of_test it answers
  some_answers = (
    record { lists = λ binary. (listed binary).0; selects = λ binary name. (selected binary name).0 },
    record { lists = λ binary. (listed binary).1; selects = λ binary name. (selected binary name).1 },
  )

-- ---- it can't be that it isn't known

-- what is read of a text has such matchers
argument_read : (it : Leaf) (argument rest : List ℕ) → ReadsArgument it argument rest → HasReadableMatcher it
argument_read (matching subject m) argument rest reads = λ is. subst (λ how. IsPattern how m.text) is reads.0
argument_read (built_for p) argument rest reads = tt
argument_read default_filter argument rest reads = tt
argument_read everything argument rest reads = tt
argument_read nothing argument rest reads = tt

abbrev AreReadable : Tree → Type 0
AreReadable tree = AllLeaves HasReadableMatcher (shape_of_tree tree)

joined_read : (op : Joint) (t u : Tree) → AreReadable t → AreReadable u → AreReadable (joint_of op t u)
joined_read (joint.And op) t u one other = (one, other)
joined_read (joint.Minus op) t u one other = (one, other)

mutual
  unary_read : (text : List ℕ) (t : Tree) (rest : List ℕ) → Unary text t rest → AreReadable t
  unary_read _ _ _ (a_negation op t text behind rest reads operand) = unary_read behind t rest operand
  unary_read _ _ _ (a_group t text inside behind rest opens read closes) = expression_read inside t behind read
  unary_read _ _ _ (a_predicate it text rest read) = argument_read it read.opened read.read read.argument

  conjunction_read : (text : List ℕ) (t : Tree) (rest : List ℕ) → Conjunction text t rest → AreReadable t
  conjunction_read _ _ _ (first_operand t text rest read) = unary_read text t rest read
  conjunction_read _ _ _ (next_operand op a b t text middle behind rest first reads operand is) =
      subst AreReadable (sym is) (joined_read op a b (conjunction_read text a middle first) (unary_read behind b rest operand))

  expression_read : (text : List ℕ) (t : Tree) (rest : List ℕ) → Expression text t rest → AreReadable t
  expression_read _ _ _ (first_conjunction t text rest read) = conjunction_read text t rest read
  expression_read _ _ _ (next_conjunction op a b text middle behind rest first reads second) = (expression_read text a middle first, conjunction_read behind b rest second)

id_there : (packages : List (List ℕ × List ℕ)) (place : ℕ) (it : List ℕ × List ℕ) → slice_get packages place ≡ Some it → Contains (ids packages) it.0
id_there [] place it e = absurd (let h = e in cc)
id_there (first ∷ packages) zero it e = subst (λ (p : List ℕ × List ℕ). Contains (ids (first ∷ packages)) p.0) (let h : first ≡ it = cc in h) (first_has first.0 (ids packages))
id_there (first ∷ packages) (suc place) it e = rest_has first.0 it.0 (ids packages) (id_there packages place it e)

has_there : (graph : Graph) (id : List ℕ) (place : ℕ) → HasId graph id place → Contains (ids graph.packages) id
has_there graph id place (it, at, is) = subst (Contains (ids graph.packages)) is (id_there graph.packages place it at)

asked_there : (graph : Graph) (subject : Subject) (m : Matcher) (id : List ℕ) → AsksFor graph subject m id → Contains (ids graph.packages) id
asked_there graph package_name m id (place, is, has) = has_there graph id place has
asked_there graph dependencies m id (from, to, is, reaches, has) = has_there graph id to has
asked_there graph dependents m id (from, to, has, reaches, is) = has_there graph id from has
asked_there graph kind m id asks = absurd asks
asked_there graph binary_name m id asks = absurd asks
asked_there graph binary_id m id asks = absurd asks
asked_there graph test_name m id asks = absurd asks
asked_there graph group m id asks = absurd asks

asked : (graph : Graph) (subject : Subject) (m : Matcher) → ¬ ¬ ((id : List ℕ) → (b : Bool) × Tells (AsksFor graph subject m id) b)
asked graph subject m never =
    kept_of (AsksFor graph subject m) (ids graph.packages) (λ (kept, exactly). never (λ id. (
      list_any (bytes_eq id) kept,
      ((λ e. ((exactly id).0 (among id kept e)).1), (λ asks. among_back id kept ((exactly id).1 (asked_there graph subject m id asks, asks)))),
    )))

known_leaf : (graph : Graph) (it : Leaf) → HasReadableMatcher it → ¬ ¬ IsKnown graph it
known_leaf graph (matching subject m) reads never = asked graph subject m (λ asks. never (reads, asks))
known_leaf graph (built_for p) reads never = never tt
known_leaf graph default_filter reads never = never tt
known_leaf graph everything reads never = never tt
known_leaf graph nothing reads never = never tt

known_all : (graph : Graph) (f : Formula Leaf) → AllLeaves HasReadableMatcher f → ¬ ¬ AllLeaves (IsKnown graph) f
known_all graph (leaf it) reads never = known_leaf graph it reads never
known_all graph (negated inside) reads never = known_all graph inside reads never
known_all graph (either left right) reads never = known_all graph left reads.0 (λ one. known_all graph right reads.1 (λ other. never (one, other)))
known_all graph (both left right) reads never = known_all graph left reads.0 (λ one. known_all graph right reads.1 (λ other. never (one, other)))

pub known_tree : (graph : Graph) (text : List ℕ) (tree : Tree) → IsFilterset text tree → ¬ ¬ IsKnownTree graph tree
known_tree graph text tree is = known_all graph (shape_of_tree tree) (expression_read text tree is.rest is.read)
