-- What the filters in force answer, by their trees and as they are compiled.
use Rattle.std.proofs.Common.{◌≡◌, ℕ, List, [], ◌∷◌, ◌++◌, map, Bool, true, false, Option, None, Some, Ok, refl, ap, ◌∙◌, subst}
use Rattle.std.specs.List.{All, AllZip, cons_option}
use Rattle.std.specs.Prelude.{◌↔◌}
use Rattle.nextest_config_elements_identifiers.specs.Groups.{text_of}
use Rattle.std.proofs.lemmas.List.Elements.{All-nil, All-cons, All-head, All-tail}
use Rattle.nextest_filtering_compiling.proofs.Trees.{can_be_as_compiled, is_on_as_compiled}
use Rattle.nextest_filtering_compiling.specs.Compiling.{IsCompiled}
use Rattle.nextest_filtering_compiling.specs.FiltersetLaws.{default_serves, no_default}
use Rattle.nextest_filtering_compiling.specs.Meaning.{readable}
use Rattle.nextest_filtering_compiling.specs.declared.filterset.Filterset.{Filterset}
use Rattle.nextest_filtering_filters.specs.Deciding.{AllLeaves, AreReadable, IsReadable}
use Rattle.nextest_filtering_filters.specs.Filter.{Compiled, filter_of, is_default}
use Rattle.nextest_filtering_filters.specs.Formula.{Formula}
use Rattle.nextest_filtering_filters.specs.Meaning.{CanBeOn, IsOn, Tells}
use Rattle.nextest_filtering_filters.specs.Query as query
use Rattle.nextest_filtering_filters.specs.declared.known_groups.KnownGroups.{KnownGroups}
use Rattle.nextest_filtering_filters.specs.declared.known_groups.KnownGroups.TheVariants as groups
use Rattle.nextest_filtering_filters.specs.declared.leaf.FiltersetLeaf.{FiltersetLeaf}
use Rattle.nextest_filtering_filters.proofs.Deciding.{decided_name}
use Rattle.nextest_filtering_syntax.specs.Parsed.{tree_of}
use Rattle.nextest_filtering_ast.specs.Tree.{Matcher, Tree}
use Rattle.nextest_filtering_compiling.specs.Trees.{TreeCanBeOn, TreeIsOn}
use Rattle.test_runner_core_inputs.specs.declared.inputs.Inputs.{Inputs}
use Rattle.test_runner_core_listing.specs.Answers.{AnswerAs, Answers, query_of, seen_test}
use Rattle.test_runner_core_listing.proofs.Answering.{has_answers}
use Rattle.test_runner_core_plan.specs.declared.plan_settings.PlanSettings.{PlanSettings}
use Rattle.test_runner_core_settings.specs.Sets.{IsDefault}
use Rattle.test_runner_core_settings.specs.declared.configured.RunSettings.{RunSettings}
use Rattle.test_runner_core_workspace.specs.declared.record.Binary.{Binary}
use Rattle.test_runner_core_workspace.specs.declared.record.WorkspaceRecord.{WorkspaceRecord}
use Rattle.test_runner_core_planning.specs.Filtering.{AllCanHold, AllHold, AreAnswersOf, AreInForce, AreOfFilterset, Choice, InForce, IsChosen, IsOfGroup, context_of, graph_of, unless_ignored}
use Rattle.test_runner_core_planning.specs.Inside.{IsFilteredBy, in_force}
use Rattle.test_runner_core_planning.proofs.Surely.{is_on_alike}

-- ---- lists side by side

zip_append : {A B : Type 0} (R : A → B → Type 0) (xs : List A) (ys : List B) (more : List A) (others : List B) → AllZip R xs ys → AllZip R more others → AllZip R (xs ++ more) (ys ++ others)
zip_append R [] [] more others all rest = rest
zip_append R [] (y ∷ ys) more others all rest = absurd all
zip_append R (x ∷ xs) [] more others all rest = absurd all
zip_append R (x ∷ xs) (y ∷ ys) more others all rest = (all.0, zip_append R xs ys more others all.1 rest)

-- something holds of each of the one list exactly if it does of each of the other, where those side
-- by side are alike
all_alike : {A B : Type 0} (R : A → B → Type 0) (P : A → Type 0) (Q : B → Type 0) → ((x : A) (y : B) → R x y → Q y ↔ P x) → (xs : List A) (ys : List B)
    → AllZip R xs ys → All Q ys ↔ All P xs
all_alike R P Q each [] [] zipped = ((λ all. All-nil P), (λ all. All-nil Q))
all_alike R P Q each [] (y ∷ ys) zipped = absurd zipped
all_alike R P Q each (x ∷ xs) [] zipped = absurd zipped
all_alike R P Q each (x ∷ xs) (y ∷ ys) zipped =
    let one = each x y zipped.0 in
    let more = all_alike R P Q each xs ys zipped.1 in (
      (λ all. All-cons P x xs (one.0 (All-head Q y ys all)) (more.0 (All-tail Q y ys all))),
      (λ all. All-cons Q y ys (one.1 (All-head P x xs all)) (more.1 (All-tail P x xs all))),
    )

-- so what tells the one tells the other
tells_alike : {A B : Type 0} (R : A → B → Type 0) (P : A → Type 0) (Q : B → Type 0) → ((x : A) (y : B) → R x y → Q y ↔ P x) → (xs : List A) (ys : List B)
    → AllZip R xs ys → (value : Bool) → Tells (All Q ys) value ↔ Tells (All P xs) value
tells_alike R P Q each xs ys zipped value =
    let same = all_alike R P Q each xs ys zipped in (
      (λ tells. ((λ e. same.0 (tells.0 e)), (λ all. tells.1 (same.1 all)))),
      (λ tells. ((λ e. same.1 (tells.0 e)), (λ all. tells.1 (same.0 all)))),
    )

-- ---- trees, and what they are compiled to

pub record AreCompiledTo (workspace : WorkspaceRecord) (it : InForce) (filters : List Compiled) (beside : Compiled) : Type 0 where
  pub each : AllZip (IsCompiled (graph_of workspace)) it.filters (map filter_of filters)
  pub default : IsCompiled (graph_of workspace) it.default (filter_of beside)

-- what tells that each of them can hold on a binary tells it of their trees, and the other way
lists_alike : (workspace : WorkspaceRecord) (it : InForce) (filters : List Compiled) (default : Compiled) → AreCompiledTo workspace it filters default
    → (binary : Binary) (value : Bool) → Tells (All (λ f. CanBeOn f (filter_of default) (query_of binary) true) (map filter_of filters)) value ↔ Tells (AllCanHold workspace it binary) value
lists_alike workspace it filters default compiled binary =
    let graph = graph_of workspace in
    let d = filter_of default in
    tells_alike (IsCompiled graph) (λ tree. TreeCanBeOn graph tree it.default (query_of binary) true) (λ f. CanBeOn f d (query_of binary) true)
    (λ tree f made. can_be_as_compiled graph tree it.default f d made compiled.default (query_of binary) true) it.filters (map filter_of filters) compiled.each

-- whose group is matched is told alike
abbrev pub AreAlike : (query.Test → Matcher → Type 0) → (query.Test → PlanSettings) → Type 0
AreAlike Member of_test = (test : query.Test) (m : Matcher) → Member test m ↔ IsOfGroup of_test test m

-- so that all of them hold on a test
selects_alike : (workspace : WorkspaceRecord) (Member : query.Test → Matcher → Type 0) (of_test : query.Test → PlanSettings) → AreAlike Member of_test → (it : InForce) (filters : List Compiled) (default : Compiled)
    → AreCompiledTo workspace it filters default → (binary : Binary) (name : List ℕ) (value : Bool)
    → Tells (All (λ f. IsOn f (filter_of default) (seen_test binary name) (Member (seen_test binary name)) true) (map filter_of filters)) value ↔ Tells (AllHold workspace of_test it binary name) value
selects_alike workspace Member of_test alike it filters default compiled binary name =
    let graph = graph_of workspace in
    let d = filter_of default in
    let test = seen_test binary name in
    let back : (m : Matcher) → IsOfGroup of_test test m ↔ Member test m = λ m. ((alike test m).1, (alike test m).0) in
    tells_alike (IsCompiled graph) (λ tree. TreeIsOn graph tree it.default test (IsOfGroup of_test test) true) (λ f. IsOn f d test (Member test) true)
    (λ tree f made.
    let same = is_on_as_compiled graph tree it.default f d made compiled.default test (Member test) true in (
      (λ on. is_on_alike graph tree it.default test (Member test) (IsOfGroup of_test test) (alike test) true (same.0 on)),
      (λ on. same.1 (is_on_alike graph tree it.default test (IsOfGroup of_test test) (Member test) back true on)),
    )) it.filters (map filter_of filters) compiled.each

-- what they answer is exactly what their trees do
pub answers_alike : (workspace : WorkspaceRecord) (Member : query.Test → Matcher → Type 0) (of_test : query.Test → PlanSettings) → AreAlike Member of_test → (it : InForce) (filters : List Compiled) (default : Compiled)
    (answers : Answers) → AreCompiledTo workspace it filters default → AnswerAs filters default Member answers ↔ AreAnswersOf workspace of_test it answers
answers_alike workspace Member of_test alike it filters default answers compiled =
    let lists = λ (binary : Binary). lists_alike workspace it filters default compiled binary (answers.lists binary) in
    let selects = λ (binary : Binary) (name : List ℕ). selects_alike workspace Member of_test alike it filters default compiled binary name (answers.selects binary name) in (
      (λ are. record { lists = λ binary. (lists binary).0 (are.lists binary); selects = λ binary name. (selects binary name).0 (are.selects binary name) }),
      (λ are. record { lists = λ binary. (lists binary).1 (are.lists binary); selects = λ binary name. (selects binary name).1 (are.selects binary name) }),
    )

-- ---- the filters in force of inputs

-- those of inputs, as they are compiled, of which each question is decided
pub record HasForce (inputs : Inputs) (run : RunSettings) (filterset : Option Compiled) (default : Compiled) : Type 0 where
  pub force : InForce
  pub of_inputs : AreInForce inputs run force
  pub compiled : AreCompiledTo inputs.workspace force (in_force filterset inputs.ignore_default_filter default) default
  pub readable : All (λ filter. AreReadable (filter_of filter)) (in_force filterset inputs.ignore_default_filter default)
  pub default_readable : AreReadable (filter_of default)
  pub no_default : AllLeaves (λ it. is_default it ≡ false) (filter_of default)

-- the filterset
record OfFilterset (workspace : WorkspaceRecord) (known : KnownGroups) (text : Option (List ℕ)) (found : Option Compiled) : Type 0 where
  chosen : List Tree
  are : AreOfFilterset workspace known text chosen
  each : AllZip (IsCompiled (graph_of workspace)) chosen (map filter_of (cons_option found []))
  readable : All (λ filter. AreReadable (filter_of filter)) (cons_option found [])

of_filterset : (workspace : WorkspaceRecord) (known : KnownGroups) (text : Option (List ℕ)) (found : Option Compiled) → IsFilteredBy workspace known text found → OfFilterset workspace known text found
of_filterset workspace known None None is = record { chosen = []; are = refl; each = tt; readable = All-nil (λ filter. AreReadable (filter_of filter)) }
of_filterset workspace known None (Some filter) is = absurd is
of_filterset workspace known (Some text) None is = absurd is
of_filterset workspace known (Some text) (Some filter) (tree, taken, made) = record {
  chosen = tree ∷ [];
  are = (tree, taken, refl);
  each = (made, tt);
  readable = All-cons (λ f. AreReadable (filter_of f)) filter [] (readable text tree taken.0 (graph_of workspace) (filter_of filter) made) (All-nil (λ f. AreReadable (filter_of f)));
}

zip_unless : (workspace : WorkspaceRecord) (ignored : Bool) (tree : Tree) (default : Compiled) → IsCompiled (graph_of workspace) tree (filter_of default)
    → AllZip (IsCompiled (graph_of workspace)) (unless_ignored ignored tree) (map filter_of (unless_ignored ignored default))
zip_unless workspace true tree default made = tt
zip_unless workspace false tree default made = (made, tt)

all_unless : (ignored : Bool) (default : Compiled) → AreReadable (filter_of default) → All (λ filter. AreReadable (filter_of filter)) (unless_ignored ignored default)
all_unless true default reads = All-nil (λ filter. AreReadable (filter_of filter))
all_unless false default reads = All-cons (λ filter. AreReadable (filter_of filter)) default [] reads (All-nil (λ filter. AreReadable (filter_of filter)))

-- a list behind one that may be there
behind : (found : Option Compiled) (rest : List Compiled) → cons_option found [] ++ rest ≡ cons_option found rest
behind None rest = refl
behind (Some filter) rest = refl

mapped_append : (xs ys : List Compiled) → map filter_of xs ++ map filter_of ys ≡ map filter_of (xs ++ ys)
mapped_append [] ys = refl
mapped_append (x ∷ xs) ys = ap (λ more. filter_of x ∷ more) (mapped_append xs ys)

all_append : (P : Compiled → Type 0) (xs ys : List Compiled) → All P xs → All P ys → All P (xs ++ ys)
all_append P [] ys one other = other
all_append P (x ∷ xs) ys one other = All-cons P x (xs ++ ys) (All-head P x xs one) (all_append P xs ys (All-tail P x xs one) other)

pub force_of_read : (inputs : Inputs) (run : RunSettings) (filterset : Option Compiled) (it : Filterset) → IsFilteredBy inputs.workspace run.known_groups inputs.filterset filterset
    → IsDefault (context_of inputs.workspace) run.default_filter it → HasForce inputs run filterset it.compiled
force_of_read inputs run filterset it filtered is =
    let text = run.default_filter in
    let ignored = inputs.ignore_default_filter in
    let Made = IsCompiled (graph_of inputs.workspace) in
    let Reads : Compiled → Type 0 = λ filter. AreReadable (filter_of filter) in
    let of = of_filterset inputs.workspace run.known_groups inputs.filterset filterset filtered in
    let tree = tree_of it.parsed in
    let default = it.compiled in
    let reads = readable text tree is.1.0 (graph_of inputs.workspace) (filter_of default) is.3 in
    let first = cons_option filterset [] in
    let last = unless_ignored ignored default in
    let trees = of.chosen ++ unless_ignored ignored tree in
    let zipped = zip_append Made of.chosen (map filter_of first) (unless_ignored ignored tree) (map filter_of last) of.each (zip_unless inputs.workspace ignored tree default is.3) in
    let same : map filter_of first ++ map filter_of last ≡ map filter_of (in_force filterset ignored default) = mapped_append first last ∙ ap (map filter_of) (behind filterset last) in
    record {
      force = record { filters = trees; default = tree };
      of_inputs = record { default = is.1; chosen = of.chosen; filterset = of.are; all = refl };
      compiled = record { each = subst (λ (formulas : List (Formula FiltersetLeaf)). AllZip Made trees formulas) same zipped; default = is.3 };
      readable = subst (λ (filters : List Compiled). All Reads filters) (behind filterset last) (all_append Reads first last of.readable (all_unless ignored default reads));
      default_readable = reads;
      no_default = no_default it (default_serves (context_of inputs.workspace) groups.Unavailable text it is);
    }

-- whether the group of a test is matched can be decided
decided_group : (of_test : query.Test → PlanSettings) (test : query.Test) (m : Matcher) → IsReadable m → (b : Bool) × Tells (IsOfGroup of_test test m) b
decided_group of_test test m reads = decided_name m (text_of (of_test test).test_group) reads

-- they answer something
pub some_chosen : (inputs : Inputs) (choice : Choice) (filterset : Option Compiled) (default : Compiled) → HasForce inputs choice.run filterset default → (answers : Answers) × IsChosen inputs choice (Ok answers)
some_chosen inputs choice filterset default has =
    let filters = in_force filterset inputs.ignore_default_filter default in
    let Member = IsOfGroup choice.of_test in
    let made = has_answers Member filters default (decided_group choice.of_test) has.readable has.default_readable has.no_default in
    (made.0, (has.force, has.of_inputs, (answers_alike inputs.workspace Member choice.of_test (λ test m. ((λ so. so), (λ so. so))) has.force filters default made.0 has.compiled).0 made.1))
