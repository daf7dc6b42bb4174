-- The filters in force: the filterset, where one is given, and the default filter of the chosen
-- profile, unless it is left aside.
use Rattle.std.specs.Prelude.{◌≡◌, ℕ, Bool, true, false, List, [], ◌∷◌, ◌++◌, All, Option, None, Some, Result, Ok, Err, filter_map, map}
use Rattle.nextest_config_elements_identifiers.specs.Groups.{text_of}
use Rattle.nextest_filtering_arguments.specs.declared.ban.FiltersetKind.TheVariants as purpose
use Rattle.nextest_filtering_compiling.specs.Accepting.{IsAccepted}
use Rattle.nextest_filtering_compiling.specs.Context.{Context}
use Rattle.nextest_filtering_compiling.specs.Trees.{TreeCanBeOn, TreeIsOn}
use Rattle.nextest_filtering_filters.specs.Meaning.{Tells}
use Rattle.nextest_filtering_filters.specs.Query as query
use Rattle.nextest_filtering_filters.specs.declared.known_groups.KnownGroups.{KnownGroups}
use Rattle.nextest_filtering_filters.specs.declared.known_groups.KnownGroups.TheVariants as groups
use Rattle.nextest_filtering_graph.specs.Graph.{Graph, ids, places_of_link}
use Rattle.nextest_filtering_ast.specs.Meaning.{MatchesName}
use Rattle.nextest_filtering_ast.specs.Tree.{Matcher, Tree}
use Rattle.test_runner_core_inputs.specs.declared.inputs.Inputs.{Inputs}
use Rattle.test_runner_core_plan.specs.declared.plan_settings.PlanSettings.{PlanSettings}
use Rattle.test_runner_core_settings.specs.declared.configured.RunSettings.{RunSettings}
use Rattle.test_runner_core_listing.specs.Answers.{Answers, query_of, seen_test}
use Rattle.test_runner_core_workspace.specs.declared.record.Binary.{Binary}
use Rattle.test_runner_core_workspace.specs.declared.record.Link.{Link}
use Rattle.test_runner_core_workspace.specs.declared.record.Package.{Package}
use Rattle.test_runner_core_workspace.specs.declared.record.WorkspaceRecord.{WorkspaceRecord}
use Rattle.test_runner_core_planning.specs.declared.plan_fault.PlanFault.{PlanFault}
use Rattle.test_runner_core_planning.specs.declared.plan_fault.PlanFault.TheVariants as refused

-- ---- a workspace as filtersets take it

-- packages by id and name, links by the ids of their ends, binaries by id and name
abbrev pub pairs_of_packages : List Package → List (List ℕ × List ℕ)
pairs_of_packages packages = map (λ it. (it.id, it.name)) packages

abbrev pub pairs_of_links : List Link → List (List ℕ × List ℕ)
pairs_of_links links = map (λ it. (it.from, it.to)) links

abbrev pub pairs_of_binaries : List Binary → List (List ℕ × List ℕ)
pairs_of_binaries binaries = map (λ it. (it.id, it.name)) binaries

-- its packages, and its links by the places of their ends
abbrev pub graph_of : WorkspaceRecord → Graph
graph_of workspace = record {
  packages = pairs_of_packages workspace.packages;
  links = filter_map (places_of_link (ids (pairs_of_packages workspace.packages))) (pairs_of_links workspace.links);
}

abbrev pub context_of : WorkspaceRecord → Context
context_of workspace = record { graph = graph_of workspace; binaries = pairs_of_binaries workspace.binaries }

-- ---- which filters are in force

-- what inputs ask for: what is set for their run, and for each test
pub record Choice : Type 0 where
  pub run : RunSettings
  pub of_test : query.Test → PlanSettings

-- the workspace accepts a text as a filterset that chooses tests, where these groups are known, and
-- it is this tree
abbrev pub IsTaken : WorkspaceRecord → KnownGroups → List ℕ → Tree → Type 0
IsTaken workspace known = IsAccepted (context_of workspace) purpose.Test known

-- the same as a default filter, which may ask for no group
abbrev pub IsTakenAsDefault : WorkspaceRecord → List ℕ → Tree → Type 0
IsTakenAsDefault workspace = IsAccepted (context_of workspace) purpose.DefaultFilter groups.Unavailable

-- the filterset, where one is given
abbrev pub AreOfFilterset : WorkspaceRecord → KnownGroups → Option (List ℕ) → List Tree → Type 0
AreOfFilterset workspace known None trees = trees ≡ []
AreOfFilterset workspace known (Some text) trees = (tree : Tree) × IsTaken workspace known text tree × (trees ≡ tree ∷ [])

-- the default filter, unless it is left aside
abbrev pub unless_ignored : {A : Type 0} → Bool → A → List A
unless_ignored true default = []
unless_ignored false default = default ∷ []

-- the filters in force, and the default filter, which `default()` is
pub record InForce : Type 0 where
  pub filters : List Tree
  pub default : Tree

-- those of inputs where this is set for their run
pub record AreInForce (inputs : Inputs) (run : RunSettings) (it : InForce) : Type 0 where
  pub default : IsTakenAsDefault inputs.workspace run.default_filter it.default
  pub chosen : List Tree
  pub filterset : AreOfFilterset inputs.workspace run.known_groups inputs.filterset chosen
  pub all : it.filters ≡ chosen ++ unless_ignored inputs.ignore_default_filter it.default

-- a filterset is given, and the workspace doesn't accept it
abbrev pub IsRefused : WorkspaceRecord → KnownGroups → Option (List ℕ) → Type 0
IsRefused workspace known None = ⊥
IsRefused workspace known (Some text) = (tree : Tree) → IsTaken workspace known text tree → ⊥

-- ---- what they answer

-- the group of a test, by its settings, has a name that is matched
abbrev pub IsOfGroup : (query.Test → PlanSettings) → query.Test → Matcher → Type 0
IsOfGroup of_test test m = MatchesName m (text_of (of_test test).test_group)

-- each of them can hold on a binary, by answers of its own to what it asks of the binary's tests
abbrev pub AllCanHold : WorkspaceRecord → InForce → Binary → Type 0
AllCanHold workspace it binary = All (λ filter. TreeCanBeOn (graph_of workspace) filter it.default (query_of binary) true) it.filters

-- all of them hold on a test, where tests have these settings
abbrev pub AllHold : WorkspaceRecord → (query.Test → PlanSettings) → InForce → Binary → List ℕ → Type 0
AllHold workspace of_test it binary name =
    All (λ filter. TreeIsOn (graph_of workspace) filter it.default (seen_test binary name) (IsOfGroup of_test (seen_test binary name)) true) it.filters

-- they list the binaries on which each of them can hold, and select the tests on which all of them
-- hold
pub record AreAnswersOf (workspace : WorkspaceRecord) (of_test : query.Test → PlanSettings) (it : InForce) (answers : Answers) : Type 0 where
  pub lists : (binary : Binary) → Tells (AllCanHold workspace it binary) (answers.lists binary)
  pub selects : (binary : Binary) (name : List ℕ) → Tells (AllHold workspace of_test it binary name) (answers.selects binary name)

-- what the filters in force answer, or that the filterset is refused
abbrev pub IsChosen : Inputs → Choice → Result Answers PlanFault → Type 0
IsChosen inputs choice (Ok answers) = (it : InForce) × AreInForce inputs choice.run it × AreAnswersOf inputs.workspace choice.of_test it answers
IsChosen inputs choice (Err refusal) = (refusal ≡ refused.Filterset) × IsRefused inputs.workspace choice.run.known_groups inputs.filterset
