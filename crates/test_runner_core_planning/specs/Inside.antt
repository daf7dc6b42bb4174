-- What calls inside of this crate give: the filters in force as they are compiled, and all that
-- inputs ask for.
use Rattle.std.specs.Prelude.{◌≡◌, ℕ, Bool, List, Option, None, Some, Result, Ok, Err, ⊤}
use Rattle.std.specs.List.{cons_option}
use Rattle.nextest_config_elements_identifiers.specs.Groups.{text_of}
use Rattle.nextest_config_elements_identifiers.specs.declared.test_group.TestGroup.{TestGroup}
use Rattle.nextest_config_resolution_profiles.specs.Evaluatable.{Evaluatable}
use Rattle.nextest_config_resolution_profiles.specs.Held.{IsGroupFor}
use Rattle.nextest_config_resolution_profiles.specs.Whole.{Whole}
use Rattle.nextest_filtering_compiling.specs.Compiling.{IsCompiled}
use Rattle.nextest_filtering_compiling.specs.Filtersets.{HasOnTest}
use Rattle.nextest_filtering_compiling.specs.declared.filterset.Filterset.{Filterset}
use Rattle.nextest_filtering_filters.specs.Filter.{Compiled, filter_of}
use Rattle.nextest_filtering_filters.specs.Query.{Test}
use Rattle.nextest_filtering_filters.specs.declared.known_groups.KnownGroups.{KnownGroups}
use Rattle.nextest_filtering_ast.specs.Meaning.{MatchesName}
use Rattle.nextest_filtering_ast.specs.Tree.{Matcher, Tree}
use Rattle.test_runner_core_inputs.specs.declared.inputs.Inputs.{Inputs}
use Rattle.test_runner_core_platforms.specs.declared.platform_spec.PlatformSpec.{PlatformSpec}
use Rattle.test_runner_core_settings.specs.Calls.{ChoosesRun}
use Rattle.test_runner_core_settings.specs.Pass.{pass_of}
use Rattle.test_runner_core_settings.specs.Sets.{Reads}
use Rattle.test_runner_core_settings.specs.declared.pass.VersionPass.{VersionPass}
use Rattle.test_runner_core_workspace.specs.Lister.{Answer}
use Rattle.test_runner_core_workspace.specs.Workspace.{refusal_of}
use Rattle.test_runner_core_workspace.specs.declared.record.Binary.{Binary}
use Rattle.test_runner_core_workspace.specs.declared.record.WorkspaceRecord.{WorkspaceRecord}
use Rattle.test_runner_core_planning.specs.Checks.{BreaksFirst, before_listing}
use Rattle.test_runner_core_planning.specs.Filtering.{IsRefused, IsTaken, context_of, graph_of, unless_ignored}
use Rattle.test_runner_core_planning.specs.Plan.{warnings_of}
use Rattle.test_runner_core_planning.specs.declared.plan_error.PlanError.{PlanError}
use Rattle.test_runner_core_planning.specs.declared.plan_error.PlanError.TheVariants as error
use Rattle.test_runner_core_planning.specs.declared.plan_fault.PlanFault.{PlanFault}
use Rattle.test_runner_core_planning.specs.declared.plan_fault.PlanFault.TheVariants as refused
use Rattle.test_runner_core_planning.specs.declared.wanted.Settled.{Settled}
use Rattle.test_runner_core_planning.specs.declared.wanted.Wanted.{Wanted}

-- a filterset, where one is given, as it is compiled
abbrev pub IsFilteredBy : WorkspaceRecord → KnownGroups → Option (List ℕ) → Option Compiled → Type 0
IsFilteredBy workspace known None None = ⊤
IsFilteredBy workspace known None (Some filter) = ⊥
IsFilteredBy workspace known (Some text) None = ⊥
IsFilteredBy workspace known (Some text) (Some filter) = (tree : Tree) × IsTaken workspace known text tree × IsCompiled (graph_of workspace) tree (filter_of filter)

-- a call gives it, or refuses it; want of memory says nothing
abbrev pub GivesFilterset : WorkspaceRecord → KnownGroups → Option (List ℕ) → Result (Option Compiled) PlanError → Type 0
GivesFilterset workspace known text (Ok found) = IsFilteredBy workspace known text found
GivesFilterset workspace known text (Err (error.Refused refusal)) = (refusal ≡ refused.Filterset) × IsRefused workspace known text
GivesFilterset workspace known text (Err error.OutOfMemory) = ⊤

-- the filters in force, as they are compiled
abbrev pub in_force : Option Compiled → Bool → Compiled → List Compiled
in_force filterset ignored default = cons_option filterset (unless_ignored ignored default)

-- inputs are refused before a binary is asked
abbrev pub IsRefusedEarly : Inputs → PlanFault → Type 0
IsRefusedEarly inputs refusal = (answer : Binary → Answer) → BreaksFirst answer inputs before_listing refusal

-- neither their workspace nor what their sources ask for refuses them
pub record IsPassed (inputs : Inputs) : Type 0 where
  pub workspace : refusal_of inputs.workspace ≡ None
  pub passed : VersionPass
  pub passes : pass_of inputs ≡ Ok passed

-- inputs whose workspace and versions aren't refused have this configuration
pub record IsConfigured (inputs : Inputs) (config : Whole Filterset PlatformSpec) : Type 0 where
  pub passed : IsPassed inputs
  pub reads : Reads (context_of inputs.workspace) inputs config

-- a call gives the configuration of inputs, with all warnings, and their workspace as filtersets
-- take it, or refuses them
abbrev pub AreSettled : Inputs → Result Settled PlanError → Type 0
AreSettled inputs (Ok it) = IsConfigured inputs it.config × (it.warnings ≡ warnings_of inputs) × (it.cx ≡ context_of inputs.workspace)
AreSettled inputs (Err (error.Refused refusal)) = IsRefusedEarly inputs refusal
AreSettled inputs (Err error.OutOfMemory) = ⊤

-- what inputs ask for, as it is read: the chosen profile, what it sets for the run, and the
-- filterset
pub record HasWanted (inputs : Inputs) (wanted : Wanted) : Type 0 where
  pub passed : IsPassed inputs
  pub chooses : ChoosesRun (context_of inputs.workspace) inputs wanted.run
  pub filtered : IsFilteredBy inputs.workspace wanted.run.settings.known_groups inputs.filterset wanted.filterset

-- a call gives all that inputs ask for, or refuses them
abbrev pub GivesWanted : Inputs → Result Wanted PlanError → Type 0
GivesWanted inputs (Ok wanted) = HasWanted inputs wanted
GivesWanted inputs (Err (error.Refused refusal)) = IsRefusedEarly inputs refusal
GivesWanted inputs (Err error.OutOfMemory) = ⊤

-- ---- what a profile answers

-- the group that a profile has for a test has a name that is matched
abbrev pub IsInGroup : Evaluatable Filterset PlatformSpec → Test → Matcher → Type 0
IsInGroup profile test m = (group : TestGroup) × IsGroupFor HasOnTest profile test group × MatchesName m (text_of group)
