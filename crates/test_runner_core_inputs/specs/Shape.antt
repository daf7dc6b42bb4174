-- Which JSON is which inputs: what has to stand under each name, in any order.
use Rattle.std.specs.Prelude.{◌≡◌, ◌⊎◌, ℕ, false, List, [], ◌∷◌, codes, Option, None, Some}
use Rattle.serde_json.specs.Data.{Data}
use Rattle.nextest_config_elements_choices.specs.declared.run_mode.NextestRunMode.TheVariants as modes
use Rattle.test_runner_core_workspace.specs.declared.record.Package.{Package}
use Rattle.test_runner_core_workspace.specs.declared.record.Link.{Link}
use Rattle.test_runner_core_workspace.specs.declared.record.Binary.{Binary}
use Rattle.test_runner_core_workspace.specs.declared.record.BinaryTests.{BinaryTests}
use Rattle.test_runner_core_workspace.specs.declared.record.BinaryTests.TheVariants as tests
use Rattle.test_runner_core_workspace.specs.declared.record.WorkspaceRecord.{WorkspaceRecord}
use Rattle.nextest_config_resolution_sources.specs.declared.source.ConfigSource.{ConfigSource}
use Rattle.nextest_config_elements_identifiers.specs.declared.source_kind.ConfigSourceKind.{ConfigSourceKind}
use Rattle.nextest_config_elements_identifiers.specs.declared.source_kind.ConfigSourceKind.TheVariants as kinds
use Rattle.nextest_config_resolution_sources.specs.declared.source.ConfigSourceOutcome.{ConfigSourceOutcome}
use Rattle.nextest_config_resolution_sources.specs.declared.source.ConfigSourceOutcome.TheVariants as outcomes
use Rattle.test_runner_core_inputs.specs.declared.source_word.SourceWord.TheVariants as words
use Rattle.test_runner_core_inputs.specs.declared.platform.FactRecord.{FactRecord}
use Rattle.test_runner_core_inputs.specs.declared.platform.PlatformRecord.{PlatformRecord}
use Rattle.test_runner_core_inputs.specs.declared.inputs.Inputs.{Inputs}
use Rattle.test_runner_core_inputs.specs.Given.{value_of, member, items}
use Rattle.test_runner_core_inputs.specs.Reading.{no_platform}
use Rattle.test_runner_core_inputs.specs.Values as value

-- a part that has no parts has a value
abbrev pub Is : {A : Type 0} → (Data → Option A) → Data → A → Type 0
Is value given x = value given ≡ Some x

-- nothing stands under a name
abbrev pub Lacks : List ℕ → Data → Type 0
Lacks name given = member name given ≡ None

-- what stands under a name has a shape
abbrev pub Has : {A : Type 0} → List ℕ → (Data → A → Type 0) → Data → A → Type 0
Has name IsShape given x = (part : Data) × (member name given ≡ Some part) × IsShape part x

-- it has the shape, or there is nothing
abbrev pub MayHave : {A : Type 0} → List ℕ → (Data → A → Type 0) → Data → Option A → Type 0
MayHave name IsShape given (Some x) = Has name IsShape given x
MayHave name IsShape given None = Lacks name given

-- it has the shape, or there is nothing and it is something else
abbrev pub HasOr : {A : Type 0} → List ℕ → (Data → A → Type 0) → A → Data → A → Type 0
HasOr name IsShape otherwise given x = Has name IsShape given x ⊎ (Lacks name given × (x ≡ otherwise))

-- each item has the shape, and there are no more
abbrev pub AreEach : {A : Type 0} → (Data → A → Type 0) → List Data → List A → Type 0
AreEach IsShape [] [] = Unit {0}
AreEach IsShape [] (x ∷ xs) = ⊥
AreEach IsShape (part ∷ parts) [] = ⊥
AreEach IsShape (part ∷ parts) (x ∷ xs) = IsShape part x × AreEach IsShape parts xs

abbrev pub IsListOf : {A : Type 0} → (Data → A → Type 0) → Data → List A → Type 0
IsListOf IsShape given xs = (parts : List Data) × (items given ≡ Some parts) × AreEach IsShape parts xs

pub record IsPackage (given : Data) (it : Package) : Type 0 where
  pub id : Has (codes "id") (Is value.text) given it.id
  pub name : Has (codes "name") (Is value.text) given it.name

-- [from, to]
pub record IsLink (given : Data) (it : Link) : Type 0 where
  pub first : Data
  pub second : Data
  pub whole : items given ≡ Some (first ∷ second ∷ [])
  pub from : Is value.text first it.from
  pub to : Is value.text second it.to

-- a list of names, or an object with a fault
abbrev pub AreTests : Data → BinaryTests → Type 0
AreTests given (tests.Names names) = IsListOf (Is value.text) given names
AreTests given (tests.Fault cause) = Has (codes "fault") (Is value.text) given cause

pub record IsBinary (given : Data) (it : Binary) : Type 0 where
  pub id : Has (codes "id") (Is value.text) given it.id
  pub name : Has (codes "name") (Is value.text) given it.name
  pub owner : Has (codes "package") (Is value.text) given it.«package»
  pub kind : Has (codes "kind") (Is value.kind) given it.kind
  pub platform : Has (codes "platform") (Is value.platform) given it.platform
  pub tests : Has (codes "tests") AreTests given it.tests

pub record IsWorkspace (given : Data) (it : WorkspaceRecord) : Type 0 where
  pub packages : Has (codes "packages") (IsListOf IsPackage) given it.packages
  pub links : Has (codes "links") (IsListOf IsLink) given it.links
  pub binaries : Has (codes "binaries") (IsListOf IsBinary) given it.binaries

-- a source's kind, and of a tool its name
abbrev pub IsOfKind : Data → ConfigSourceKind → Type 0
IsOfKind given (kinds.Tool name) =
    Has (codes "kind") (Is value.source_word) given words.Tool × Has (codes "tool") (Is value.tool) given name
IsOfKind given kinds.ExplicitRepository = Has (codes "kind") (Is value.source_word) given words.Explicit
IsOfKind given kinds.DiscoveredRepository = Has (codes "kind") (Is value.source_word) given words.Discovered

-- exactly one of text, missing and failed
abbrev pub HasOutcome : Data → ConfigSourceOutcome → Type 0
HasOutcome given (outcomes.Text text) =
    Has (codes "text") (Is value.text) given text × Lacks (codes "missing") given × Lacks (codes "failed") given
HasOutcome given outcomes.NotFound =
    Lacks (codes "text") given × Has (codes "missing") (Is value.only_true) given (record {}) × Lacks (codes "failed") given
HasOutcome given (outcomes.Failed cause) =
    Lacks (codes "text") given × Lacks (codes "missing") given × Has (codes "failed") (Is value.text) given cause

pub record IsSource (given : Data) (it : ConfigSource) : Type 0 where
  pub kind : IsOfKind given it.kind
  pub path : Has (codes "path") (Is value.undivided_text_of) given it.path
  pub outcome : HasOutcome given it.outcome

-- [name, holds]
pub record IsPlainFact (given : Data) (it : FactRecord) : Type 0 where
  pub first : Data
  pub second : Data
  pub whole : items given ≡ Some (first ∷ second ∷ [])
  pub name : Is value.text first it.name
  pub no_value : it.value ≡ None
  pub holds : Is value.truth second it.holds

-- [name, value, holds]
pub record IsValuedFact (given : Data) (it : FactRecord) : Type 0 where
  pub first : Data
  pub second : Data
  pub third : Data
  pub whole : items given ≡ Some (first ∷ second ∷ third ∷ [])
  pub name : Is value.text first it.name
  pub about : List ℕ
  pub is_text : Is value.text second about
  pub has_value : it.value ≡ Some about
  pub holds : Is value.truth third it.holds

abbrev pub IsFact : Data → FactRecord → Type 0
IsFact given it = IsPlainFact given it ⊎ IsValuedFact given it

pub record IsPlatform (given : Data) (it : PlatformRecord) : Type 0 where
  pub triple : Has (codes "triple") (Is value.text) given it.triple
  pub facts : Has (codes "facts") (IsListOf IsFact) given it.facts

pub record IsInputs (given : Data) (it : Inputs) : Type 0 where
  pub workspace : Has (codes "workspace") IsWorkspace given it.workspace
  pub sources : Has (codes "sources") (IsListOf IsSource) given it.sources
  pub current_version : Has (codes "current_version") (Is value.version) given it.current_version
  pub profile : HasOr (codes "profile") (Is value.text) (codes "default") given it.profile
  pub mode : HasOr (codes "mode") (Is value.mode) modes.Test given it.mode
  pub host : HasOr (codes "host") IsPlatform no_platform given it.host
  pub target : MayHave (codes "target") IsPlatform given it.target
  pub filterset : MayHave (codes "filterset") (Is value.text) given it.filterset
  pub ignore_default_filter : HasOr (codes "ignore_default_filter") (Is value.truth) false given it.ignore_default_filter
  pub override_version_check : HasOr (codes "override_version_check") (Is value.truth) false given it.override_version_check
  pub processors : HasOr (codes "processors") (Is value.positive) 1 given it.processors
  pub root : HasOr (codes "root") (Is value.text) [] given it.root

-- the bytes are the inputs
pub record AreInputs (bytes : List ℕ) (it : Inputs) : Type 0 where
  pub given : Data
  pub json : value_of bytes ≡ Some given
  pub shape : IsInputs given it
