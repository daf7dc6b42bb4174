-- How inputs are read: part by part in the written order, up to the first that is missing,
-- ill-typed or not allowed.
use Rattle.std.specs.Prelude.{ℕ, Bool, true, false, List, [], ◌∷◌, None, Some, Result, Ok, Err, codes, is_some, if◌then◌else◌}
use Rattle.std.specs.List.{join_with_byte}
use Rattle.std.specs.Option.{option_map_or}
use Rattle.serde_json.specs.Data.{Data}
use Rattle.serde_json.specs.Find.{as_object}
use Rattle.test_runner_core_workspace.specs.declared.record.Package.{Package}
use Rattle.test_runner_core_workspace.specs.declared.record.Link.{Link}
use Rattle.test_runner_core_workspace.specs.declared.record.Binary.{Binary}
use Rattle.test_runner_core_workspace.specs.declared.record.BinaryTests.{BinaryTests}
use Rattle.test_runner_core_workspace.specs.declared.record.BinaryTests.TheVariants as tests
use Rattle.test_runner_core_workspace.specs.declared.record.WorkspaceRecord.{WorkspaceRecord}
use Rattle.nextest_config_elements_choices.specs.declared.run_mode.NextestRunMode.TheVariants as modes
use Rattle.nextest_config_resolution_sources.specs.declared.source.ConfigSource.{ConfigSource}
use Rattle.nextest_config_elements_identifiers.specs.declared.source_kind.ConfigSourceKind.{ConfigSourceKind}
use Rattle.nextest_config_elements_identifiers.specs.declared.source_kind.ConfigSourceKind.TheVariants as kinds
use Rattle.nextest_config_resolution_sources.specs.declared.source.ConfigSourceOutcome.{ConfigSourceOutcome}
use Rattle.nextest_config_resolution_sources.specs.declared.source.ConfigSourceOutcome.TheVariants as outcomes
use Rattle.test_runner_core_inputs.specs.declared.source_word.SourceWord.{SourceWord}
use Rattle.test_runner_core_inputs.specs.declared.source_word.SourceWord.TheVariants as words
use Rattle.test_runner_core_inputs.specs.declared.platform.FactRecord.{FactRecord}
use Rattle.test_runner_core_inputs.specs.declared.platform.PlatformRecord.{PlatformRecord}
use Rattle.test_runner_core_inputs.specs.declared.inputs.Inputs.{Inputs}
use Rattle.test_runner_core_inputs.specs.declared.inputs_error.InputsRefusal.{InputsRefusal}
use Rattle.test_runner_core_inputs.specs.declared.inputs_error.InputsRefusal.TheVariants as errors
pub use Rattle.nextest_json.specs.Reading.{Path, Reading, ◌>>=◌, under, leaf, text, required, some, optional, defaulted, element, each, list, object}
use Rattle.test_runner_core_inputs.specs.Given.{value_of, has_member, items, has_items}
use Rattle.test_runner_core_inputs.specs.Values as value

abbrev pub package_parts : Data → Reading Package
package_parts given = do
  id ← required (codes "id") text given
  name ← required (codes "name") text given
  Ok (record { id = id; name = name })

abbrev pub package_of : Data → Reading Package
package_of = object package_parts

-- from and to, in a list of two
abbrev pub link_parts : Data → Reading Link
link_parts given = do
  from ← element 0 text given
  to ← element 1 text given
  Ok (record { from = from; to = to })

abbrev pub link_of : Data → Reading Link
link_of given = if has_items 2 given then link_parts given else Err []

abbrev pub tests_fault : Data → Reading BinaryTests
tests_fault given = do
  cause ← required (codes "fault") text given
  Ok (tests.Fault cause)

-- a list of names, or an object with a fault
abbrev pub tests_of : Data → Reading BinaryTests
tests_of given = option_map_or (λ names. each text 0 names >>= λ read. Ok (tests.Names read)) (items given) (object tests_fault given)

abbrev pub binary_parts : Data → Reading Binary
binary_parts given = do
  id ← required (codes "id") text given
  name ← required (codes "name") text given
  owner ← required (codes "package") text given
  kind ← required (codes "kind") (leaf value.kind) given
  platform ← required (codes "platform") (leaf value.platform) given
  listed ← required (codes "tests") tests_of given
  Ok (record { id = id; name = name; «package» = owner; kind = kind; platform = platform; tests = listed })

abbrev pub binary_of : Data → Reading Binary
binary_of = object binary_parts

abbrev pub workspace_parts : Data → Reading WorkspaceRecord
workspace_parts given = do
  packages ← required (codes "packages") (list package_of) given
  links ← required (codes "links") (list link_of) given
  binaries ← required (codes "binaries") (list binary_of) given
  Ok (record { packages = packages; links = links; binaries = binaries })

abbrev pub workspace_of : Data → Reading WorkspaceRecord
workspace_of = object workspace_parts

-- the kind of a source: only a tool's has a name
abbrev pub kind_of_word : SourceWord → Data → Reading ConfigSourceKind
kind_of_word words.Tool given = do
  name ← required (codes "tool") (leaf value.tool) given
  Ok (kinds.Tool name)
kind_of_word words.Explicit given = Ok kinds.ExplicitRepository
kind_of_word words.Discovered given = Ok kinds.DiscoveredRepository

abbrev pub kind_of_source : Data → Reading ConfigSourceKind
kind_of_source given = do
  word ← required (codes "kind") (leaf value.source_word) given
  kind_of_word word given

-- exactly one of three forms stands: a text, that there is none, or why it wasn't read
abbrev pub outcome_in : Bool → Bool → Bool → Data → Reading ConfigSourceOutcome
outcome_in true false false given = do
  found ← required (codes "text") text given
  Ok (outcomes.Text found)
outcome_in false true false given = do
  missing ← required (codes "missing") (leaf value.only_true) given
  Ok outcomes.NotFound
outcome_in false false true given = do
  cause ← required (codes "failed") text given
  Ok (outcomes.Failed cause)
outcome_in _ _ _ given = Err []

abbrev pub outcome_of : Data → Reading ConfigSourceOutcome
outcome_of given = outcome_in (has_member (codes "text") given) (has_member (codes "missing") given) (has_member (codes "failed") given) given

abbrev pub source_parts : Data → Reading ConfigSource
source_parts given = do
  kind ← kind_of_source given
  path ← required (codes "path") (leaf value.undivided_text_of) given
  outcome ← outcome_of given
  Ok (record { kind = kind; path = path; outcome = outcome })

abbrev pub source_of : Data → Reading ConfigSource
source_of = object source_parts

-- a fact has a name, perhaps a value, and whether it holds
abbrev pub plain_fact : Data → Reading FactRecord
plain_fact given = do
  name ← element 0 text given
  holds ← element 1 (leaf value.truth) given
  Ok (record { name = name; value = None; holds = holds })

abbrev pub valued_fact : Data → Reading FactRecord
valued_fact given = do
  name ← element 0 text given
  about ← element 1 text given
  holds ← element 2 (leaf value.truth) given
  Ok (record { name = name; value = Some about; holds = holds })

abbrev pub fact_of : Data → Reading FactRecord
fact_of given = if has_items 2 given then plain_fact given else if has_items 3 given then valued_fact given else Err []

abbrev pub platform_parts : Data → Reading PlatformRecord
platform_parts given = do
  triple ← required (codes "triple") text given
  facts ← required (codes "facts") (list fact_of) given
  Ok (record { triple = triple; facts = facts })

abbrev pub platform_of : Data → Reading PlatformRecord
platform_of = object platform_parts

-- where no host is told
abbrev pub no_platform : PlatformRecord
no_platform = record { triple = []; facts = [] }

abbrev pub inputs_parts : Data → Reading Inputs
inputs_parts given = do
  workspace ← required (codes "workspace") workspace_of given
  sources ← required (codes "sources") (list source_of) given
  current_version ← required (codes "current_version") (leaf value.version) given
  profile ← defaulted (codes "profile") text (codes "default") given
  mode ← defaulted (codes "mode") (leaf value.mode) modes.Test given
  host ← defaulted (codes "host") platform_of no_platform given
  target ← optional (codes "target") platform_of given
  filterset ← optional (codes "filterset") text given
  ignore_default_filter ← defaulted (codes "ignore_default_filter") (leaf value.truth) false given
  override_version_check ← defaulted (codes "override_version_check") (leaf value.truth) false given
  processors ← defaulted (codes "processors") (leaf value.positive) 1 given
  root ← defaulted (codes "root") text [] given
  Ok (record {
    workspace = workspace;
    sources = sources;
    current_version = current_version;
    profile = profile;
    mode = mode;
    host = host;
    target = target;
    filterset = filterset;
    ignore_default_filter = ignore_default_filter;
    override_version_check = override_version_check;
    processors = processors;
    root = root;
  })

-- the whole: a top that is no object has no workspace
abbrev pub inputs_of : Data → Reading Inputs
inputs_of given = if is_some (as_object given) then inputs_parts given else Err (codes "workspace" ∷ [])

-- a path, its steps joined by dots
abbrev pub dotted_path : Path → List ℕ
dotted_path path = join_with_byte 46 path

-- what is refused is told by its path
abbrev pub refused_at : Reading Inputs → Result Inputs InputsRefusal
refused_at (Ok inputs) = Ok inputs
refused_at (Err path) = Err (errors.Field (dotted_path path))

-- what bytes are as inputs: what is no JSON is refused as that
abbrev pub read_inputs : List ℕ → Result Inputs InputsRefusal
read_inputs bytes = option_map_or (λ given. refused_at (inputs_of given)) (value_of bytes) (Err errors.Syntax)
