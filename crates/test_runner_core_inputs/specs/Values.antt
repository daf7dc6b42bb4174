-- The values of the parts that have no parts.
use Rattle.std.specs.Prelude.{ℕ, Bool, true, false, List, codes, Option, None, Some, Result, Ok, Err, nat_lt, if◌then◌else◌, option_and_then}
use Rattle.std.specs.Str.{bytes_eq}
use Rattle.semver.specs.Parse.{Parts}
use Rattle.serde_json.specs.Data.{Data}
use Rattle.serde_json.specs.Find.{as_bool, as_number, as_str, as_u64}
use Rattle.nextest_version.specs.Reading.{version_of}
use Rattle.nextest_config_elements_identifiers.specs.Identifier.{tool_name}
use Rattle.nextest_config_elements_identifiers.specs.declared.invalid_identifier.InvalidIdentifier.{InvalidIdentifier}
use Rattle.test_runner_core_inputs.specs.declared.leaves.OnlyTrue.{OnlyTrue}
use Rattle.test_runner_core_inputs.specs.declared.source_word.SourceWord.{SourceWord}
use Rattle.test_runner_core_inputs.specs.declared.source_word.SourceWord.TheVariants as words
use Rattle.nextest_config_elements_choices.specs.declared.run_mode.NextestRunMode.{NextestRunMode}
use Rattle.nextest_config_elements_choices.specs.declared.run_mode.NextestRunMode.TheVariants as modes
use Rattle.test_runner_core_workspace.specs.Workspace.{has_separator}
use Rattle.test_runner_core_workspace.specs.declared.record.BinaryKind.{BinaryKind}
use Rattle.test_runner_core_workspace.specs.declared.record.BinaryKind.TheVariants as kinds
use Rattle.test_runner_core_workspace.specs.declared.record.BuildPlatform.{BuildPlatform}
use Rattle.test_runner_core_workspace.specs.declared.record.BuildPlatform.TheVariants as platforms

-- a text, a truth value
abbrev pub text : Data → Option (List ℕ)
text = as_str

abbrev pub truth : Data → Option Bool
truth = as_bool

-- a text that is one of the words of a kind, a platform, a mode
abbrev pub kind_of : List ℕ → Option BinaryKind
kind_of word =
    if bytes_eq word (codes "lib") then Some kinds.Lib
    else if bytes_eq word (codes "test") then Some kinds.Test
    else if bytes_eq word (codes "bench") then Some kinds.Bench
    else if bytes_eq word (codes "bin") then Some kinds.Bin
    else if bytes_eq word (codes "example") then Some kinds.Example
    else if bytes_eq word (codes "proc-macro") then Some kinds.ProcMacro
    else None

abbrev pub kind : Data → Option BinaryKind
kind given = option_and_then kind_of (as_str given)

abbrev pub platform_of : List ℕ → Option BuildPlatform
platform_of word =
    if bytes_eq word (codes "host") then Some platforms.Host
    else if bytes_eq word (codes "target") then Some platforms.Target
    else None

abbrev pub platform : Data → Option BuildPlatform
platform given = option_and_then platform_of (as_str given)

abbrev pub mode_of : List ℕ → Option NextestRunMode
mode_of word =
    if bytes_eq word (codes "test") then Some modes.Test
    else if bytes_eq word (codes "benchmark") then Some modes.Benchmark
    else None

abbrev pub mode : Data → Option NextestRunMode
mode given = option_and_then mode_of (as_str given)

-- a text without tab, line feed and carriage return
abbrev pub undivided_of : List ℕ → Option (List ℕ)
undivided_of bytes = if has_separator bytes then None else Some bytes

abbrev pub undivided_text_of : Data → Option (List ℕ)
undivided_text_of given = option_and_then undivided_of (as_str given)

-- a number from 1 on
abbrev pub positive_of : ℕ → Option ℕ
positive_of count = if nat_lt 0 count then Some count else None

abbrev pub positive : Data → Option ℕ
positive given = option_and_then positive_of (option_and_then as_u64 (as_number given))

-- a text that is a version
abbrev pub version : Data → Option Parts
version given = option_and_then version_of (as_str given)

-- the name of a tool
abbrev pub name_of_tool : Result (List ℕ) InvalidIdentifier → Option (List ℕ)
name_of_tool (Ok name) = Some name
name_of_tool (Err refused) = None

abbrev pub tool : Data → Option (List ℕ)
tool given = option_and_then (λ written. name_of_tool (tool_name written)) (as_str given)

-- the word of a source's kind
abbrev pub source_word_of : List ℕ → Option SourceWord
source_word_of word =
    if bytes_eq word (codes "tool") then Some words.Tool
    else if bytes_eq word (codes "explicit") then Some words.Explicit
    else if bytes_eq word (codes "discovered") then Some words.Discovered
    else None

abbrev pub source_word : Data → Option SourceWord
source_word given = option_and_then source_word_of (as_str given)

-- true, and no other
abbrev pub true_of : Bool → Option OnlyTrue
true_of true = Some (record {})
true_of false = None

abbrev pub only_true : Data → Option OnlyTrue
only_true given = option_and_then true_of (as_bool given)
