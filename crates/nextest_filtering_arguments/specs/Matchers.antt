-- What reading a matcher or a platform as an argument gives, faults and all.
use Rattle.std.specs.Prelude.{◌≡◌, ℕ, ◌≤◌, ◌<◌, Bool, false, List, ◌∷◌, ◌++◌, Option, Some, None, Result, Ok, Err}
use Rattle.std.specs.Borrow.{Bor}
use Rattle.nextest_filtering_escapes.specs.Regex.{IsRegexText}
use Rattle.nextest_filtering_ast.specs.declared.leaf.BuildPlatform.{BuildPlatform}
use Rattle.nextest_filtering_ast.specs.declared.matcher.NameMatcher.{NameMatcher}
use Rattle.nextest_filtering_ast.specs.Tree.{Comparison, equal, contains, glob, regex, Matcher, matcher_of, Subject, package_name, dependencies, dependents, kind, binary_name, binary_id, test_name, group, IsRegex}
use Rattle.nextest_filtering_ast.specs.Words.{platform_word}
use Rattle.nextest_filtering_ast.specs.Grammar.{after_blanks, Behind, Spells, IsPattern}
use Rattle.nextest_filtering_arguments.specs.declared.stop.Stop.{Stop}
use Rattle.nextest_filtering_arguments.specs.declared.stop.Stop.TheVariants.{NoTree, Memory}
use Rattle.nextest_filtering_arguments.specs.declared.subject.Subject.{Subject as Looked}
use Rattle.nextest_filtering_arguments.specs.declared.subject.Subject.TheVariants as looked
use Rattle.nextest_filtering_arguments.specs.declared.subject.Comparing.{Comparing}
use Rattle.nextest_filtering_arguments.specs.declared.subject.Comparing.TheVariants as by
use Rattle.nextest_filtering_arguments.specs.Faults.{IsSuffix}

-- what a predicate looks at
abbrev pub subject_of : Looked → Subject
subject_of looked.Package = package_name
subject_of looked.Deps = dependencies
subject_of looked.Rdeps = dependents
subject_of looked.Kind = kind
subject_of looked.Binary = binary_name
subject_of looked.BinaryId = binary_id
subject_of looked.Test = test_name
subject_of looked.Group = group

-- how a text is compared with
abbrev pub comparison_of : Comparing → Comparison
comparison_of by.Equal = equal
comparison_of by.Contains = contains
comparison_of by.Glob = glob

-- the sign in front of such a text
abbrev pub sign_of : Comparing → ℕ
sign_of by.Equal = 61
sign_of by.Contains = 126
sign_of by.Glob = 35

-- An argument was read, as found and rest. It stands there where no fault was added; and where any
-- such argument stands there, with a `)` behind, then this is the one, and no fault was added. None
-- was found only where a fault was added.
pub record IsArgument {F V : Type 0} (value_of : F → V) (Reads : V → List ℕ → List ℕ → Type 0) (text : List ℕ) (old new : ℕ) (found : Option F) (rest : List ℕ) : Type 0 where
  pub more : old ≤ new
  pub behind : IsSuffix rest text
  pub reads : new ≡ old → (f : F) × (found ≡ Some f) × (end : List ℕ) × Reads (value_of f) text end × (after_blanks end ≡ after_blanks rest)
  pub only : (value : V) (end x : List ℕ) → Reads value text end → after_blanks end ≡ 41 ∷ x
      → (new ≡ old) × ((f : F) × (found ≡ Some f) × (value ≡ value_of f)) × (after_blanks end ≡ after_blanks rest)

-- no argument with a `)` behind stands there, for a fault that was added
pub record IsNoArgument {V : Type 0} (Reads : V → List ℕ → List ℕ → Type 0) (text : List ℕ) (old new : ℕ) : Type 0 where
  pub more : old < new
  pub never : (value : V) (end x : List ℕ) → Reads value text end → after_blanks end ≡ 41 ∷ x → ⊥

-- what reading a matcher answers
abbrev pub FindsMatcher : (Matcher → List ℕ → List ℕ → Type 0) → List ℕ → ℕ → ℕ → Result (Option NameMatcher × Bor (List ℕ)) Stop → Type 0
FindsMatcher Reads text old new (Ok found) = IsArgument matcher_of Reads text old new found.0 found.1.now
FindsMatcher Reads text old new (Err NoTree) = IsNoArgument Reads text old new
FindsMatcher Reads text old new (Err Memory) = Unit {0}

-- a text to compare with so, behind its sign or without one
abbrev pub ReadsCompared : Comparison → Bool → Matcher → List ℕ → List ℕ → Type 0
ReadsCompared comparison implicit m text rest = (m.comparison ≡ comparison) × (m.implicit ≡ implicit) × IsPattern comparison m.text
    × ((raw : List ℕ) × Behind raw text rest × Spells raw m.text)

-- a regular expression behind its first `/`
abbrev pub ReadsPattern : Matcher → List ℕ → List ℕ → Type 0
ReadsPattern m text rest = (m.comparison ≡ regex) × (m.implicit ≡ false) × IsRegex m.text
    × ((raw : List ℕ) × (text ≡ raw ++ 47 ∷ rest) × IsRegexText raw m.text)

-- a platform's name
abbrev pub ReadsPlatform : BuildPlatform → List ℕ → List ℕ → Type 0
ReadsPlatform platform text rest = (raw : List ℕ) × Behind raw text rest × Spells raw (platform_word platform)

-- a platform stands for itself
abbrev pub platform_itself : BuildPlatform → BuildPlatform
platform_itself platform = platform

-- a matcher was made of the text, or a fault was added where the text can't be compared with so
abbrev pub IsMade : Comparison → Bool → List ℕ → ℕ → ℕ → Option NameMatcher → Type 0
IsMade comparison implicit text old new (Some m) = (new ≡ old) × (matcher_of m ≡ record { comparison = comparison; implicit = implicit; text = text }) × IsPattern comparison text
IsMade comparison implicit text old new None = (old < new) × (IsPattern comparison text → ⊥)
