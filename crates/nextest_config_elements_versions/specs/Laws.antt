-- What the laws say.
use Rattle.std.specs.Prelude.{◌≡◌, ℕ, List, [], ◌∷◌, ◌++◌, None, Some, Ok, Err, decimal}
use Rattle.semver.specs.Parse.{Parts}
use Rattle.nextest_version.specs.Reading.{version_of}
use Rattle.nextest_config_elements_versions.specs.Demand.{asked_version}
use Rattle.nextest_config_elements_versions.specs.Sources.{Asking, Comes, Refusal, Source, askings, config_in, merge_of}
use Rattle.nextest_config_elements_versions.specs.declared.version_only.VersionOnlyConfig.{VersionOnlyConfig}

-- a list comes to one result
abbrev pub OneConfig : Type 0
OneConfig = (all : List Asking) (one other : VersionOnlyConfig) → Comes all one → Comes all other → one ≡ other

-- each list comes to what its sources come to, merged one by one
abbrev pub EachComes : Type 0
EachComes = (all : List Asking) → Comes all (config_in all)

-- a list comes to what its two parts come to, merged
abbrev pub Partition : Type 0
Partition = (front rest : List Asking) (one other : VersionOnlyConfig) → Comes front one → Comes rest other → Comes (front ++ rest) (merge_of one other)

-- the sources of a list come to this, and none is refused
abbrev pub SourcesCome : List Source → VersionOnlyConfig → Type 0
SourcesCome sources config = (all : List Asking) × (askings sources ≡ Ok all) × Comes all config

-- a list of sources is refused as the first of its two parts that is, and comes to what both come
-- to, merged
pub record PartitionOfSources : Type 0 where
  pub comes : (front rest : List Source) (one other : VersionOnlyConfig) → SourcesCome front one → SourcesCome rest other → SourcesCome (front ++ rest) (merge_of one other)
  pub front_refused : (front rest : List Source) (refusal : Refusal) → askings front ≡ Err refusal → askings (front ++ rest) ≡ Err refusal
  pub rest_refused : (front rest : List Source) (all : List Asking) (refusal : Refusal) → askings front ≡ Ok all → askings rest ≡ Err refusal → askings (front ++ rest) ≡ Err refusal

-- merging is associative
abbrev pub Associative : Type 0
Associative = (one other third : VersionOnlyConfig) → merge_of (merge_of one other) third ≡ merge_of one (merge_of other third)

-- the result of no sources changes nothing
abbrev pub Neutral : Type 0
Neutral = (none one : VersionOnlyConfig) → Comes [] none → (merge_of none one ≡ one) × (merge_of one none ≡ one)

-- a text is the first two numbers of a version, with a dot between them, and the version is these
-- and 0
abbrev pub IsShortOf : List ℕ → Parts → Type 0
IsShortOf text version =
    (major : ℕ) × (minor : ℕ) × (text ≡ decimal major ++ (46 ∷ decimal minor)) × (version ≡ (major, minor, 0, [], []))

-- a text that is no version itself asks for one only if it is the first two numbers of it
abbrev pub ShortVersion : Type 0
ShortVersion = (text : List ℕ) (version : Parts) → version_of text ≡ None → asked_version text ≡ Some version → IsShortOf text version
