-- What a source asks for: at most one required and one recommended version, and features by name.
use Rattle.std.specs.Prelude.{ℕ, Bool, true, false, List, [], ◌∷◌, ◌++◌, Option, None, Some, Ok, Err, codes}
use Rattle.std.specs.Option.{option_map_or, option_or}
use Rattle.toml.specs.Data.{Data, string, array, table, Members, no_members, member, as_bool, get_member}
use Rattle.semver.specs.Parse.{Parts}
use Rattle.nextest_version.specs.Reading.{version_of}
use Rattle.nextest_config_elements_toml.specs.Reading.{Reading, ◌>>=◌, leaf, optional, texts_in, under}
use Rattle.nextest_config_elements_versions.specs.declared.asked_versions.AskedVersions.{AskedVersions}
use Rattle.nextest_config_elements_versions.specs.declared.demand.VersionDemand.{VersionDemand}

-- the version that a text asks for: the one that it is, or with `.0` behind it, so that `X.Y` is
-- `X.Y.0`
abbrev pub asked_version : List ℕ → Option Parts
asked_version text = option_or (version_of text) (version_of (text ++ codes ".0"))

abbrev pub version : Data → Option Parts
version (string text) = asked_version text
version given = None

-- the versions that a source asks for
abbrev pub only_required : Parts → AskedVersions
only_required version = record { required = Some version; recommended = None }

abbrev pub both : Members → Reading AskedVersions
both members = do
  recommended ← optional (codes "recommended") version members
  required ← optional (codes "required") version members
  Ok (record { required = required; recommended = recommended })

-- `nextest-version`: a text asks for a required version, a table for one of each
abbrev pub versions : Data → Reading AskedVersions
versions (string text) = option_map_or (λ version. Ok (only_required version)) (asked_version text) (Err [])
versions (table members) = both members
versions given = Err []

-- each key of a table that is true is asked for, one that is false isn't
abbrev pub if_asked : Bool → List ℕ → List (List ℕ) → List (List ℕ)
if_asked true name names = name ∷ names
if_asked false name names = names

abbrev pub keys_in : Members → Reading (List (List ℕ))
keys_in no_members = Ok []
keys_in (member name given more) = do
  asked ← under name (leaf as_bool given)
  names ← keys_in more
  Ok (if_asked asked name names)

-- `experimental`: the names of features
abbrev pub features : Data → Reading (List (List ℕ))
features (array items) = texts_in 0 items
features (table members) = keys_in members
features given = Err []

-- what asks for nothing
abbrev pub no_versions : AskedVersions
no_versions = record { required = None; recommended = None }

abbrev pub no_demand : VersionDemand
no_demand = record { versions = no_versions; features = [] }

-- the two keys of the top table of a text
abbrev pub experimental_in : Members → Reading (List (List ℕ))
experimental_in top = under (codes "experimental") (option_map_or features (get_member (codes "experimental") top) (Ok []))

abbrev pub nextest_version_in : Members → Reading AskedVersions
nextest_version_in top = under (codes "nextest-version") (option_map_or versions (get_member (codes "nextest-version") top) (Ok no_versions))

-- the top table of a text; other keys are read past
abbrev pub demand_of : Members → Reading VersionDemand
demand_of top = do
  names ← experimental_in top
  asked ← nextest_version_in top
  Ok (record { versions = asked; features = names })
