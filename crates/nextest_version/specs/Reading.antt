-- Which texts are versions.
use Rattle.std.specs.Prelude.{◌≡◌, ℕ, List, Option, Some, None, Result, Ok, Err, ⊤}
use Rattle.semver.specs.Parse.{Parts, version_parts}
use Rattle.semver.specs.declared.error.Error.{Error as Refused}
use Rattle.nextest_version.specs.declared.plain_version.VersionError.{VersionError}
use Rattle.nextest_version.specs.declared.plain_version.VersionError.TheVariants as error

-- the version that a text is by SemVer 2.0
abbrev pub if_read : Result Parts Refused → Option Parts
if_read (Ok parts) = Some parts
if_read (Err refused) = None

abbrev pub version_of : List ℕ → Option Parts
version_of text = if_read (version_parts text)

-- a call reads a text as the version that it is; want of memory says nothing
abbrev pub Parses : List ℕ → Result Parts VersionError → Type 0
Parses text (Ok version) = version_of text ≡ Some version
Parses text (Err error.NoVersion) = version_of text ≡ None
Parses text (Err error.OutOfMemory) = ⊤
