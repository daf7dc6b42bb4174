-- What holds of every glob.
use Rattle.std.specs.Prelude.{◌≡◌, ℕ, List}
use Rattle.nextest_filtering_globs.specs.declared.token.GlobToken.{GlobToken}
use Rattle.nextest_filtering_globs.specs.Syntax.{IsGlob}

-- a text spells one list of tokens at most
abbrev pub OneReading : Type 0
OneReading = (text : List ℕ) (first second : List GlobToken) → IsGlob text first → IsGlob text second → first ≡ second
