-- A glob as a contract sees it, and what making one gives.
use Rattle.std.specs.Prelude.{◌≡◌, ℕ, List, Result, Ok, Err, ⊤}
use Rattle.nextest_filtering_globs.specs.declared.construct_error.GlobConstructError.{GlobConstructError}
use Rattle.nextest_filtering_globs.specs.declared.construct_error.GlobConstructError.TheVariants as fault
use Rattle.nextest_filtering_globs.specs.declared.token.GlobToken.{GlobToken}
use Rattle.nextest_filtering_globs.specs.Syntax.{IsGlob}

-- its text, and its tokens
pub record Glob : Type 0 where
  pub text : List ℕ
  pub tokens : List GlobToken

-- the glob of this text and these tokens
abbrev pub glob : List ℕ → List GlobToken → Glob
glob text tokens = record { text = text; tokens = tokens }

-- a glob of this text, as its tokens are spelled; a refusal as invalid says that it has none, and
-- want of memory says nothing
abbrev pub Constructs : List ℕ → Result Glob GlobConstructError → Type 0
Constructs text (Ok made) = (made.text ≡ text) × IsGlob text made.tokens
Constructs text (Err fault.InvalidGlob) = (tokens : List GlobToken) → IsGlob text tokens → ⊥
Constructs text (Err fault.OutOfMemory) = ⊤
