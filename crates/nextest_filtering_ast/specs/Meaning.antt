-- Which names a matcher matches.
use Rattle.std.specs.Prelude.{◌≡◌, ℕ, true, List, is_some}
use Rattle.std.specs.Option.{IsSomeAnd}
use Rattle.std.specs.Str.{chars}
use Rattle.std.specs.Str.Iter.{HasSubslice}
use Rattle.regex.specs.Patterns.{default_config, find_str}
use Rattle.regex_syntax.specs.Grammar.{read}
use Rattle.nextest_filtering_globs.specs.declared.token.GlobToken.{GlobToken}
use Rattle.nextest_filtering_globs.specs.Meaning.{Matches}
use Rattle.nextest_filtering_globs.specs.Syntax.{IsGlob}
use Rattle.nextest_filtering_ast.specs.Tree.{Comparison, equal, contains, glob, regex, Matcher}

-- a part of the name is what the regular expression matches
abbrev pub IsFoundIn : List ℕ → List ℕ → Type 0
IsFoundIn text name = IsSomeAnd (read default_config (chars text)) (λ (it, names). is_some (find_str it.value name 0) ≡ true)

-- the name compares so with the text: it is the text, has it as a part, is matched whole by the
-- glob, or in a part by the regular expression
abbrev pub Compares : Comparison → List ℕ → List ℕ → Type 0
Compares equal text name = name ≡ text
Compares contains text name = HasSubslice name text
Compares glob text name = (tokens : List GlobToken) × IsGlob text tokens × Matches tokens (chars name)
Compares regex text name = IsFoundIn text name

-- the matcher matches the name
abbrev pub MatchesName : Matcher → List ℕ → Type 0
MatchesName m name = Compares m.comparison m.text name
