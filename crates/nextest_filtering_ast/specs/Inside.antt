-- What looks for a regular expression.
use Rattle.std.specs.Prelude.{ℕ, List}
use Rattle.std.specs.Option.{IsSomeAnd}
use Rattle.std.specs.Str.{chars}
use Rattle.regex.specs.Patterns.{SameCaptures, default_config}
use Rattle.regex.specs.Strings.{matcher_pattern}
use Rattle.regex.specs.declared.string.matcher.Matcher.{Matcher}
use Rattle.regex_syntax.specs.Grammar.{read}

-- it finds what the text is read as
abbrev pub IsFor : List ℕ → Matcher → Type 0
IsFor text matcher = IsSomeAnd (read default_config (chars text)) (λ (it, names). SameCaptures (matcher_pattern matcher) it.value)
