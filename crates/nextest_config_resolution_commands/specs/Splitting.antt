-- The words of a text, read from the left, byte by byte.
use Rattle.std.specs.Prelude.{ℕ, ◌==◌, List, [], ◌∷◌, ◌++◌, Option, None, Some, option_map, if◌then◌else◌}
use Rattle.nextest_config_resolution_commands.specs.declared.steps.Kind.{Kind}
use Rattle.nextest_config_resolution_commands.specs.declared.steps.Kind.TheVariants as kind
use Rattle.nextest_config_resolution_commands.specs.declared.steps.Place.{Place}
use Rattle.nextest_config_resolution_commands.specs.declared.steps.Place.TheVariants as place
use Rattle.nextest_config_resolution_commands.specs.declared.steps.SplitStep.{SplitStep}
use Rattle.nextest_config_resolution_commands.specs.declared.steps.SplitStep.TheVariants as step

-- what a byte is
abbrev pub kind_of : ℕ → Kind
kind_of byte =
    if byte == 10 then kind.LineFeed
    else if byte == 32 then kind.Blank
    else if byte == 9 then kind.Blank
    else if byte == 39 then kind.Quote
    else if byte == 34 then kind.DoubleQuote
    else if byte == 92 then kind.Backslash
    else if byte == 35 then kind.Hash
    else if byte == 36 then kind.Taken
    else if byte == 96 then kind.Taken
    else kind.Other

-- what becomes of a byte before a word
abbrev pub between : Kind → SplitStep
between kind.LineFeed = step.Pass place.Between
between kind.Blank = step.Pass place.Between
between kind.Quote = step.Pass place.Literal
between kind.DoubleQuote = step.Pass place.Quoted
between kind.Backslash = step.Pass place.BetweenEscaped
between kind.Hash = step.Pass place.Comment
between kind.Taken = step.Take place.Inside
between kind.Other = step.Take place.Inside

-- in a word, outside of quotes
abbrev pub inside : Kind → SplitStep
inside kind.LineFeed = step.End
inside kind.Blank = step.End
inside kind.Quote = step.Pass place.Literal
inside kind.DoubleQuote = step.Pass place.Quoted
inside kind.Backslash = step.Pass place.InsideEscaped
inside kind.Hash = step.Take place.Inside
inside kind.Taken = step.Take place.Inside
inside kind.Other = step.Take place.Inside

-- behind a backslash there, which stood at a place
abbrev pub after_backslash : Place → Kind → SplitStep
after_backslash before kind.LineFeed = step.Pass before
after_backslash before it = step.Take place.Inside

-- between single quotes
abbrev pub literal : Kind → SplitStep
literal kind.Quote = step.Pass place.Inside
literal it = step.Take place.Literal

-- between double quotes
abbrev pub in_double_quotes : Kind → SplitStep
in_double_quotes kind.DoubleQuote = step.Pass place.Inside
in_double_quotes kind.Backslash = step.Pass place.QuotedEscaped
in_double_quotes it = step.Take place.Quoted

-- there, behind a backslash
abbrev pub quoted_escaped : Kind → SplitStep
quoted_escaped kind.LineFeed = step.Pass place.Quoted
quoted_escaped kind.DoubleQuote = step.Take place.Quoted
quoted_escaped kind.Backslash = step.Take place.Quoted
quoted_escaped kind.Taken = step.Take place.Quoted
quoted_escaped it = step.Keep place.Quoted

-- in a comment
abbrev pub comment : Kind → SplitStep
comment kind.LineFeed = step.Pass place.Between
comment it = step.Pass place.Comment

-- at any place
abbrev pub step_at : Place → Kind → SplitStep
step_at place.Between it = between it
step_at place.BetweenEscaped it = after_backslash place.Between it
step_at place.Inside it = inside it
step_at place.InsideEscaped it = after_backslash place.Inside it
step_at place.Literal it = literal it
step_at place.Quoted it = in_double_quotes it
step_at place.QuotedEscaped it = quoted_escaped it
step_at place.Comment it = comment it

-- the words of a text that ends here, the last of them as far as it was read
abbrev pub at_end : Place → List ℕ → Option (List (List ℕ))
at_end place.Between word = Some []
at_end place.BetweenEscaped word = Some ((word ++ 92 ∷ []) ∷ [])
at_end place.Inside word = Some (word ∷ [])
at_end place.InsideEscaped word = Some ((word ++ 92 ∷ []) ∷ [])
at_end place.Literal word = None
at_end place.Quoted word = None
at_end place.QuotedEscaped word = None
at_end place.Comment word = Some []

-- the words by what becomes of a character, of these bytes: what comes behind is read on
abbrev pub by_step : (Place → List ℕ → Option (List (List ℕ))) → SplitStep → List ℕ → List ℕ → Option (List (List ℕ))
by_step further (step.Pass to) word character = further to word
by_step further (step.Take to) word character = further to (word ++ character)
by_step further (step.Keep to) word character = further to (word ++ 92 ∷ character)
by_step further step.End word character = option_map (λ words. word ∷ words) (further place.Between [])

-- the words from a place on, the first of them with what was read of it before
abbrev pub words_from : List ℕ → Place → List ℕ → Option (List (List ℕ))
words_from [] at word = at_end at word
words_from (byte ∷ text) at word = by_step (words_from text) (step_at at (kind_of byte)) word (byte ∷ [])

-- the words of a text; none where a quote isn't closed
abbrev pub words_of : List ℕ → Option (List (List ℕ))
words_of text = words_from text place.Between []
