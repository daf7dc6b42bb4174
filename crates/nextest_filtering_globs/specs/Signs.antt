-- The characters that mean something in a glob.
use Rattle.std.specs.Prelude.{ℕ, ◌==◌, Bool, ◌&&◌, ◌||◌, not}

-- `?`
abbrev pub question_mark : ℕ
question_mark = 63

-- `*`
abbrev pub asterisk : ℕ
asterisk = 42

-- `[`
abbrev pub opening_bracket : ℕ
opening_bracket = 91

-- `]`
abbrev pub closing_bracket : ℕ
closing_bracket = 93

-- `{`
abbrev pub opening_brace : ℕ
opening_brace = 123

-- `}`
abbrev pub closing_brace : ℕ
closing_brace = 125

-- `,`
abbrev pub comma : ℕ
comma = 44

-- `\`
abbrev pub backslash : ℕ
backslash = 92

-- `-`
abbrev pub hyphen : ℕ
hyphen = 45

-- `!` or `^`, which make a class its complement
abbrev pub is_complement_sign : ℕ → Bool
is_complement_sign c = (c == 33) || (c == 94)

-- one of `?`, `*`, `[`, `{` and `\`, which begin a token that is no plain character
abbrev pub is_opening : ℕ → Bool
is_opening c = (c == question_mark) || (c == asterisk) || (c == opening_bracket) || (c == opening_brace) ||
    (c == backslash)

-- `}`, and inside of braces `,` too, which end an alternative
abbrev pub is_stop : Bool → ℕ → Bool
is_stop inside c = (c == closing_brace) || (inside && (c == comma))

-- a character that stands for itself
abbrev pub is_ordinary : Bool → ℕ → Bool
is_ordinary inside c = not (is_opening c) && not (is_stop inside c)
