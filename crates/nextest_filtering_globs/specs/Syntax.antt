-- Which texts spell which tokens. Texts are lists of characters, `rest` is what follows in the
-- text.
use Rattle.std.specs.Prelude.{◌≡◌, ◌≢◌, ℕ, ◌+◌, ◌-◌, ◌==◌, ◌≤◌, nat_lt, Bool, true, false, if◌then◌else◌, List, [], ◌∷◌, ◌++◌, ◌⊎◌, IsTrue}
use Rattle.std.specs.List.{AllByRecursion}
use Rattle.std.specs.Str.{chars}
use Rattle.nextest_filtering_globs.specs.declared.token.ClassRange.{ClassRange}
use Rattle.nextest_filtering_globs.specs.Signs.{question_mark, asterisk, opening_bracket, closing_bracket, opening_brace, closing_brace, comma, backslash, hyphen, is_complement_sign, is_ordinary}
use Rattle.nextest_filtering_globs.specs.declared.token.GlobToken.{GlobToken}
use Rattle.nextest_filtering_globs.specs.declared.token.GlobToken.TheVariants as token

-- the characters from `first` to `last`
abbrev pub range : ℕ → ℕ → ClassRange
range first last = record { first = first; last = last }

-- the ranges of a class, from the left: `x-y` is one from x to y, any other x is a single character
abbrev pub class_ranges : List ℕ → List ClassRange
class_ranges [] = []
class_ranges (x ∷ []) = range x x ∷ []
class_ranges (x ∷ sign ∷ []) = range x x ∷ range sign sign ∷ []
class_ranges (x ∷ sign ∷ y ∷ rest) =
    if sign == hyphen then range x y ∷ class_ranges rest else range x x ∷ class_ranges (sign ∷ y ∷ rest)

-- no range falls
abbrev pub AllRise : List ClassRange → Type 0
AllRise ranges = AllByRecursion (λ each. each.first ≤ each.last) ranges

-- no closing bracket is among the characters
abbrev pub IsUnclosed : List ℕ → Type 0
IsUnclosed text = AllByRecursion (λ c. c ≢ closing_bracket) text

-- the characters of a class: at least one, and `]` only as the first
abbrev pub IsClassBody : List ℕ → Type 0
IsClassBody [] = ⊥
IsClassBody (x ∷ more) = IsUnclosed more

-- a class begins with the sign of a complement
abbrev pub begins_complement : List ℕ → Bool
begins_complement [] = false
begins_complement (c ∷ more) = is_complement_sign c

-- the characters of the ranges, up to the bracket that closes their class
abbrev pub SpellsRanges : List ClassRange → List ℕ → List ℕ → Type 0
SpellsRanges ranges text rest = (body : List ℕ) × (text ≡ body ++ closing_bracket ∷ rest) × IsClassBody body
    × (ranges ≡ class_ranges body) × AllRise ranges

-- a class behind its opening bracket: a complement has its sign, and no other class begins with one
abbrev pub SpellsClass : Bool → List ClassRange → List ℕ → List ℕ → Type 0
SpellsClass true ranges text rest = (sign : ℕ) × (inner : List ℕ) × (text ≡ sign ∷ inner)
    × IsTrue (is_complement_sign sign) × SpellsRanges ranges inner rest
SpellsClass false ranges text rest = (begins_complement text ≡ false) × SpellsRanges ranges text rest

-- an ordinary character, or any behind a backslash
abbrev pub SpellsLiteral : Bool → ℕ → List ℕ → List ℕ → Type 0
SpellsLiteral inside c text rest = ((text ≡ c ∷ rest) × IsTrue (is_ordinary inside c)) ⊎ (text ≡ backslash ∷ c ∷ rest)

-- the text begins with this token, outside or inside of braces
abbrev pub Spells : Bool → GlobToken → List ℕ → List ℕ → Type 0
Spells inside (token.Literal c) text rest = SpellsLiteral inside c text rest
Spells inside token.Any text rest = text ≡ question_mark ∷ rest
Spells inside token.ZeroOrMore text rest = text ≡ asterisk ∷ rest
Spells inside (token.Class negated ranges) text rest =
    (inner : List ℕ) × (text ≡ opening_bracket ∷ inner) × SpellsClass negated ranges inner rest
Spells inside token.Open text rest = text ≡ opening_brace ∷ rest
Spells inside token.Or text rest = (text ≡ comma ∷ rest) × IsTrue inside
Spells inside token.Close text rest = (text ≡ closing_brace ∷ rest) × IsTrue inside

-- how many braces are open behind a token, with so many in front of it
abbrev pub depth_behind : ℕ → GlobToken → ℕ
depth_behind depth token.Open = depth + 1
depth_behind depth token.Close = depth - 1
depth_behind depth other = depth

-- from here on, with so many braces open, the text spells these tokens and nothing else
abbrev pub SpellsFrom : ℕ → List GlobToken → List ℕ → Type 0
SpellsFrom depth [] text = (text ≡ []) × (depth ≡ 0)
SpellsFrom depth (first ∷ more) text =
    (rest : List ℕ) × Spells (nat_lt 0 depth) first text rest × SpellsFrom (depth_behind depth first) more rest

-- the text is a glob of these tokens
abbrev pub IsGlob : List ℕ → List GlobToken → Type 0
IsGlob text tokens = SpellsFrom 0 tokens (chars text)
