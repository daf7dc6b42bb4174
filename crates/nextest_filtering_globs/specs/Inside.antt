-- Sets of places in a text, and what each token makes of them. A text of n characters has n + 1
-- places: in front of each character, and at the end. A set has a `true` for each place that is in
-- it.
use Rattle.std.specs.Prelude.{◌≡◌, ℕ, ◌*◌, ◌==◌, ◌≤◌, ⊤, Bool, true, false, not, ◌&&◌, ◌||◌, nat_le, nat_lt, ◌↔◌, IsTrue, List, [], ◌∷◌, ◌++◌, map, length}
use Rattle.nextest_filtering_globs.specs.declared.token.ClassRange.{ClassRange}
use Rattle.nextest_filtering_globs.specs.declared.token.GlobToken.{GlobToken}
use Rattle.nextest_filtering_globs.specs.declared.token.GlobToken.TheVariants as token
use Rattle.nextest_filtering_globs.specs.Syntax.{depth_behind}
use Rattle.nextest_filtering_globs.specs.Meaning.{Matches}

-- whether the character is in one of the ranges
abbrev pub is_in_some : ℕ → List ClassRange → Bool
is_in_some c [] = false
is_in_some c (range ∷ more) = (nat_le range.first c && nat_le c range.last) || is_in_some c more

-- whether the character is one of a class
abbrev pub is_of_class : Bool → List ClassRange → ℕ → Bool
is_of_class true ranges c = not (is_in_some c ranges)
is_of_class false ranges c = is_in_some c ranges

-- whether a token that matches one character matches this one
abbrev pub fits : GlobToken → ℕ → Bool
fits (token.Literal d) c = c == d
fits token.Any c = true
fits (token.Class negated ranges) c = is_of_class negated ranges c
fits other c = false

-- each place goes on by one where its character fits; `carried` says whether one comes to the first
-- place
abbrev pub next_places : (ℕ → Bool) → Bool → List ℕ → List Bool → List Bool
next_places goes carried [] places = carried ∷ []
next_places goes carried (c ∷ more) [] = []
next_places goes carried (c ∷ more) (here ∷ places) = carried ∷ next_places goes (here && goes c) more places

-- with each place all later ones; `seen` says whether one was there before
abbrev pub later : Bool → List Bool → List Bool
later seen [] = []
later seen (here ∷ places) = (seen || here) ∷ later (seen || here) places

-- the places of either set
abbrev pub either_of : List Bool → List Bool → List Bool
either_of [] others = []
either_of (here ∷ places) [] = here ∷ places
either_of (here ∷ places) (there ∷ others) = (here || there) ∷ either_of places others

-- none of these places
abbrev pub none_of : List Bool → List Bool
none_of places = map (λ _. false) places

-- the place in front of a text
abbrev pub start_of : List ℕ → List Bool
start_of text = true ∷ map (λ _. false) text

-- whether the last place is in the set
abbrev pub has_last : List Bool → Bool
has_last [] = false
has_last (here ∷ []) = here
has_last (here ∷ next ∷ places) = has_last (next ∷ places)

-- an opened brace: the places in front of it, and those behind one of its alternatives so far
pub record Level : Type 0 where
  pub start : List Bool
  pub reached : List Bool

-- the places where what was read so far may end, and the opened braces, the innermost first
pub record State : Type 0 where
  pub current : List Bool
  pub levels : List Level

abbrev pub level : List Bool → List Bool → Level
level start reached = record { start = start; reached = reached }

abbrev pub state : List Bool → List Level → State
state current levels = record { current = current; levels = levels }

-- a further alternative begins
abbrev pub further : List Bool → List Level → State
further current [] = state current []
further current (inner ∷ outer) = state inner.start (level inner.start (either_of inner.reached current) ∷ outer)

-- the innermost brace closes
abbrev pub state_after_close : List Bool → List Level → State
state_after_close current [] = state current []
state_after_close current (inner ∷ outer) = state (either_of current inner.reached) outer

-- what one token makes of it
abbrev pub step : List ℕ → GlobToken → State → State
step text token.ZeroOrMore it = state (later false it.current) it.levels
step text token.Open it = state it.current (level it.current (none_of it.current) ∷ it.levels)
step text token.Or it = further it.current it.levels
step text token.Close it = state_after_close it.current it.levels
step text other it = state (next_places (fits other) false text it.current) it.levels

-- what tokens make of it
abbrev pub run : List ℕ → List GlobToken → State → State
run text [] it = it
run text (first ∷ more) it = run text more (step text first it)

-- opened braces in a row of sets with so many places each, the innermost last
abbrev pub IsStack : ℕ → List Level → List Bool → Type 0
IsStack width [] stack = stack ≡ []
IsStack width (inner ∷ outer) stack = (below : List Bool) × (stack ≡ (below ++ inner.start) ++ inner.reached)
    × (length inner.start ≡ width) × (length inner.reached ≡ width) × IsStack width outer below

-- what becomes of the current set and of the stack is what the change says, whichever braces the
-- stack has
abbrev pub Changes : (State → State) → List Bool → List Bool → List Bool → List Bool → Type 0
Changes change current stack current_after stack_after =
    (levels : List Level) → IsStack (length current) levels stack
    → (current_after ≡ (change (state current levels)).current)
    × IsStack (length current) (change (state current levels)).levels stack_after

-- a token that goes on with a brace, or closes it, needs one in the stack
abbrev pub HasRoom : GlobToken → ℕ → ℕ → Type 0
HasRoom token.Or width size = 2 * width ≤ size
HasRoom token.Close width size = 2 * width ≤ size
HasRoom other width size = ⊤

-- whether the token is one that matches one character
abbrev pub is_single : GlobToken → Bool
is_single (token.Literal c) = true
is_single token.Any = true
is_single (token.Class negated ranges) = true
is_single other = false

-- with so many braces open, one is there for a token that goes on with it, or closes it
abbrev pub HasBrace : ℕ → GlobToken → Type 0
HasBrace depth token.Or = IsTrue (nat_lt 0 depth)
HasBrace depth token.Close = IsTrue (nat_lt 0 depth)
HasBrace depth other = ⊤

-- from here on, with so many braces open, the tokens close them all, and each that they open
abbrev pub ClosesFrom : ℕ → List GlobToken → Type 0
ClosesFrom depth [] = depth ≡ 0
ClosesFrom depth (first ∷ more) = HasBrace depth first × ClosesFrom (depth_behind depth first) more

-- the tokens close each brace that they open, and no other
abbrev pub IsBalanced : List GlobToken → Type 0
IsBalanced tokens = ClosesFrom 0 tokens

-- some tokens match a text exactly where what is left of them matches what is left of it; and where
-- they close their braces, what is left does
abbrev pub Leaves : List GlobToken → List ℕ → List GlobToken → List ℕ → Type 0
Leaves tokens text left rest =
    (IsBalanced tokens → IsBalanced left) × (Matches tokens text ↔ Matches left rest)

-- each token is one that matches one character
abbrev pub AreSingle : List GlobToken → Type 0
AreSingle [] = ⊤
AreSingle (first ∷ more) = (is_single first ≡ true) × AreSingle more

-- whether the token is one that matches one character, or stands between two alternatives
abbrev pub is_plain : GlobToken → Bool
is_plain token.Or = true
is_plain other = is_single other

-- each token is such a one
abbrev pub ArePlain : List GlobToken → Type 0
ArePlain [] = ⊤
ArePlain (first ∷ more) = (is_plain first ≡ true) × ArePlain more

-- tokens between braces
abbrev pub in_braces : List GlobToken → List GlobToken
in_braces tokens = token.Open ∷ (tokens ++ token.Close ∷ [])

-- the tokens have a word between two asterisks first, and from the second of these on they are
-- `left`
abbrev pub IsWord : List GlobToken → List GlobToken → List GlobToken → Type 0
IsWord tokens word left = (more : List GlobToken) × (left ≡ token.ZeroOrMore ∷ more)
    × (tokens ≡ token.ZeroOrMore ∷ (word ++ left)) × AreSingle word

-- a word matches the first characters of a text so far: whatever follows it, and be there an
-- asterisk in front of it
abbrev pub GoesOn : List GlobToken → List ℕ → List GlobToken → List ℕ → Type 0
GoesOn word text left rest = (more : List GlobToken) → (Matches (word ++ more) text ↔ Matches (left ++ more) rest)
    × (Matches (token.ZeroOrMore ∷ (word ++ more)) text → Matches (token.ZeroOrMore ∷ (left ++ more)) rest)

-- a word behind an asterisk is still to be found in what is left of the text
abbrev pub IsAhead : List GlobToken → List ℕ → List ℕ → Type 0
IsAhead word text rest = (more : List GlobToken)
    → Matches (token.ZeroOrMore ∷ (word ++ more)) text ↔ Matches (token.ZeroOrMore ∷ (word ++ more)) rest

-- a word between asterisks was found, and this is what is left of the text behind it
abbrev pub IsFound : List GlobToken → List ℕ → List ℕ → Type 0
IsFound word text rest = (more : List GlobToken)
    → Matches (token.ZeroOrMore ∷ (word ++ token.ZeroOrMore ∷ more)) text ↔ Matches (token.ZeroOrMore ∷ more) rest
