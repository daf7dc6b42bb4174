-- What a glob matches.
use Rattle.std.specs.Prelude.{◌≡◌, ℕ, ◌≤◌, Bool, true, false, List, [], ◌∷◌, ◌++◌, ◌⊎◌, ⊤}
use Rattle.nextest_filtering_globs.specs.declared.token.ClassRange.{ClassRange}
use Rattle.nextest_filtering_globs.specs.declared.token.GlobToken.{GlobToken}
use Rattle.nextest_filtering_globs.specs.declared.token.GlobToken.TheVariants as token

-- a glob as a tree
mutual
  -- a part of a glob
  pub data Token : Type 0 where
    literal : ℕ → Token
    any : Token
    zero_or_more : Token
    class : Bool → List ClassRange → Token
    alternates : Alternatives → Token

  -- one part after another
  pub data Tokens : Type 0 where
    no_tokens : Tokens
    next_token : Token → Tokens → Tokens

  -- the globs between braces, one at least
  pub data Alternatives : Type 0 where
    last_alternative : Tokens → Alternatives
    next_alternative : Tokens → Alternatives → Alternatives

-- how a tree is written
abbrev mutual
  pub flat_token : Token → List GlobToken
  flat_token (literal c) = token.Literal c ∷ []
  flat_token any = token.Any ∷ []
  flat_token zero_or_more = token.ZeroOrMore ∷ []
  flat_token (class negated ranges) = token.Class negated ranges ∷ []
  flat_token (alternates all) = token.Open ∷ flat_alternatives all

  pub flat : Tokens → List GlobToken
  flat no_tokens = []
  flat (next_token first more) = flat_token first ++ flat more

  -- up to the brace that closes them
  pub flat_alternatives : Alternatives → List GlobToken
  flat_alternatives (last_alternative tokens) = flat tokens ++ token.Close ∷ []
  flat_alternatives (next_alternative first more) = flat first ++ token.Or ∷ flat_alternatives more

-- the character is in one of the ranges
abbrev pub IsInSome : ℕ → List ClassRange → Type 0
IsInSome c [] = ⊥
IsInSome c (range ∷ more) = ((range.first ≤ c) × (c ≤ range.last)) ⊎ IsInSome c more

-- the character is one of a class
abbrev pub IsOfClass : Bool → List ClassRange → ℕ → Type 0
IsOfClass false ranges c = IsInSome c ranges
IsOfClass true ranges c = IsInSome c ranges → ⊥

-- which characters a tree matches
abbrev mutual
  pub MatchesOne : Token → List ℕ → Type 0
  MatchesOne (literal c) text = text ≡ c ∷ []
  MatchesOne any text = (c : ℕ) × (text ≡ c ∷ [])
  MatchesOne zero_or_more text = ⊤
  MatchesOne (class negated ranges) text = (c : ℕ) × (text ≡ c ∷ []) × IsOfClass negated ranges c
  MatchesOne (alternates all) text = MatchesSome all text

  pub MatchesAll : Tokens → List ℕ → Type 0
  MatchesAll no_tokens text = text ≡ []
  MatchesAll (next_token first more) text =
      (front : List ℕ) × (back : List ℕ) × (text ≡ front ++ back) × MatchesOne first front × MatchesAll more back

  pub MatchesSome : Alternatives → List ℕ → Type 0
  MatchesSome (last_alternative tokens) text = MatchesAll tokens text
  MatchesSome (next_alternative first more) text = MatchesAll first text ⊎ MatchesSome more text

-- tokens match these characters: they are those of a tree that does
abbrev pub Matches : List GlobToken → List ℕ → Type 0
Matches tokens text = (tree : Tokens) × (flat tree ≡ tokens) × MatchesAll tree text
