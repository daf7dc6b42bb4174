-- Where a panic message stands in an output, which of them are taken, and where an error stands.
use Rattle.std.specs.Prelude.{◌≡◌, ◌≢◌, ◌⊎◌, ◌↔◌, ◌+◌, ◌-◌, ◌<◌, ◌≤◌, ℕ, true, List, [], ◌∷◌, ◌++◌, length, drop, slice_index, codes, Option, MatchOption}
use Rattle.std.specs.List.{All, AllPairs, Contains}
use Rattle.std.specs.Str.{IsUtf8, encode_utf8_all, all_scalars}
use Rattle.bstr.specs.Find.{OccursAt}
use Rattle.ucd_category.specs.declared.GeneralCategory.TheVariants.{DecimalNumber}
use Rattle.ucd_category.specs.GeneralCategory.{general_category}

-- the bytes from one place to another
pub record Span : Type 0 where
  pub start : ℕ
  pub stop : ℕ

-- a line starts here: at the start, or behind a line feed
abbrev pub IsLineStart : List ℕ → ℕ → Type 0
IsLineStart bytes at = (at ≡ 0) ⊎ ((0 < at) × (slice_index bytes (at - 1) ≡ 10))

-- a thread's name: text of at least one character, without a quote
pub record IsName (name : List ℕ) : Type 0 where
  pub text : IsUtf8 name
  pub some : 0 < length name
  pub plain : All (λ byte. byte ≢ 39) name

-- text of decimal digits of any script, at least one
pub record IsNumber (number : List ℕ) : Type 0 where
  pub digits : List ℕ
  pub written : number ≡ encode_utf8_all digits
  pub scalars : all_scalars digits ≡ true
  pub some : 0 < length digits
  pub decimal : All (λ digit. general_category digit ≡ DecimalNumber) digits

-- nothing, or a number in parentheses and a space
abbrev pub IsId : List ℕ → Type 0
IsId id = (id ≡ []) ⊎ ((number : List ℕ) × IsNumber number × (id ≡ codes "(" ++ (number ++ codes ") ")))

-- the head of a panic message
pub record IsPanicHead (head : List ℕ) : Type 0 where
  pub name : List ℕ
  pub id : List ℕ
  pub named : IsName name
  pub numbered : IsId id
  pub reads : head ≡ codes "thread '" ++ (name ++ (codes "' " ++ (id ++ codes "panicked at ")))

-- a part with the property stands at the front of a text, and the rest behind it
abbrev pub BeginsWith : (List ℕ → Type 0) → List ℕ → List ℕ → Type 0
BeginsWith P text rest = (front : List ℕ) × P front × (text ≡ front ++ rest)

-- a line starts with the head of a panic message, which takes up the span
pub record IsPanic (bytes : List ℕ) (span : Span) : Type 0 where
  pub line : IsLineStart bytes span.start
  pub head : List ℕ
  pub rest : List ℕ
  pub is_head : IsPanicHead head
  pub stands : drop span.start bytes ≡ head ++ rest
  pub stop : span.stop ≡ span.start + length head

-- one of the spans begins before this one, and ends behind its start
abbrev pub IsCovered : List Span → Span → Type 0
IsCovered taken span = (other : Span) × Contains taken other × (other.start < span.start) × (span.start < other.stop)

-- all the panic messages that are taken from the left without overlap
pub record AreTaken (bytes : List ℕ) (taken : List Span) : Type 0 where
  pub rising : AllPairs (λ one other. one.start < other.start) taken
  pub panics : All (IsPanic bytes) taken
  pub whole : (span : Span) → IsPanic bytes span → Contains taken span ↔ ¬ (IsCovered taken span)

-- where the last of the spans starts, if there is one
abbrev pub IsLastStart : List Span → Option ℕ → Type 0
IsLastStart taken result = MatchOption result (taken ≡ []) (λ at. (before : List Span) × (last : Span) × (taken ≡ before ++ last ∷ []) × (last.start ≡ at))

-- where the last taken panic message starts, if there is one
abbrev pub IsLastPanic : List ℕ → Option ℕ → Type 0
IsLastPanic bytes result = (taken : List Span) × AreTaken bytes taken × IsLastStart taken result

-- behind a line feed stands `Error:`; its line goes on without a line feed to `stop`, and line ends
-- alone from there to the place
pub record IsErrorLineAbove (bytes : List ℕ) (at start : ℕ) : Type 0 where
  pub behind : 0 < start
  pub feed : slice_index bytes (start - 1) ≡ 10
  pub begins : OccursAt bytes (codes "Error:") start
  pub stop : ℕ
  pub holds : start + length (codes "Error:") ≤ stop
  pub above : stop ≤ at
  pub line : (k : ℕ) → start ≤ k → k < stop → slice_index bytes k ≢ 10
  pub ends : (k : ℕ) → stop ≤ k → k < at → (slice_index bytes k ≡ 10) ⊎ (slice_index bytes k ≡ 13)

-- where the slice of the panic message at a place begins: at the error's line above it, or else at
-- the place
abbrev pub IsPanicStart : List ℕ → ℕ → ℕ → Type 0
IsPanicStart bytes at start = IsErrorLineAbove bytes at start ⊎ ((start ≡ at) × ((other : ℕ) → ¬ (IsErrorLineAbove bytes at other)))

-- a line starts with `Error: `
abbrev pub IsErrorPlace : List ℕ → ℕ → Type 0
IsErrorPlace bytes at = IsLineStart bytes at × OccursAt bytes (codes "Error: ") at

-- the first place at which a line starts with `Error: `, if there is one
abbrev pub IsFirstError : List ℕ → Option ℕ → Type 0
IsFirstError bytes result = MatchOption result ((at : ℕ) → ¬ (IsErrorPlace bytes at)) (λ first. IsErrorPlace bytes first × ((at : ℕ) → at < first → ¬ (IsErrorPlace bytes at)))
