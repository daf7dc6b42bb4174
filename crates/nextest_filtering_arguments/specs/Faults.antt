-- Where faults stand.
use Rattle.std.specs.Prelude.{◌≡◌, ◌⊎◌, ℕ, Bool, ◌+◌, ◌-◌, ◌≤◌, false, List, ◌++◌, length, take, drop, codes}
use Rattle.std.specs.List.{AllByRecursion}
use Rattle.nextest_filtering_escapes.specs.Spans.{IsBadEscape}
use Rattle.nextest_filtering_ast.specs.declared.leaf.SourceSpan.{SourceSpan}
use Rattle.nextest_filtering_arguments.specs.Blanks.{has_blank_front}
use Rattle.nextest_filtering_arguments.specs.declared.error.ParseSingleError.{ParseSingleError}
use Rattle.nextest_filtering_arguments.specs.declared.error.ParseSingleError.TheVariants as fault

-- the faults of an input so far, and whether it can get no tree
pub record FaultsSoFar : Type 0 where
  pub input : List ℕ
  pub list : List ParseSingleError
  pub hopeless : Bool

-- how many there are
abbrev pub count : FaultsSoFar → ℕ
count found = length found.list

-- a rest of the input
abbrev pub IsSuffix : List ℕ → List ℕ → Type 0
IsSuffix rest input = (front : List ℕ) × (input ≡ front ++ rest)

-- so many bytes where a rest of the input begins
abbrev pub here : List ℕ → List ℕ → ℕ → SourceSpan
here input rest n = record { offset = length input - length rest; length = n }

-- so many bytes, behind offset bytes of a rest of the input
abbrev pub within : List ℕ → List ℕ → ℕ → ℕ → SourceSpan
within input rest offset n = record { offset = length input - length rest + offset; length = n }

-- the bytes that a span holds
abbrev pub bytes_in_span : List ℕ → SourceSpan → List ℕ
bytes_in_span input span = take span.length (drop span.offset input)

-- the bytes behind it
abbrev pub past : List ℕ → SourceSpan → List ℕ
past input span = drop (span.offset + span.length) input

-- the span lies in the input
abbrev pub Lies : List ℕ → SourceSpan → Type 0
Lies input span = span.offset + span.length ≤ length input

-- the span is empty
abbrev pub IsPlace : List ℕ → SourceSpan → Type 0
IsPlace input span = Lies input span × (span.length ≡ 0)

-- the span runs to the input's end
abbrev pub RunsOut : List ℕ → SourceSpan → Type 0
RunsOut input span = span.offset + span.length ≡ length input

-- no blank stands where the span begins: it begins behind blanks, or at the input's end
abbrev pub BeginsBare : List ℕ → SourceSpan → Type 0
BeginsBare input span = has_blank_front (drop span.offset input) ≡ false

-- where a fault may stand: an operator's span is the operator, a comma's the comma, an escape's a
-- backslash with the whole character behind it, or the one that is the input's last byte; what is
-- missing is missing behind blanks; faults of predicates aren't told of a text
abbrev pub IsFaultOf : List ℕ → ParseSingleError → Type 0
IsFaultOf input (fault.InvalidGlob span) = Lies input span
IsFaultOf input (fault.InvalidRegexWithoutMessage span) = Lies input span
IsFaultOf input (fault.ExpectedCloseRegex span) = IsPlace input span × RunsOut input span
IsFaultOf input (fault.InvalidOrOperator span) = Lies input span × ((bytes_in_span input span ≡ codes "||") ⊎ (bytes_in_span input span ≡ codes "OR"))
IsFaultOf input (fault.InvalidAndOperator span) = Lies input span × ((bytes_in_span input span ≡ codes "&&") ⊎ (bytes_in_span input span ≡ codes "AND"))
IsFaultOf input (fault.UnexpectedArgument span) = Lies input span
IsFaultOf input (fault.UnexpectedComma span) = Lies input span × (bytes_in_span input span ≡ codes ",")
IsFaultOf input (fault.InvalidString span) = IsPlace input span
IsFaultOf input (fault.ExpectedOpenParenthesis span) = IsPlace input span × BeginsBare input span
IsFaultOf input (fault.ExpectedCloseParenthesis span) = IsPlace input span × BeginsBare input span
IsFaultOf input (fault.InvalidEscapeCharacter span) = Lies input span × IsBadEscape (bytes_in_span input span) (past input span)
IsFaultOf input (fault.ExpectedExpr span) = RunsOut input span × BeginsBare input span
IsFaultOf input (fault.ExpectedEndOfExpression span) = RunsOut input span × BeginsBare input span
IsFaultOf input (fault.InvalidPlatformArgument span) = Lies input span
IsFaultOf input (fault.BannedPredicate kind span reason) = ⊥
IsFaultOf input (fault.NoPackageMatch span) = ⊥
IsFaultOf input (fault.NoBinaryIdMatch span) = ⊥
IsFaultOf input (fault.NoBinaryNameMatch span) = ⊥
IsFaultOf input (fault.NoGroupMatch span) = ⊥

-- each of them is one of the input's
abbrev pub AreFaultsOf : List ℕ → List ParseSingleError → Type 0
AreFaultsOf input = AllByRecursion (IsFaultOf input)
