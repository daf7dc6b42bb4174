-- The part of a test's outputs that tells of its error.
use Rattle.std.specs.Prelude.{◌≡◌, ℕ, List, [], length, take, drop, Option, Some, None}
use Rattle.std.specs.Char.{is_whitespace}
use Rattle.bstr.specs.Trim.{trim_end_by}
use Rattle.nextest_run_events_slices.specs.declared.slices.ByteSubslice.{ByteSubslice}
use Rattle.nextest_run_events_slices.specs.declared.slices.TestOutputErrorSlice.{TestOutputErrorSlice}
use Rattle.nextest_run_events_slices.specs.declared.slices.TestOutputErrorSlice.TheVariants.{PanicMessage, ErrorStr, ShouldPanic}
use Rattle.nextest_run_events_slices.specs.Notes.{HasNoNote, IsNote}
use Rattle.nextest_run_events_slices.specs.Places.{Span, IsPanic, IsLastPanic, IsPanicStart, IsErrorPlace, IsFirstError}

-- the bytes of an output: one that was not captured has none
abbrev pub bytes_of_output : Option (List ℕ) → List ℕ
bytes_of_output None = []
bytes_of_output (Some bytes) = bytes

-- the bytes from a place to the end of an output, without white space at their end
abbrev pub IsPartFrom : List ℕ → ℕ → ByteSubslice → Type 0
IsPartFrom output start part = (part.start ≡ start) × (part.slice.now ≡ trim_end_by is_whitespace (drop start output))

-- no line starts with a panic message's head
abbrev pub HasNoPanic : List ℕ → Type 0
HasNoPanic stderr = (span : Span) → ¬ (IsPanic stderr span)

-- the part begins with the last panic message that is taken, or with the error's line above it
pub record IsPanicSlice (stderr : List ℕ) (part : ByteSubslice) : Type 0 where
  pub at : ℕ
  pub start : ℕ
  pub last : IsLastPanic stderr (Some at)
  pub begins : IsPanicStart stderr at start
  pub reads : IsPartFrom stderr start part

-- no line starts with `Error: `
abbrev pub HasNoError : List ℕ → Type 0
HasNoError stderr = (at : ℕ) → ¬ (IsErrorPlace stderr at)

-- the part begins with the first line that starts with `Error: `
pub record IsErrorSlice (stderr : List ℕ) (part : ByteSubslice) : Type 0 where
  pub at : ℕ
  pub first : IsFirstError stderr (Some at)
  pub reads : IsPartFrom stderr at part

-- the part is the first line that has the note
abbrev pub IsNoteSlice : List ℕ → ByteSubslice → Type 0
IsNoteSlice stdout part = IsNote stdout part.start part.slice.now

-- the last panic of standard error comes first, then its first error, then the note on standard
-- output
abbrev pub IsSlice : List ℕ → List ℕ → Option TestOutputErrorSlice → Type 0
IsSlice stdout stderr (Some (PanicMessage part)) = IsPanicSlice stderr part
IsSlice stdout stderr (Some (ErrorStr part)) = HasNoPanic stderr × IsErrorSlice stderr part
IsSlice stdout stderr (Some (ShouldPanic part)) = HasNoPanic stderr × HasNoError stderr × IsNoteSlice stdout part
IsSlice stdout stderr None = HasNoPanic stderr × HasNoError stderr × HasNoNote stdout

-- the part is the output's bytes from its start on, for its length
abbrev pub IsPartOf : List ℕ → ByteSubslice → Type 0
IsPartOf output part = part.slice.now ≡ take (length part.slice.now) (drop part.start output)

-- it is a part of the output that it is said to be of
abbrev pub IsWithin : List ℕ → List ℕ → TestOutputErrorSlice → Type 0
IsWithin stdout stderr (PanicMessage part) = IsPartOf stderr part
IsWithin stdout stderr (ErrorStr part) = IsPartOf stderr part
IsWithin stdout stderr (ShouldPanic part) = IsPartOf stdout part

-- the part
abbrev pub part_of : TestOutputErrorSlice → ByteSubslice
part_of (PanicMessage part) = part
part_of (ErrorStr part) = part
part_of (ShouldPanic part) = part

-- the part, if it is of standard error
abbrev pub stderr_part : TestOutputErrorSlice → Option ByteSubslice
stderr_part (PanicMessage part) = Some part
stderr_part (ErrorStr part) = Some part
stderr_part (ShouldPanic part) = None

-- the part, if it is of standard output
abbrev pub stdout_part : TestOutputErrorSlice → Option ByteSubslice
stdout_part (PanicMessage part) = None
stdout_part (ErrorStr part) = None
stdout_part (ShouldPanic part) = Some part
