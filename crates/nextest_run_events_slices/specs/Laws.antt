-- What the laws say.
use Rattle.std.specs.Prelude.{◌≡◌, ℕ, List, Option, Some, None, ⊤}
use Rattle.nextest_run_events_slices.specs.declared.slices.ByteSubslice.{ByteSubslice}
use Rattle.nextest_run_events_slices.specs.declared.slices.TestOutputErrorSlice.{TestOutputErrorSlice}
use Rattle.nextest_run_events_slices.specs.declared.slices.TestOutputErrorSlice.TheVariants.{PanicMessage, ErrorStr, ShouldPanic}
use Rattle.nextest_run_events_slices.specs.Places.{Span, IsPanic, AreTaken}
use Rattle.nextest_run_events_slices.specs.Slices.{IsSlice}

-- panic messages that start at one place end at one place
abbrev pub HasOneStop : Type 0
HasOneStop = (bytes : List ℕ) (one other : Span) → IsPanic bytes one → IsPanic bytes other → one.start ≡ other.start → one.stop ≡ other.stop

-- an output has one list of the panic messages that are taken
abbrev pub HasOneTaken : Type 0
HasOneTaken = (bytes : List ℕ) (one other : List Span) → AreTaken bytes one → AreTaken bytes other → one ≡ other

-- two parts begin at one place and have the same bytes
abbrev pub IsSamePart : ByteSubslice → ByteSubslice → Type 0
IsSamePart one other = (one.start ≡ other.start) × (one.slice.now ≡ other.slice.now)

-- two answers are of one kind, and their parts are the same
abbrev pub IsSameSlice : Option TestOutputErrorSlice → Option TestOutputErrorSlice → Type 0
IsSameSlice (Some (PanicMessage one)) (Some (PanicMessage other)) = IsSamePart one other
IsSameSlice (Some (ErrorStr one)) (Some (ErrorStr other)) = IsSamePart one other
IsSameSlice (Some (ShouldPanic one)) (Some (ShouldPanic other)) = IsSamePart one other
IsSameSlice None None = ⊤
IsSameSlice _ _ = ⊥

-- the outputs of a test have one answer
abbrev pub HasOneSlice : Type 0
HasOneSlice = (stdout stderr : List ℕ) (one other : Option TestOutputErrorSlice) → IsSlice stdout stderr one → IsSlice stdout stderr other → IsSameSlice one other

-- It can't be that they have none. No law decides where a line starts that tells of an error, so it
-- is said in this form.
abbrev pub HasSomeSlice : Type 0
HasSomeSlice = (stdout stderr : List ℕ) → ¬ ¬ ((slice : Option TestOutputErrorSlice) × IsSlice stdout stderr slice)
