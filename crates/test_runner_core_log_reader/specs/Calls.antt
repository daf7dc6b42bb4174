-- What a call of a reader of lines did.
use Rattle.std.specs.Prelude.{◌≡◌, ℕ, ◌+◌, ◌<◌, ◌≤◌, Bool, true, length, List, [], ◌∷◌, ◌++◌, Option, None, Some, Result, Ok, Err, take}
use Rattle.std.specs.Io.KnownBytes.{Consumes}
use Rattle.test_runner_core_streams.specs.declared.traits.TheConstants.{READ_LIMIT}
use Rattle.test_runner_core_streams.specs.Left.{OfBytes, OfSomeBytes, WhateverFollows}
use Rattle.test_runner_core_log_reader.specs.Items.{Line, Refused, line_fault}
use Rattle.test_runner_core_log_reader.specs.Cursor.{Cursor, bytes_received, items_ahead, Unmoved}
use Rattle.test_runner_core_log_reader.specs.Feeds.{IsPlain, before_feed, behind_feed}
use Rattle.test_runner_core_log_reader.specs.declared.limits.TheConstants.{FIRST_LINE_LIMIT, LINE_LIMIT, LOG_LIMIT}
use Rattle.test_runner_core_log_reader.specs.declared.fault.LineFault.{LineFault}
use Rattle.test_runner_core_log_reader.specs.declared.fault.LineFault.TheVariants as faults
use Rattle.test_runner_core_log_reader.specs.declared.fault.LogFault.{LogFault}
use Rattle.test_runner_core_log_reader.specs.declared.fault.LogFault.TheVariants as stopped_by
use Rattle.test_runner_core_log_reader.specs.declared.next.Next.{Next}
use Rattle.test_runner_core_log_reader.specs.declared.next.Next.TheVariants as found
use Rattle.test_runner_core_log_reader.specs.declared.next.Scan.{Scan}
use Rattle.test_runner_core_log_reader.specs.declared.next.Scan.TheVariants as scanned

-- a line is the first item that was ahead, and the others still are; a refusal is all that was and
-- is ahead; at the end nothing is. A call that fails leaves what is ahead
abbrev pub Hands : Cursor → Option (List ℕ) → Cursor → Option (List ℕ) → Result Next LogFault → Type 0
Hands old left new rest (Ok found.Line) = WhateverFollows left rest (λ ahead behind. items_ahead old ahead ≡ Line new.line ∷ items_ahead new behind)
Hands old left new rest (Ok (found.Refused fault)) =
    OfSomeBytes left rest (λ ahead behind. (items_ahead old ahead ≡ Refused fault ∷ []) × (items_ahead new behind ≡ items_ahead old ahead))
Hands old left new rest (Ok found.End) = OfSomeBytes left rest (λ ahead behind. (items_ahead old ahead ≡ []) × (items_ahead new behind ≡ items_ahead old ahead))
Hands old left new rest (Err fault) = WhateverFollows left rest (λ ahead behind. items_ahead new behind ≡ items_ahead old ahead)

-- what is ahead, the bytes that wait and those that the reader gives, stays
abbrev pub KeepsAhead : Cursor → Option (List ℕ) → Cursor → Option (List ℕ) → Type 0
KeepsAhead old left new rest = WhateverFollows left rest (λ ahead behind. new.waiting ++ behind ≡ old.waiting ++ ahead)

-- a line and its line feed are the first bytes that were ahead, and the others still are
abbrev pub TakesLine : Cursor → Option (List ℕ) → Cursor → Option (List ℕ) → Type 0
TakesLine old left new rest = WhateverFollows left rest (λ ahead behind. old.waiting ++ ahead ≡ new.line ++ 10 ∷ (new.waiting ++ behind)) × IsPlain new.line

-- the bytes that were ahead lose a line that is handed out, and nothing else
abbrev pub HandsAhead : Cursor → Option (List ℕ) → Cursor → Option (List ℕ) → Result Next LogFault → Type 0
HandsAhead old left new rest (Ok found.Line) = TakesLine old left new rest
HandsAhead old left new rest (Ok (found.Refused fault)) = KeepsAhead old left new rest
HandsAhead old left new rest (Ok found.End) = KeepsAhead old left new rest
HandsAhead old left new rest (Err fault) = KeepsAhead old left new rest

-- a line and its line feed are handed out, whatever the reader's bytes; else nothing is
abbrev pub HandsBytes : Result Next LogFault → Cursor → Cursor → Type 0
HandsBytes (Ok found.Line) old new = new.handed ≡ old.handed + length new.line + 1
HandsBytes (Ok (found.Refused fault)) old new = new.handed ≡ old.handed
HandsBytes (Ok found.End) old new = new.handed ≡ old.handed
HandsBytes (Err fault) old new = new.handed ≡ old.handed

-- the calls of the reader that brought no byte: one where the log's end was seen or a call failed,
-- else none
abbrev pub idle_reads : Result Next LogFault → ℕ
idle_reads (Ok found.Line) = 0
idle_reads (Ok (found.Refused faults.LineTooLong)) = 0
idle_reads (Ok (found.Refused faults.LogTooLong)) = 0
idle_reads (Ok (found.Refused faults.NoLineEnd)) = 1
idle_reads (Ok found.End) = 1
idle_reads (Err fault) = 1

-- a call didn't fail, and the reader wasn't called
abbrev pub IsUnread : {T : Type 0} → Result T LogFault → ℕ → ℕ → Type 0
IsUnread (Ok value) before after = after ≡ before
IsUnread (Err fault) before after = ⊥

-- a reader gave bytes among which is no line feed
abbrev pub GetsPlain : Option (List ℕ) → Option (List ℕ) → Type 0
GetsPlain left rest = (got : List ℕ) × Consumes left rest got × IsPlain got

-- a reader gave bytes of which fewer stand behind the first line feed than it is asked for at most
-- in one call
abbrev pub GetsNear : Option (List ℕ) → Option (List ℕ) → Type 0
GetsNear left rest = (got : List ℕ) × Consumes left rest got × (length (behind_feed got) < READ_LIMIT)

-- the reader's failed calls rose by one exactly where its failure is answered, and then its last
-- call failed
abbrev pub TellsFailure : {T : Type 0} → Result T LogFault → ℕ → ℕ → Bool → Type 0
TellsFailure (Ok value) before after last = after ≡ before
TellsFailure (Err (stopped_by.Read cause)) before after last = (after ≡ before + 1) × (last ≡ true)
TellsFailure (Err stopped_by.Memory) before after last = after ≡ before

-- what the bytes that wait tell: their first line, or that whatever follows there is none, or
-- nothing yet
abbrev pub Scanned : Scan → Cursor → Cursor → Type 0
Scanned scanned.Line old new =
    (old.waiting ≡ new.line ++ 10 ∷ new.waiting) × IsPlain new.line × (line_fault old.handed (length new.line) true ≡ None)
    × (new.handed ≡ old.handed + length new.line + 1)
Scanned (scanned.Refused fault) old new = Unmoved old new × ((rest : List ℕ) → items_ahead old rest ≡ Refused fault ∷ []) × (idle_reads (Ok (found.Refused fault)) ≡ 0)
Scanned scanned.Waits old new = Unmoved old new × IsPlain old.waiting × (bytes_received old ≤ LOG_LIMIT) × (length old.waiting ≤ LINE_LIMIT)

-- the first bytes that wait are the line, of this length, which a line feed ends
pub record Cut (count : ℕ) (old new : Cursor) : Type 0 where
  pub whole : old.waiting ≡ new.line ++ 10 ∷ new.waiting
  pub plain : IsPlain new.line
  pub size : length new.line ≡ count
  pub handed : new.handed ≡ old.handed

-- what the bytes that wait tell of a stream's first line: it, or that it is too long whatever
-- follows, or nothing yet
abbrev pub ScannedFirst : Scan → Cursor → Cursor → Type 0
ScannedFirst scanned.Line old new = Cut (length new.line) old new × (length new.line ≤ FIRST_LINE_LIMIT)
ScannedFirst (scanned.Refused fault) old new = (rest : List ℕ) → FIRST_LINE_LIMIT < length (before_feed (old.waiting ++ rest))
ScannedFirst scanned.Waits old new = Unmoved old new × IsPlain old.waiting × (length old.waiting ≤ FIRST_LINE_LIMIT)

-- the line is the first of these bytes, and isn't too long, and what is behind it is ahead
abbrev pub IsParted : Cursor → List ℕ → List ℕ → Type 0
IsParted lines bytes rest =
    (lines.line ≡ before_feed bytes) × (length (before_feed bytes) ≤ FIRST_LINE_LIMIT) × (lines.waiting ++ rest ≡ behind_feed bytes)

-- a stream is parted at its first line. Nothing is said of the parts where that is too long
abbrev pub PartsAtFirst : Option (List ℕ) → Option Cursor → Option (List ℕ) → Type 0
PartsAtFirst left None rest = OfBytes left (λ bytes. FIRST_LINE_LIMIT < length (before_feed bytes))
PartsAtFirst left (Some lines) rest = WhateverFollows left rest (IsParted lines)

-- bytes without a line feed wait, where they aren't past a limit
abbrev pub scan_of : Option LineFault → Scan
scan_of None = scanned.Waits
scan_of (Some faults.LineTooLong) = scanned.Refused faults.LineTooLong
scan_of (Some faults.LogTooLong) = scanned.Refused faults.LogTooLong
scan_of (Some faults.NoLineEnd) = scanned.Waits

-- so many more bytes wait, behind those that waited
pub record WaitsMore (old new : Cursor) (count : ℕ) : Type 0 where
  pub front : take (length old.waiting) new.waiting ≡ old.waiting
  pub size : length new.waiting ≡ length old.waiting + count

-- at the log's end
abbrev pub end_of : Option LineFault → Next
end_of None = found.End
end_of (Some fault) = found.Refused fault
