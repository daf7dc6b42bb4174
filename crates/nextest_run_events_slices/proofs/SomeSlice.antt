-- It can't be that no answer is the part of a test's outputs that tells of its error.
use Rattle.std.proofs.Common.{◌≡◌, ◌⊎◌, inl, inr, ℕ, zero, suc, ◌+◌, ◌<◌, ◌≤◌, List, Option, None, Some, length, drop, take, refl, subst, arith, ◌≢◌}
use Rattle.std.specs.Char.{is_whitespace}
use Rattle.std.specs.List.{concat}
use Rattle.std.proofs.lemmas.Bool.{cases_eq}
use Rattle.bstr.specs.Text.{lines_of}
use Rattle.bstr.specs.Trim.{trim_end_by}
use Rattle.nextest_run_events_slices.proofs.LineStarts.{line_byte}
use Rattle.nextest_run_events_slices.proofs.Parts.{none_taken}
use Rattle.nextest_run_events_slices.proofs.Taken.{IsWalked, some_bytes, walk_end, walk_over, walk_past, walked_none}
use Rattle.nextest_run_events_slices.specs.Laws.{HasSomeSlice}
use Rattle.nextest_run_events_slices.specs.Notes.{HasNote, line_at}
use Rattle.nextest_run_events_slices.specs.Places.{IsErrorLineAbove, IsErrorPlace, IsLastPanic, IsLineStart, IsPanic, IsPanicStart, Span}
use Rattle.nextest_run_events_slices.specs.Slices.{HasNoError, HasNoPanic, IsPartFrom, IsSlice}
use Rattle.nextest_run_events_slices.specs.declared.slices.ByteSubslice.{ByteSubslice}
use Rattle.nextest_run_events_slices.specs.declared.slices.TestOutputErrorSlice.{TestOutputErrorSlice}
use Rattle.nextest_run_events_slices.specs.declared.slices.TestOutputErrorSlice.TheVariants.{PanicMessage, ErrorStr, ShouldPanic}

-- ---- it is so or it isn't

pub either_way : (So : Type 0) → ¬ ¬ (So ⊎ (So → ⊥))
either_way So never = never (inr (λ so. never (inl so)))

-- the first number of which something is so
record IsFirst (Is : ℕ → Type 0) (first : ℕ) : Type 0 where
  so : Is first
  none : (k : ℕ) → k < first → ¬ Is k

-- among the first numbers
first_below : (Is : ℕ → Type 0) (n : ℕ) → ¬ ¬ (((first : ℕ) × (first < n) × IsFirst Is first) ⊎ ((k : ℕ) → k < n → ¬ Is k))
first_below Is zero never = never (inr (λ k below. absurd (omega arith)))
first_below Is (suc n) never = first_below Is n by_before
  where
    by_last : ((k : ℕ) → k < n → ¬ Is k) → Is n ⊎ (Is n → ⊥) → ⊥
    by_last none (inl so) = never (inl (n, omega arith, record { so = so; none = none }))
    by_last none (inr not_so) = never (inr (λ k below so. none_below k (cases_eq k n) below so))
      where
        none_below : (k : ℕ) → (k ≡ n) ⊎ (k ≢ n) → k < suc n → Is k → ⊥
        none_below k (inl same) below so = not_so (subst Is same so)
        none_below k (inr other) below so = none k (omega arith) so

    by_before : ((first : ℕ) × (first < n) × IsFirst Is first) ⊎ ((k : ℕ) → k < n → ¬ Is k) → ⊥
    by_before (inl (first, below, is)) = never (inl (first, omega arith, is))
    by_before (inr none) = either_way (Is n) (by_last none)

-- there is a first, if there is one
some_first : (Is : ℕ → Type 0) (n : ℕ) → Is n → ¬ ¬ ((first : ℕ) × IsFirst Is first)
some_first Is n so never = first_below Is (n + 1) by_found
  where
    by_found : ((first : ℕ) × (first < n + 1) × IsFirst Is first) ⊎ ((k : ℕ) → k < n + 1 → ¬ Is k) → ⊥
    by_found (inl (first, below, is)) = never (first, is)
    by_found (inr none) = none n (omega arith) so

-- ---- panics

-- no line starts past the end
past_end : (bytes : List ℕ) (at : ℕ) → length bytes < at → (place : ℕ) → at ≤ place → ¬ (IsLineStart bytes place)
past_end bytes at past place above is = let there = line_byte bytes place (omega arith) is in omega (arith, there.1)

walk_from : (bytes : List ℕ) (fuel at : ℕ) (last : Option ℕ) → IsWalked bytes at last → length bytes < at + fuel → ¬ ¬ ((found : Option ℕ) × IsLastPanic bytes found)
walk_from bytes zero at last walked enough never = never (last, walk_end bytes at last walked (past_end bytes at (omega arith)))
walk_from bytes (suc fuel) at last walked enough never =
    either_way ((stop : ℕ) × IsPanic bytes (record { start = at; stop = stop }))
    (by_panic
    (λ stop is. let long = some_bytes bytes (record { start = at; stop = stop }) is in walk_from bytes fuel stop (Some at) (walk_over bytes at last walked stop is) (omega arith) never)
    (λ none. walk_from bytes fuel (at + 1) last (walk_past bytes at last walked none) (omega arith) never))
  where
    by_panic : ((stop : ℕ) → IsPanic bytes (record { start = at; stop = stop }) → ⊥) → (((span : Span) → IsPanic bytes span → span.start ≢ at) → ⊥)
        → ((stop : ℕ) × IsPanic bytes (record { start = at; stop = stop })) ⊎ (((stop : ℕ) × IsPanic bytes (record { start = at; stop = stop })) → ⊥) → ⊥
    by_panic over past (inl (stop, is)) = over stop is
    by_panic over past (inr none) = past (λ span is here. none (span.stop, subst (λ (n : ℕ). IsPanic bytes (record { start = n; stop = span.stop })) here is))

last_panic : (bytes : List ℕ) → ¬ ¬ ((found : Option ℕ) × IsLastPanic bytes found)
last_panic bytes = walk_from bytes (length bytes + 1) 0 None (walked_none bytes) (omega arith)

panic_start : (bytes : List ℕ) (at : ℕ) → ¬ ¬ ((start : ℕ) × IsPanicStart bytes at start)
panic_start bytes at never = either_way ((start : ℕ) × IsErrorLineAbove bytes at start) by_line
  where
    by_line : ((start : ℕ) × IsErrorLineAbove bytes at start) ⊎ (((start : ℕ) × IsErrorLineAbove bytes at start) → ⊥) → ⊥
    by_line (inl (start, above)) = never (start, inl above)
    by_line (inr none) = never (at, inr (refl, λ other above. none (other, above)))

-- ---- the part

part_from : (bytes : List ℕ) (start : ℕ) → (part : ByteSubslice) × IsPartFrom bytes start part
part_from bytes start = (record { slice = record { ref_ptr = (0, 0); now = trim_end_by is_whitespace (drop start bytes) }; start = start }, (refl, refl))

-- where no line of standard error tells of it
note_slice : (stdout stderr : List ℕ) → HasNoPanic stderr → HasNoError stderr → ¬ ¬ ((slice : Option TestOutputErrorSlice) × IsSlice stdout stderr slice)
note_slice stdout stderr no_panic no_error never = first_below (HasNote stdout) (length (lines_of stdout)) by_note
  where
    by_note : ((first : ℕ) × (first < length (lines_of stdout)) × IsFirst (HasNote stdout) first) ⊎ ((k : ℕ) → k < length (lines_of stdout) → ¬ HasNote stdout k) → ⊥
    by_note (inr none) = never (None, (no_panic, no_error, none))
    by_note (inl (number, within, is)) =
        let place = length (concat (take number (lines_of stdout))) in
        never (
          Some (ShouldPanic (record { slice = record { ref_ptr = (0, 0); now = line_at stdout number }; start = place })),
          (no_panic, no_error, record { number = number; within = within; has = is.so; first = is.none; begins = refl; reads = refl }),
        )

-- where no panic does
error_slice : (stdout stderr : List ℕ) → HasNoPanic stderr → ¬ ¬ ((slice : Option TestOutputErrorSlice) × IsSlice stdout stderr slice)
error_slice stdout stderr no_panic never = either_way ((at : ℕ) × IsErrorPlace stderr at) by_place
  where
    by_first : (first : ℕ) × IsFirst (IsErrorPlace stderr) first → ⊥
    by_first (first, is) =
        let part = part_from stderr first in
        never (Some (ErrorStr part.0), (no_panic, record { at = first; first = (is.so, is.none); reads = part.1 }))

    by_place : ((at : ℕ) × IsErrorPlace stderr at) ⊎ (((at : ℕ) × IsErrorPlace stderr at) → ⊥) → ⊥
    by_place (inl (at, is)) = some_first (IsErrorPlace stderr) at is by_first
    by_place (inr none) = note_slice stdout stderr no_panic (λ at is. none (at, is)) never

pub some_slice : HasSomeSlice
some_slice stdout stderr never = last_panic stderr by_last
  where
    by_last : (found : Option ℕ) × IsLastPanic stderr found → ⊥
    by_last (None, is) = error_slice stdout stderr (none_taken stderr is) never
    by_last (Some at, is) = panic_start stderr at (λ (start, begins).
        let part = part_from stderr start in
        never (Some (PanicMessage part.0), record { at = at; start = start; last = is; begins = begins; reads = part.1 }))
