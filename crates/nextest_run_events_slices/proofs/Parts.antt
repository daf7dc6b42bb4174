-- Where the parts of an output begin and end.
use Rattle.std.proofs.Common.{◌≡◌, ◌+◌, ◌-◌, ◌≤◌, ℕ, Bool, true, false, cond, List, [], ◌++◌, Some, None, length, take, drop, slice_index_or, length-append, length-drop, take-append-drop, append_assoc, refl, sym, ap, subst, ◌∙◌, inl, inr, arith}
use Rattle.std.specs.List.{Contains, concat}
use Rattle.std.proofs.lemmas.List.{append-nil, take_at, drop_at, drop_more}
use Rattle.std.proofs.lemmas.List.Elements.{All-contains, Contains-push}
use Rattle.std.specs.Char.{is_whitespace}
use Rattle.bstr.specs.Trim.{trim_end_by}
use Rattle.bstr.specs.Text.{lines_of, no_cr, without_terminator}
use Rattle.nextest_run_events_slices.specs.Notes.{IsNote}
use Rattle.nextest_run_events_slices.specs.Places.{Span, IsPanic, IsLastPanic, IsPanicStart}
use Rattle.nextest_run_events_slices.specs.Slices.{HasNoPanic, IsPartFrom, IsPartOf}
use Rattle.nextest_run_events_slices.specs.declared.slices.ByteSubslice.{ByteSubslice}
use Rattle.nextest_run_events_slices.proofs.NoteLines.{split_lines}
use Rattle.nextest_run_events_slices.proofs.Taken.{some_bytes}

nothing_inside : (taken : List Span) (span : Span) → taken ≡ [] → ¬ (Contains taken span)
nothing_inside taken span none inside = omega (arith, inside.1, ap length none)

-- where none is taken there is none
pub none_taken : (bytes : List ℕ) → IsLastPanic bytes None → HasNoPanic bytes
none_taken bytes walked span is =
    nothing_inside walked.0 span walked.2 ((walked.1.whole span is).1 (λ covered. nothing_inside walked.0 covered.0 walked.2 covered.1))

pub last_within : (bytes : List ℕ) (at : ℕ) → IsLastPanic bytes (Some at) → at ≤ length bytes
last_within bytes at walked =
    let last : Span = walked.2.1 in
    let inside : Contains walked.0 last = subst (λ (t : List Span). Contains t last) (sym walked.2.2) (Contains-push walked.2.0 last) in
    let is : IsPanic bytes last = All-contains (IsPanic bytes) walked.0 last walked.1.panics inside in
    let long = some_bytes bytes last is in
    let stop = is.stop in
    let starts : last.start ≡ at = walked.2.3 in
    let whole : length (drop last.start bytes) ≡ length is.head + length is.rest = ap length is.stands ∙ length-append is.head is.rest in
    omega (arith, length-drop last.start bytes)

pub start_within : (bytes : List ℕ) (at start : ℕ) → at ≤ length bytes → IsPanicStart bytes at start → start ≤ length bytes
start_within bytes at start within begins = elim begins [
  | inl line ↦ omega (arith, line.holds, line.above)
  | inr here ↦ omega (arith, here.0)
]

-- bytes that another list begins with
abbrev IsFront : List ℕ → List ℕ → Type 0
IsFront front whole = (rest : List ℕ) × (whole ≡ front ++ rest)

front_all : (bytes : List ℕ) → IsFront bytes bytes
front_all bytes = ([], sym (append-nil bytes))

front_take : (n : ℕ) (bytes : List ℕ) → IsFront (take n bytes) bytes
front_take n bytes = (drop n bytes, sym (take-append-drop n bytes))

front_then : (one other whole : List ℕ) → IsFront one other → IsFront other whole → IsFront one whole
front_then one other whole first second = (first.0 ++ second.0, second.1 ∙ ap (λ l. l ++ second.0) first.1 ∙ append_assoc one first.0 second.0)

front_if : (test : Bool) (one other whole : List ℕ) → IsFront one whole → IsFront other whole → IsFront (cond test one other) whole
front_if true one other whole first second = first
front_if false one other whole first second = second

front_line : (line : List ℕ) → IsFront (without_terminator line) line
front_line line =
    let shorter = take (length line - 1) line in
    front_if _ (no_cr shorter) line line
    (front_then (no_cr shorter) shorter line (front_if _ (take (length shorter - 1) shorter) shorter shorter (front_take (length shorter - 1) shorter) (front_all shorter)) (front_take (length line - 1) line))
    (front_all line)

-- the line with the note is a part of the output
pub note_within : (output : List ℕ) (place : ℕ) (text : List ℕ) → IsNote output place text → text ≡ take (length text) (drop place output)
note_within output place text is =
    let lines = lines_of output in
    let line = slice_index_or lines is.number [] in
    let ahead : drop place output ≡ concat (drop is.number lines) =
    ap (drop place) (sym (split_lines output is.number)) ∙ drop_at (concat (take is.number lines)) (concat (drop is.number lines)) place (sym is.begins) in
    let next : concat (drop is.number lines) ≡ line ++ concat (drop (is.number + 1) lines) = ap concat (drop_more lines is.number [] is.within) in
    let front : IsFront text (drop place output) =
    front_then text line (drop place output) (subst (λ t. IsFront t line) (sym is.reads) (front_line line)) (concat (drop (is.number + 1) lines), ahead ∙ next) in
    sym (ap (take (length text)) front.1 ∙ take_at text front.0 (length text) refl)

-- a part of an output from a place on, without white space at its end
pub part_within : (output : List ℕ) (start : ℕ) (part : ByteSubslice) → IsPartFrom output start part → IsPartOf output part
part_within output start part reads =
    let whole = drop part.start output in
    let is : part.slice.now ≡ trim_end_by is_whitespace whole = reads.1 ∙ ap (λ n. trim_end_by is_whitespace (drop n output)) (sym reads.0) in
    let front : IsFront part.slice.now whole = subst (λ t. IsFront t whole) (sym is) (front_take _ whole) in
    sym (ap (take (length part.slice.now)) front.1 ∙ take_at part.slice.now front.0 (length part.slice.now) refl)
