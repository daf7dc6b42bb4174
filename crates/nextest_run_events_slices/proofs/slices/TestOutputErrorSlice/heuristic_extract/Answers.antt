use Rattle.std.proofs.Common.{List, ℕ, subst}
use Rattle.nextest_run_events_slices.specs.Notes.{HasNoNote}
use Rattle.nextest_run_events_slices.specs.Slices.{HasNoPanic, HasNoError, IsErrorSlice, IsNoteSlice, IsPanicSlice, IsPartOf}
use Rattle.nextest_run_events_slices.proofs.Parts.{note_within, part_within}
use Rattle.nextest_run_events_slices.proofs.slices.TestOutputErrorSlice.heuristic_extract.Goals as goal

pub returns-in-Some-error_part-clause-slice : goal.returns-in-Some-error_part-clause-slice
returns-in-Some-error_part-clause-slice c = (
  subst HasNoPanic c.bytes_of-stderr.ensures c.in_default.ensures,
  subst (λ (stderr : List ℕ). IsErrorSlice stderr c.in-Some-error_part.stderr_subslice) c.bytes_of-stderr.ensures c.in-Some-error_part.ensures,
)

pub returns-in_err-stdout_subslice-clause-slice : goal.returns-in_err-stdout_subslice-clause-slice
returns-in_err-stdout_subslice-clause-slice c =
    rw c.from_residual.ensures (
      subst HasNoPanic c.bytes_of-stderr.ensures c.in_default.ensures,
      subst HasNoError c.bytes_of-stderr.ensures c.in_default-error_part.ensures,
      subst HasNoNote c.bytes_of.ensures c.in_err-stdout_subslice.ensures,
    )

pub returns-clause-slice : goal.returns-clause-slice
returns-clause-slice c = (
  subst HasNoPanic c.bytes_of-stderr.ensures c.in_default.ensures,
  subst HasNoError c.bytes_of-stderr.ensures c.in_default-error_part.ensures,
  subst (λ (stdout : List ℕ). IsNoteSlice stdout c.in_ok-stdout_subslice.stdout_subslice) c.bytes_of.ensures c.in_ok-stdout_subslice.ensures,
)

pub returns-clause-within : goal.returns-clause-within
returns-clause-within c =
    subst (λ (stdout : List ℕ). IsPartOf stdout c.in_ok-stdout_subslice.stdout_subslice) c.bytes_of.ensures
    (note_within c.bytes_of.result.now c.in_ok-stdout_subslice.stdout_subslice.start c.in_ok-stdout_subslice.stdout_subslice.slice.now c.in_ok-stdout_subslice.ensures)

pub returns-in-Some-clause-slice : goal.returns-in-Some-clause-slice
returns-in-Some-clause-slice c = subst (λ (stderr : List ℕ). IsPanicSlice stderr c.in-Some.stderr_subslice) c.bytes_of-stderr.ensures c.in-Some.ensures

pub returns-in-Some-clause-within : goal.returns-in-Some-clause-within
returns-in-Some-clause-within c =
    subst (λ (stderr : List ℕ). IsPartOf stderr c.in-Some.stderr_subslice) c.bytes_of-stderr.ensures
    (part_within c.bytes_of-stderr.result.now c.in-Some.ensures.start c.in-Some.stderr_subslice c.in-Some.ensures.reads)

pub returns-in-Some-error_part-clause-within : goal.returns-in-Some-error_part-clause-within
returns-in-Some-error_part-clause-within c =
    subst (λ (stderr : List ℕ). IsPartOf stderr c.in-Some-error_part.stderr_subslice) c.bytes_of-stderr.ensures
    (part_within c.bytes_of-stderr.result.now c.in-Some-error_part.ensures.at c.in-Some-error_part.stderr_subslice c.in-Some-error_part.ensures.reads)
