-- What goes wrong with an attempt of a test or a setup script, and in which order it is told.
use Rattle.std.specs.Prelude.{List, [], ◌∷◌, ◌++◌, map, Bool, Option, Some, None}
use Rattle.nextest_run_events_results.specs.declared.result.AbortDescription.{AbortDescription}
use Rattle.nextest_run_events_outputs.specs.declared.child_error.ChildErrorDescription.{ChildErrorDescription}
use Rattle.nextest_run_events_outputs.specs.declared.child_error.ChildStartErrorDescription.{ChildStartErrorDescription}
use Rattle.nextest_run_events_slices.specs.declared.slices.TestOutputErrorSlice.{TestOutputErrorSlice}
use Rattle.nextest_run_events_errors.specs.declared.described.UnitAbortDescription.{UnitAbortDescription}
use Rattle.nextest_run_events_errors.specs.declared.described.DescribedError.{DescribedError}
use Rattle.nextest_run_events_errors.specs.declared.described.DescribedError.TheVariants as error

-- how a process was ended, and whether it left handles open too
pub record Aborted : Type 0 where
  pub how : AbortDescription
  pub leaked : Bool

-- one thing that went wrong: a start error, an output error, an abort, or the slice that tells of
-- the error
pub data Described : Type 0 where
  of_start : ChildStartErrorDescription → Described
  of_output : ChildErrorDescription → Described
  of_abort : Aborted → Described
  of_slice : TestOutputErrorSlice → Described

-- an abort as a value
abbrev pub abort_value : UnitAbortDescription → Aborted
abort_value abort = record { how = abort.description.now; leaked = abort.leaked }

-- an error as a value
abbrev pub description_of : DescribedError → Described
description_of (error.Start why) = of_start why.now
description_of (error.Output why) = of_output why.now
description_of (error.Abort abort) = of_abort (abort_value abort)
description_of (error.Slice slice) = of_slice slice

-- the one, if there is one
abbrev pub one_of : {A : Type 0} → (A → Described) → Option A → List Described
one_of as_error None = []
one_of as_error (Some found) = as_error found ∷ []

-- what kept a process from running well: the start error or the output errors
abbrev pub exec_fail : Option ChildStartErrorDescription → List ChildErrorDescription → List Described
exec_fail start outputs = one_of of_start start ++ map of_output outputs

-- what comes of the process itself: the abort, then the slice
abbrev pub child_process : Option Aborted → Option TestOutputErrorSlice → List Described
child_process abort slice = one_of of_abort abort ++ one_of of_slice slice
