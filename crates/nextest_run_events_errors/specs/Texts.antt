-- The texts by which what went wrong is told.
use Rattle.std.specs.Prelude.{ℕ, List, [], ◌++◌, codes, Option, Some, None, if◌then◌else◌}
use Rattle.std.specs.Str.{encode_utf8_all}
use Rattle.bstr.specs.Utf8.{lossy_chars}
use Rattle.nextest_run_events_results.specs.Texts.{text_of_abort}
use Rattle.nextest_run_events_slices.specs.Slices.{part_of}
use Rattle.nextest_run_events_errors.specs.declared.described.UnitAbortDescription.{UnitAbortDescription}
use Rattle.nextest_run_events_errors.specs.declared.described.DescribedError.{DescribedError}
use Rattle.nextest_run_events_errors.specs.declared.described.DescribedError.TheVariants as error

-- how a process was ended, and that it left handles open
abbrev pub text_of_unit_abort : UnitAbortDescription → List ℕ
text_of_unit_abort abort = codes "process " ++ text_of_abort abort.description.now ++ (if abort.leaked then codes " (leaked handles)" else [])

-- of an abort that text, of a slice its bytes as text; nothing is said of what a start error or an
-- output error writes
abbrev pub text_of_error : DescribedError → Option (List ℕ)
text_of_error (error.Start why) = None
text_of_error (error.Output why) = None
text_of_error (error.Abort abort) = Some (text_of_unit_abort abort)
text_of_error (error.Slice slice) = Some (encode_utf8_all (lossy_chars (part_of slice).slice.now))
