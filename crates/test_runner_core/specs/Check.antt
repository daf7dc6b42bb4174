-- The first line of a log that is refused whatever the plan.
use Rattle.std.specs.Prelude.{◌≡◌, ℕ, ◌+◌, List, [], ◌∷◌, Option, None, Some, Ok, Err, ⊤, ◌⊎◌}
use Rattle.test_runner_core_log_reader.specs.Items.{Item, Line, Refused}
use Rattle.test_runner_core_line_syntax.specs.Reading.{ReadsLine}
use Rattle.test_runner_core_line_syntax.specs.declared.log_line.LogLine.{LogLine}
use Rattle.test_runner_core_line_syntax.specs.declared.parse_line_error.ParseLineError.TheVariants as unread
use Rattle.test_runner_core.specs.Judging.{line_refusal_of}
use Rattle.test_runner_core.specs.declared.refused_line.LineRefusal.{LineRefusal}
use Rattle.test_runner_core.specs.declared.refused_line.LineRefusal.TheVariants as refused
use Rattle.test_runner_core.specs.declared.refused_line.RefusedLine.{RefusedLine}

-- why the bytes of a whole line are refused; they aren't where they are no bytes or spell an event
abbrev pub IsReading : List ℕ → Option LineRefusal → Type 0
IsReading bytes None = (found : Option LogLine) × ReadsLine bytes (Ok found)
IsReading bytes (Some refused.LineTooLong) = ⊥
IsReading bytes (Some refused.LogTooLong) = ⊥
IsReading bytes (Some refused.NoLineEnd) = ⊥
IsReading bytes (Some (refused.Step refusal)) = ⊥
IsReading bytes (Some refused.NotUtf8) = ReadsLine bytes (Err unread.NotUtf8)
IsReading bytes (Some refused.BadLine) = ReadsLine bytes (Err unread.BadLine)

-- the first refused line of these items, the first of which has this number: each line before it is
-- accepted
abbrev pub FirstRefused : ℕ → List Item → Option RefusedLine → Type 0
FirstRefused number [] None = ⊤
FirstRefused number [] (Some found) = ⊥
FirstRefused number (Line bytes ∷ more) found =
    (IsReading bytes None × FirstRefused (number + 1) more found)
    ⊎ ((refusal : LineRefusal) × IsReading bytes (Some refusal) × (found ≡ Some (record { line = number; refusal = refusal })))
FirstRefused number (Refused fault ∷ more) found = found ≡ Some (record { line = number; refusal = line_refusal_of fault })
