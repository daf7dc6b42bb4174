-- What reading a line gives.
use Rattle.std.specs.Prelude.{◌≡◌, ◌≢◌, ℕ, List, [], Option, Some, None, Result, Ok, Err, ⊤}
use Rattle.std.specs.Str.{IsUtf8}
use Rattle.test_runner_core_line_syntax.specs.Spelling.{Spells}
use Rattle.test_runner_core_line_syntax.specs.Lent.{line_meant}
use Rattle.test_runner_core_line_syntax.specs.Faults.{as_told}
use Rattle.test_runner_core_line_syntax.specs.declared.lent.LentLine.{LentLine}
use Rattle.test_runner_core_line_syntax.specs.declared.log_line.LogLine.{LogLine}
use Rattle.test_runner_core_line_syntax.specs.declared.log_line.LogLine.TheVariants as event
use Rattle.test_runner_core_line_syntax.specs.declared.parse_line_error.ParseLineError.{ParseLineError}
use Rattle.test_runner_core_line_syntax.specs.declared.parse_line_error.ParseLineError.TheVariants as fault
use Rattle.test_runner_core_line_syntax.specs.declared.spelling_error.SpellingError.{SpellingError}

-- an empty line is no event, any other is the event that it spells. A line that isn't UTF-8 is
-- refused as that, and else as bad where it isn't empty and spells no event. Running out of memory
-- says nothing
abbrev pub ReadsLine : List ℕ → Result (Option LogLine) ParseLineError → Type 0
ReadsLine bytes (Ok None) = bytes ≡ []
ReadsLine bytes (Ok (Some line)) = Spells line bytes
ReadsLine bytes (Err fault.NotUtf8) = IsUtf8 bytes → ⊥
ReadsLine bytes (Err fault.BadLine) = IsUtf8 bytes × (bytes ≢ []) × ((line : LogLine) → Spells line bytes → ⊥)
ReadsLine bytes (Err fault.OutOfMemory) = ⊤

-- the same where the event's texts still stand in the line, so that no memory is needed
abbrev pub LendsLine : List ℕ → Result (Option LentLine) SpellingError → Type 0
LendsLine bytes (Ok None) = bytes ≡ []
LendsLine bytes (Ok (Some lent)) = Spells (line_meant lent) bytes
LendsLine bytes (Err error) = ReadsLine bytes (Err (as_told error))

-- an event that has texts of its own
abbrev pub HasTexts : LogLine → Type 0
HasTexts (event.Script id ending) = ⊤
HasTexts (event.Start binary name) = ⊤
HasTexts (event.End binary name ending) = ⊤
HasTexts (event.Stop reason) = ⊥

-- the line spells an event that has texts
abbrev pub SpellsTexts : List ℕ → Type 0
SpellsTexts bytes = (line : LogLine) × Spells line bytes × HasTexts line
