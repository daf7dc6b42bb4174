-- What holds of every spelling and every reading.
use Rattle.std.specs.Prelude.{◌≡◌, ◌≢◌, ℕ, List, Option, Result, Err}
use Rattle.test_runner_core_line_syntax.specs.Spelling.{Spells}
use Rattle.test_runner_core_line_syntax.specs.Reading.{ReadsLine}
use Rattle.test_runner_core_line_syntax.specs.declared.log_line.LogLine.{LogLine}
use Rattle.test_runner_core_line_syntax.specs.declared.parse_line_error.ParseLineError.{ParseLineError}
use Rattle.test_runner_core_line_syntax.specs.declared.parse_line_error.ParseLineError.TheVariants as fault

-- a line spells one event at most
abbrev pub OneEvent : Type 0
OneEvent = (a b : LogLine) (bytes : List ℕ) → Spells a bytes → Spells b bytes → a ≡ b

-- an event has one line at most
abbrev pub OneSpelling : Type 0
OneSpelling = (line : LogLine) (x y : List ℕ) → Spells line x → Spells line y → x ≡ y

-- unless memory runs out, a line can be read in one way only
abbrev pub OneReading : Type 0
OneReading = (bytes : List ℕ) (first second : Result (Option LogLine) ParseLineError) → ReadsLine bytes first → ReadsLine bytes second
    → first ≢ Err fault.OutOfMemory → second ≢ Err fault.OutOfMemory → first ≡ second
