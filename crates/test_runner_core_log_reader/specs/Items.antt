-- The lines of a whole log, and what ends them before its end.
use Rattle.std.specs.Prelude.{ℕ, ◌+◌, ◌==◌, Bool, true, false, ◌&&◌, ◌||◌, nat_lt, nat_le, length, List, [], ◌∷◌, Option, None, Some, if◌then◌else◌}
use Rattle.std.specs.Option.{option_map_or}
use Rattle.std.specs.List.{slice_split}
use Rattle.test_runner_core_log_reader.specs.declared.limits.TheConstants.{LINE_LIMIT, LOG_LIMIT}
use Rattle.test_runner_core_log_reader.specs.declared.fault.LineFault.{LineFault}
use Rattle.test_runner_core_log_reader.specs.declared.fault.LineFault.TheVariants as faults

-- what a log gives: lines, and at its end perhaps a fault
pub data Item : Type 0 where
  Line : List ℕ → Item
  Refused : LineFault → Item

-- what is wrong with a line of so many bytes behind so many of the log, which a line feed ends or
-- the log's end. The line is too long at its first byte past the line's limit, the log at its first
-- byte past the log's limit, a line feed among them; the byte that comes first counts, and the
-- line's limit at the same byte
abbrev pub line_fault : ℕ → ℕ → Bool → Option LineFault
line_fault before size ended =
    if nat_lt LINE_LIMIT size && nat_le (before + LINE_LIMIT) LOG_LIMIT then Some faults.LineTooLong
    else if nat_lt LOG_LIMIT (before + size + (if ended then 1 else 0)) then Some faults.LogTooLong
    else if ended || size == 0 then None
    else Some faults.NoLineEnd

-- the items of the parts between line feeds, behind so many bytes of the log. No line feed ends the
-- last part
abbrev pub items_of : ℕ → List (List ℕ) → List Item
items_of before [] = []
items_of before (last ∷ []) = option_map_or (λ fault. Refused fault ∷ []) (line_fault before (length last) false) []
items_of before (line ∷ next ∷ more) =
    option_map_or (λ fault. Refused fault ∷ []) (line_fault before (length line) true) (Line line ∷ items_of (before + length line + 1) (next ∷ more))

-- the parts of a text between its line feeds
abbrev pub parts : List ℕ → List (List ℕ)
parts = slice_split (λ byte. byte == 10)

-- the parts that a line feed ends: all but the last
abbrev pub ended_parts : List (List ℕ) → List (List ℕ)
ended_parts [] = []
ended_parts (last ∷ []) = []
ended_parts (line ∷ next ∷ more) = line ∷ ended_parts (next ∷ more)

-- the whole lines of bytes: each that a line feed ends
abbrev pub whole_lines : List ℕ → List (List ℕ)
whole_lines bytes = ended_parts (parts bytes)

-- the items of these bytes, behind so many of the log
abbrev pub items : ℕ → List ℕ → List Item
items before bytes = items_of before (parts bytes)
