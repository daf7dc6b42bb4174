-- The line which says that a test should have panicked.
use Rattle.std.specs.Prelude.{◌≡◌, ◌<◌, ℕ, List, [], length, take, slice_index_or, codes}
use Rattle.std.specs.List.{concat}
use Rattle.bstr.specs.Text.{Contains, lines_of, without_terminator}

-- the line with this number, without its line feed and a carriage return before it
abbrev pub line_at : List ℕ → ℕ → List ℕ
line_at output number = without_terminator (slice_index_or (lines_of output) number [])

-- the line has the note
abbrev pub HasNote : List ℕ → ℕ → Type 0
HasNote output number = Contains (line_at output number) (codes "note: test did not panic as expected")

-- the text is the first line that has the note, and the place is where it begins
pub record IsNote (output : List ℕ) (place : ℕ) (text : List ℕ) : Type 0 where
  pub number : ℕ
  pub within : number < length (lines_of output)
  pub has : HasNote output number
  pub first : (k : ℕ) → k < number → ¬ (HasNote output k)
  pub begins : place ≡ length (concat (take number (lines_of output)))
  pub reads : text ≡ line_at output number

-- no line has it
abbrev pub HasNoNote : List ℕ → Type 0
HasNoNote output = (k : ℕ) → k < length (lines_of output) → ¬ (HasNote output k)
