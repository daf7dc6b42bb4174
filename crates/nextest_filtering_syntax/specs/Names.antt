-- The names of predicates.
use Rattle.std.specs.Prelude.{◌≡◌, ℕ, ◌==◌, Bool, false, ◌||◌, ◌&&◌, nat_le, List, [], ◌∷◌, ◌++◌, codes}
use Rattle.nextest_filtering_ast.specs.Words.{subject_word}
use Rattle.nextest_filtering_arguments.specs.Matchers.{subject_of}
use Rattle.nextest_filtering_syntax.specs.declared.name.Name.{Name}
use Rattle.nextest_filtering_syntax.specs.declared.name.Name.TheVariants as name

-- an ASCII letter, a digit or `_`
abbrev pub is_name_byte : ℕ → Bool
is_name_byte byte = (nat_le 97 byte && nat_le byte 122) || (nat_le 65 byte && nat_le byte 90) || (nat_le 48 byte && nat_le byte 57) || byte == 95

-- a name may go on with the text
abbrev pub goes_on : List ℕ → Bool
goes_on [] = false
goes_on (byte ∷ rest) = is_name_byte byte

abbrev pub name_word : Name → List ℕ
name_word (name.About subject) = subject_word (subject_of subject)
name_word name.Platform = codes "platform"
name_word name.Default = codes "default"
name_word name.All = codes "all"
name_word name.None = codes "none"

-- the text begins with the name, and rest follows
abbrev pub ReadsName : Name → List ℕ → List ℕ → Type 0
ReadsName name text rest = (text ≡ name_word name ++ rest) × (goes_on rest ≡ false)
