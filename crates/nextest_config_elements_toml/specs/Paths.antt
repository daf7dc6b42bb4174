-- Where values stand, and what a reader answers.
use Rattle.std.specs.Prelude.{◌≡◌, ℕ, true, false, List, ◌++◌, Option, None, Some, Result, Ok, Err, ⊤, codes, map}
use Rattle.std.specs.Fmt.{signed_decimal}
use Rattle.std.specs.List.{join_with_byte}
use denote.Ref.{Bor}
use Rattle.toml.specs.Data.{Data, string, integer, float, boolean, datetime, array, table}
use Rattle.nextest_config_elements_toml.specs.Reading.{Path, Reading}
use Rattle.nextest_config_elements_toml.specs.declared.value_error.ValueError.{ValueError}
use Rattle.nextest_config_elements_toml.specs.declared.value_error.ValueError.TheVariants as error

-- the keys of a path that is lent
abbrev pub texts : List (Bor (List ℕ)) → Path
texts path = map (λ key. key.now) path

-- how a path prints: its keys, with a dot between each two
abbrev pub dotted_text : Path → List ℕ
dotted_text keys = join_with_byte 46 keys

-- what is refused stands at a path
abbrev pub IsRefusedAt : Path → ValueError → Type 0
IsRefusedAt path (error.Refused bad) = bad.path.keys ≡ path
IsRefusedAt path error.OutOfMemory = ⊤

-- what is refused is told with what may stand there
abbrev pub IsExpected : List ℕ → ValueError → Type 0
IsExpected expected (error.Refused bad) = bad.expected.now ≡ expected
IsExpected expected error.OutOfMemory = ⊤

-- a text tells what stands somewhere: a text in quotes, a number or a truth value as written, else
-- the name of its type
abbrev pub IsTold : Option Data → List ℕ → Type 0
IsTold None text = text ≡ codes "nothing"
IsTold (Some (string given)) text = ⊤
IsTold (Some (integer number)) text = text ≡ signed_decimal number
IsTold (Some (boolean true)) text = text ≡ codes "true"
IsTold (Some (boolean false)) text = text ≡ codes "false"
IsTold (Some (float number)) text = text ≡ codes "a float"
IsTold (Some (datetime time)) text = text ≡ codes "a date or time"
IsTold (Some (array _)) text = text ≡ codes "an array"
IsTold (Some (table _)) text = text ≡ codes "a table"

-- what is refused is told with what stands there
abbrev pub IsFound : Option Data → ValueError → Type 0
IsFound found (error.Refused bad) = IsTold found bad.found
IsFound found error.OutOfMemory = ⊤

-- a reading of what stands at a path
abbrev pub at : {A : Type 0} → Path → Reading A → Reading A
at path (Ok x) = Ok x
at path (Err inner) = Err (path ++ inner)

-- a call gives what reading gives at a path; want of memory says nothing
abbrev pub GivesAt : {A : Type 0} → Path → Result A ValueError → Reading A → Type 0
GivesAt path (Ok x) reading = reading ≡ Ok x
GivesAt path (Err (error.Refused bad)) reading = at path reading ≡ Err bad.path.keys
GivesAt path (Err error.OutOfMemory) reading = ⊤

-- the same, of a path that the call is handed
abbrev pub Gives : {A : Type 0} → List (Bor (List ℕ)) → Result A ValueError → Reading A → Type 0
Gives path result reading = GivesAt (texts path) result reading
