-- What a call that reads answers.
use Rattle.std.specs.Prelude.{◌≡◌, Option, None, Some, Result, Ok, Err, ⊤}
use Rattle.nextest_run_events_json.specs.declared.json_error.JsonError.{JsonError}
use Rattle.nextest_run_events_json.specs.declared.json_error.JsonError.TheVariants as error

-- what was read is what reading gives, and what is refused is not read; want of memory says nothing
abbrev pub Gives : {A : Type 0} → Result A JsonError → Option A → Type 0
Gives (Ok value) read = read ≡ Some value
Gives (Err error.BadJson) read = read ≡ None
Gives (Err error.OutOfMemory) read = ⊤
