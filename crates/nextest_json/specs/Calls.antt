-- What a call that reads answers.
use Rattle.std.specs.Prelude.{◌≡◌, ℕ, List, ◌∷◌, Result, Ok, Err, ⊤, Vec}
use Rattle.std.specs.Borrow.{Bor}
use Rattle.nextest_text.specs.Parts.{lent_texts}
use Rattle.nextest_json.specs.Reading.{Reading}
use Rattle.nextest_json.specs.declared.fault.Fault.{Fault}
use Rattle.nextest_json.specs.declared.fault.Fault.TheVariants as fault

-- what was read is what reading gives; want of memory says nothing
abbrev pub Gives : {A : Type 0} → Result A Fault → Reading A → Type 0
Gives (Ok x) read = read ≡ Ok x
Gives (Err (fault.At path)) read = read ≡ Err path
Gives (Err fault.OutOfMemory) read = ⊤

-- lent texts that were read, each as its bytes
abbrev pub as_texts : {Z : Type 0} → Result (Vec (Bor (List ℕ)) Z) Fault → Result (List (List ℕ)) Fault
as_texts (Ok texts) = Ok (lent_texts texts.items)
as_texts (Err why) = Err why

-- a fault, told from one step further out, where there was memory to tell it
abbrev pub IsBelow : Fault → List ℕ → Fault → Type 0
IsBelow (fault.At path) step (fault.At longer) = longer ≡ step ∷ path
IsBelow (fault.At path) step fault.OutOfMemory = ⊤
IsBelow fault.OutOfMemory step (fault.At longer) = ⊥
IsBelow fault.OutOfMemory step fault.OutOfMemory = ⊤
