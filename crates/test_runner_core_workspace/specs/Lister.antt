-- What a lister answers and keeps.
use Rattle.std.specs.Prelude.{◌≡◌, ℕ, List, [], ◌∷◌, ◌++◌, Option, Result, Ok, Err, ◌⊎◌}
use Rattle.std.specs.List.{find}
use Rattle.std.specs.Option.{option_map, option_map_or}
use Rattle.std.specs.Ordering.{nat_cmp}
use Rattle.std.specs.Str.{bytes_eq}
use Rattle.std.specs.Cmp.Lexicographic.{slice_cmp}
use Rattle.std.specs.BTreeMap.{BTreeMap, get_by}
use denote.Ref.{Bor}
use Rattle.test_runner_core_workspace.specs.declared.record.Binary.{Binary}
use Rattle.test_runner_core_workspace.specs.declared.record.BinaryTests.{BinaryTests}
use Rattle.test_runner_core_workspace.specs.declared.record.BinaryTests.TheVariants as tests
use Rattle.test_runner_core_workspace.specs.declared.record.WorkspaceRecord.{WorkspaceRecord}
use Rattle.test_runner_core_workspace.specs.declared.list_fault.ListFault.{ListFault}
use Rattle.test_runner_core_workspace.specs.declared.list_fault.ListFault.TheVariants as fault

-- what a binary answers: the names of its tests, or why it can't list them
abbrev pub Answer : Type 0
Answer = Result (List (List ℕ)) (List ℕ)

-- a result is the answer, but for want of memory
abbrev pub IsAnswer : Result (List (List ℕ)) ListFault → Answer → Type 0
IsAnswer (Ok names) answer = answer ≡ Ok names
IsAnswer (Err (fault.Cause cause)) answer = answer ≡ Err cause
IsAnswer (Err fault.OutOfMemory) answer = Unit {0}

-- the list of ids asked for grows by this one; where there was no memory it may stay
abbrev pub Asks : Result (List (List ℕ)) ListFault → List (List ℕ) → List ℕ → List (List ℕ) → Type 0
Asks (Ok names) old id new = new ≡ old ++ id ∷ []
Asks (Err (fault.Cause cause)) old id new = new ≡ old ++ id ∷ []
Asks (Err fault.OutOfMemory) old id new = (new ≡ old ++ id ∷ []) ⊎ (new ≡ old)

abbrev pub answer_of : BinaryTests → Answer
answer_of (tests.Names names) = Ok names
answer_of (tests.Fault cause) = Err cause

-- the first binary of an id
abbrev pub first_of_id : List Binary → List ℕ → Option Binary
first_of_id binaries id = find (λ it. bytes_eq id it.id) binaries

-- what a table says of an id: what its first binary answers; an id that it hasn't is the cause
abbrev pub table_answer : WorkspaceRecord → List ℕ → Answer
table_answer workspace id = option_map_or (λ it. answer_of it.tests) (first_of_id workspace.binaries id) (Err id)

-- a table lister: the record that it answers by, and the ids that it was asked for
pub record Table : Type 0 where
  pub workspace : WorkspaceRecord
  pub asked : List (List ℕ)

-- the value that an index has at a text
abbrev pub found_at : BTreeMap (Bor (List ℕ)) (Bor Binary) → List ℕ → Option Binary
found_at index text = option_map (λ it. it.now) (get_by (λ key. slice_cmp nat_cmp text key.now) index)

-- an index leads from each id to its first binary
abbrev pub IsIndex : BTreeMap (Bor (List ℕ)) (Bor Binary) → List Binary → Type 0
IsIndex index binaries = (id : List ℕ) → found_at index id ≡ first_of_id binaries id
