-- Which records of a workspace are accepted.
use Rattle.std.specs.Prelude.{◌≡◌, ℕ, ◌==◌, Bool, false, not, ◌&&◌, ◌||◌, length, List, [], ◌∷◌, Option, None, Some, Result, Ok, Err, ⊤, map, if◌then◌else◌}
use Rattle.std.specs.List.{list_any, list_all}
use Rattle.std.specs.Str.{bytes_eq}
use Rattle.test_runner_core_workspace.specs.declared.record.Link.{Link}
use Rattle.test_runner_core_workspace.specs.declared.record.WorkspaceRecord.{WorkspaceRecord}
use Rattle.test_runner_core_workspace.specs.declared.workspace_error.WorkspaceError.{WorkspaceError}
use Rattle.test_runner_core_workspace.specs.declared.workspace_error.WorkspaceError.TheVariants as error
use Rattle.test_runner_core_workspace.specs.declared.workspace_fault.WorkspaceFault.{WorkspaceFault}
use Rattle.test_runner_core_workspace.specs.declared.workspace_fault.WorkspaceFault.TheVariants as refused

-- a text is among texts
abbrev pub is_among : List (List ℕ) → List ℕ → Bool
is_among texts text = list_any (bytes_eq text) texts

-- a text stands twice
abbrev pub has_repeat : List (List ℕ) → Bool
has_repeat [] = false
has_repeat (text ∷ texts) = is_among texts text || has_repeat texts

abbrev pub package_ids : WorkspaceRecord → List (List ℕ)
package_ids workspace = map (λ it. it.id) workspace.packages

abbrev pub binary_ids : WorkspaceRecord → List (List ℕ)
binary_ids workspace = map (λ it. it.id) workspace.binaries

-- both ends of a link are packages
abbrev pub is_known_link : (List ℕ → Bool) → Link → Bool
is_known_link is_known link = is_known link.from && is_known link.to

-- a text contains a tab, a line feed or a carriage return
abbrev pub has_separator : List ℕ → Bool
has_separator text = list_any (λ byte. byte == 9 || byte == 10 || byte == 13) text

-- an id is empty or contains a tab, a line feed or a carriage return
abbrev pub is_bad_id : List ℕ → Bool
is_bad_id id = length id == 0 || has_separator id

-- why a record whose packages have ids of their own is refused, if it is, by which ids are known
abbrev pub refusal_by : (List ℕ → Bool) → WorkspaceRecord → Option WorkspaceFault
refusal_by is_known workspace =
    if not (list_all (is_known_link is_known) workspace.links) then Some refused.UnknownLink
    else if has_repeat (binary_ids workspace) then Some refused.RepeatedBinary
    else if not (list_all (λ binary. is_known binary.package) workspace.binaries) then Some refused.UnknownPackage
    else if list_any is_bad_id (binary_ids workspace) then Some refused.BadId
    else None

-- why a record is refused, if it is: each reason is looked for in the whole record before the next
abbrev pub refusal_of : WorkspaceRecord → Option WorkspaceFault
refusal_of workspace =
    if has_repeat (package_ids workspace) then Some refused.RepeatedPackage
    else refusal_by (is_among (package_ids workspace)) workspace

-- a check passes where nothing refuses the record, and else tells the reason; want of memory says
-- nothing
abbrev pub Checks : {T : Type 0} → WorkspaceRecord → Result T WorkspaceError → Type 0
Checks given (Ok done) = refusal_of given ≡ None
Checks given (Err (error.Refused refusal)) = refusal_of given ≡ Some refusal
Checks given (Err error.OutOfMemory) = ⊤

-- a read gives the record itself where nothing refuses it, and else the reason; want of memory says
-- nothing
abbrev pub Reads : WorkspaceRecord → Result WorkspaceRecord WorkspaceError → Type 0
Reads given (Ok workspace) = (workspace ≡ given) × (refusal_of given ≡ None)
Reads given (Err (error.Refused refusal)) = refusal_of given ≡ Some refusal
Reads given (Err error.OutOfMemory) = ⊤
