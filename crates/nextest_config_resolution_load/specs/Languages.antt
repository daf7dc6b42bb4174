-- How filters and platform specs are read.
use Rattle.std.specs.Prelude.{◌⊎◌, Bool, true, false, Option, None, Some}

-- the filter that a text is; or it is none, or too deep for the reader
abbrev pub ReadsFilter : {F : Type 0} → (F → Type 0) → Type 0 → Option F → Type 0
ReadsFilter {F} IsThis IsTooDeep (Some it) = IsThis it
ReadsFilter {F} IsThis IsTooDeep None = ((it : F) → IsThis it → ⊥) ⊎ IsTooDeep

-- the platform spec that a text is; or it is none
abbrev pub ReadsSpec : {S : Type 0} → (S → Type 0) → Option S → Type 0
ReadsSpec {S} IsThis (Some it) = IsThis it
ReadsSpec {S} IsThis None = (it : S) → IsThis it → ⊥

-- whether a value is such a one; else none is
abbrev pub Serves : {F : Type 0} → (F → Type 0) → F → Bool → Type 0
Serves {F} IsThis it true = IsThis it
Serves {F} IsThis it false = (other : F) → IsThis other → ⊥
