-- What reading a text gives.
use Rattle.std.specs.Prelude.{◌⊎◌, Result, Ok, Err, ⊤}
use Rattle.nextest_config_resolution_filters.specs.declared.filter_error.FilterError.{FilterError}
use Rattle.nextest_config_resolution_filters.specs.declared.filter_error.FilterError.TheVariants as filter
use Rattle.nextest_config_resolution_filters.specs.declared.spec_error.SpecError.{SpecError}
use Rattle.nextest_config_resolution_filters.specs.declared.spec_error.SpecError.TheVariants as spec

-- the filter that a text is; or it is refused, since it is none, or too deep for the reader; want
-- of memory says nothing of it
abbrev pub Reads : {Filter : Type 0} → (Filter → Type 0) → Type 0 → Result Filter FilterError → Type 0
Reads IsThis IsTooDeep (Ok it) = IsThis it
Reads {Filter} IsThis IsTooDeep (Err filter.Refused) = ((it : Filter) → IsThis it → ⊥) ⊎ IsTooDeep
Reads IsThis IsTooDeep (Err filter.OutOfMemory) = ⊤

-- the spec that a text is; or it is refused, since it is none; want of memory says nothing of it
abbrev pub ReadsSpec : {Spec : Type 0} → (Spec → Type 0) → Result Spec SpecError → Type 0
ReadsSpec IsThis (Ok it) = IsThis it
ReadsSpec {Spec} IsThis (Err spec.Refused) = (it : Spec) → IsThis it → ⊥
ReadsSpec IsThis (Err spec.OutOfMemory) = ⊤
