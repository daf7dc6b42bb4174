-- How checks are gone through: all are kept, or the first that is broken is told.
use Rattle.std.specs.Prelude.{◌≡◌, ℕ, List, Result, Ok, Err, ⊤}
use Rattle.std.specs.List.{AllByRecursion}
use Rattle.nextest_config_resolution_load.specs.Checks.{Check, Refusal}
use Rattle.nextest_config_resolution_load.specs.Load.{BreaksFirst, IsFilterBy, IsKept, IsSpecBy, reason_of}
use Rattle.nextest_config_resolution_load.specs.declared.load_error.LoadError.{LoadError}
use Rattle.nextest_config_resolution_load.specs.declared.load_error.LoadError.TheVariants as error

-- a fault is told for this; want of memory says nothing
abbrev pub IsRefused : Refusal → LoadError → Type 0
IsRefused refusal (error.Refused told) = reason_of told ≡ refusal
IsRefused refusal error.OutOfMemory = ⊤

-- a fault is told for the first of some checks that is broken
abbrev pub RefusesFor : {F S : Type 0} → IsFilterBy F → IsSpecBy S → (List ℕ → Type 0) → List Check → LoadError → Type 0
RefusesFor Is IsSpec IsTooDeep checks (error.Refused told) = BreaksFirst Is IsSpec IsTooDeep checks (reason_of told)
RefusesFor Is IsSpec IsTooDeep checks error.OutOfMemory = ⊤

-- a call keeps some checks and gives such a value, or tells the first of them that is broken
abbrev pub Passes : {F S A : Type 0} → IsFilterBy F → IsSpecBy S → (List ℕ → Type 0) → List Check → (A → Type 0) → Result A LoadError → Type 0
Passes Is IsSpec IsTooDeep checks IsIt (Ok x) = AllByRecursion (IsKept Is IsSpec) checks × IsIt x
Passes Is IsSpec IsTooDeep checks IsIt (Err told) = RefusesFor Is IsSpec IsTooDeep checks told
