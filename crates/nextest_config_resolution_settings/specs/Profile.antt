-- The values that profiles have, where no rule is asked.
use Rattle.std.specs.Prelude.{ℕ, List, Option, Some, None}
use Rattle.nextest_config_resolution_settings.specs.Nearest.{IsNearest, IsOfProfiles, SetsNone, Source}

-- the value that profiles have of a setting, wherever it comes from
pub record OfProfiles {P V : Type 0} (by_profile : P → Option V) (profiles : List P) (fallback value : V) : Type 0 where
  pub from : Source
  pub is : IsOfProfiles by_profile profiles fallback value from

-- the value that the nearest of some profiles sets for a setting
abbrev pub IsSetTo : {P V : Type 0} → (P → Option V) → List P → V → Type 0
IsSetTo by_profile profiles value = (place : ℕ) × IsNearest by_profile profiles place value

-- that, or none where none of them sets it
abbrev pub MaySet : {P V : Type 0} → (P → Option V) → List P → Option V → Type 0
MaySet by_profile profiles None = SetsNone by_profile profiles
MaySet by_profile profiles (Some value) = IsSetTo by_profile profiles value
