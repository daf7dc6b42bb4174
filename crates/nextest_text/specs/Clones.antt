-- What a clone of a list is.
use Rattle.std.specs.Prelude.{◌≡◌, List}
use Rattle.std.specs.List.{AllZip}

-- each value that may be returned as a clone equals what it was made from
abbrev pub ClonesEqual : {T : Type 0} → (T → T → Type 0) → Type 0
ClonesEqual {T} is_clone = (original copy : T) → is_clone original copy → copy ≡ original

-- a list of clones, in the same order; the same list, where clones of its elements equal them
pub record ClonesAll {T : Type 0} (is_clone : T → T → Type 0) (original copy : List T) : Type 0 where
  pub each : AllZip is_clone original copy
  pub equal : ClonesEqual is_clone → copy ≡ original
