-- What a refusal of a part says of the whole.
use Rattle.std.proofs.Common.{ℕ, List, Err}
use Rattle.nextest_filtering_globs.specs.declared.construct_error.GlobConstructError.{GlobConstructError}
use Rattle.nextest_filtering_globs.specs.declared.construct_error.GlobConstructError.TheVariants as fault
use Rattle.nextest_filtering_globs.specs.Reading.{Refuses, RangesRise}
use Rattle.nextest_filtering_globs.specs.Syntax.{AllRise, class_ranges}

pub refuses : {B D : Type 0} (P : B → List ℕ → Type 0) (Q : D → List ℕ → Type 0) (error : GlobConstructError)
    → (((b : B) (r : List ℕ) → P b r → ⊥) → (d : D) (r : List ℕ) → Q d r → ⊥) → Refuses P error → Refuses Q error
refuses P Q fault.InvalidGlob none h = none h
refuses P Q fault.OutOfMemory none h = tt

pub ranges_refuse : {D : Type 0} (body : List ℕ) (Q : D → List ℕ → Type 0) (error : GlobConstructError)
    → ((AllRise (class_ranges body) → ⊥) → (d : D) (r : List ℕ) → Q d r → ⊥) → RangesRise body (Err error)
    → Refuses Q error
ranges_refuse body Q fault.InvalidGlob none h = none h
ranges_refuse body Q fault.OutOfMemory none h = tt
