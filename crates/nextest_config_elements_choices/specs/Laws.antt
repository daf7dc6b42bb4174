-- What the laws say.
use Rattle.std.specs.Prelude.{◌≡◌, ℕ, List}
use Rattle.std.specs.declared.cmp.Ordering.{Ordering}
use Rattle.std.specs.Ordering.{nat_cmp}
use Rattle.nextest_config_elements_choices.specs.MaxFail.{IsAccepted, IsMaxFail, text_of}
use Rattle.nextest_config_elements_choices.specs.declared.max_fail.MaxFail.{MaxFail}

-- an order is that of a rank
abbrev pub RisesByRank : {Level : Type 0} → (Level → ℕ) → (Level → Level → Ordering) → Type 0
RisesByRank {Level} rank cmp = (one other : Level) → cmp one other ≡ nat_cmp (rank one) (rank other)

-- what is printed of a limit is read as that limit
abbrev pub ReadsBack : Type 0
ReadsBack = (limit : MaxFail) → IsAccepted limit → IsMaxFail (text_of limit) limit

-- a text is at most one limit
abbrev pub OneMaxFail : Type 0
OneMaxFail = (text : List ℕ) (one other : MaxFail) → IsMaxFail text one → IsMaxFail text other → one ≡ other
