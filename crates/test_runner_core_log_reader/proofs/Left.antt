-- The bytes that a reader may give, and what a call leaves of them.
use Rattle.std.proofs.Common.{ℕ, List, [], ◌++◌, Option, Some, None, refl, sym, ap, ◌∙◌}
use Rattle.std.specs.Io.KnownBytes.{Consumes, IsAtEnd, Keeps}
use Rattle.test_runner_core_streams.specs.Left.{MayGive}

-- a reader may give some bytes
pub gives_some : (left : Option (List ℕ)) → (bytes : List ℕ) × MayGive left bytes
gives_some None = ([], tt)
gives_some (Some left) = (left, refl)

-- what it gave, and then what it may give
pub gives_consumed : (left rest : Option (List ℕ)) (got behind : List ℕ) → Consumes left rest got → MayGive rest behind → MayGive left (got ++ behind)
gives_consumed None rest got behind consumes gives = tt
gives_consumed (Some left) None got behind consumes gives = absurd consumes
gives_consumed (Some left) (Some rest) got behind consumes gives = ap (λ (bytes : List ℕ). got ++ bytes) gives ∙ sym consumes

pub gives_kept : (left rest : Option (List ℕ)) (behind : List ℕ) → Keeps left rest → MayGive rest behind → MayGive left behind
gives_kept None rest behind keeps gives = tt
gives_kept (Some left) None behind keeps gives = absurd keeps
gives_kept (Some left) (Some rest) behind keeps gives = gives ∙ keeps

-- nothing, at the end
pub gives_none : (rest : Option (List ℕ)) → IsAtEnd rest → MayGive rest []
gives_none None over = tt
gives_none (Some rest) over = sym over
