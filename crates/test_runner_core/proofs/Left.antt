-- What holds of bytes that a reader may give holds of those that it has left, where they are known.
use Rattle.std.proofs.Common.{ℕ, List, Option, Some, None, subst}
use Rattle.test_runner_core_streams.specs.Left.{MayGive, OfBytes, OfSomeBytes}
use Rattle.test_runner_core_log_reader.proofs.Left.{gives_some}
use Rattle.test_runner_core.specs.Report.{OfLeft}

pub of_left : (Holds : List ℕ → Type 0) (left : Option (List ℕ)) (bytes : List ℕ) → MayGive left bytes → Holds bytes → OfLeft left Holds
of_left Holds None bytes gives holds = (bytes, holds)
of_left Holds (Some left) bytes gives holds = subst Holds gives holds

pub of_given : (Holds : List ℕ → Type 0) (left : Option (List ℕ)) → OfBytes left Holds → OfLeft left Holds
of_given Holds left (bytes, gives, holds) = of_left Holds left bytes gives holds

-- of those before a call, and of those after it
pub of_both : (Holds : List ℕ → List ℕ → Type 0) (left rest : Option (List ℕ)) → OfSomeBytes left rest Holds → OfLeft left (λ bytes. OfLeft rest (λ behind. Holds bytes behind))
of_both Holds left rest (behind, rest_gives, (bytes, gives, holds)) =
    of_left (λ bytes. OfLeft rest (λ behind. Holds bytes behind)) left bytes gives (of_left (Holds bytes) rest behind rest_gives holds)

-- what holds of all bytes
pub of_any : (Holds : List ℕ → Type 0) (left : Option (List ℕ)) → ((bytes : List ℕ) → Holds bytes) → OfLeft left Holds
of_any Holds left holds = let some = gives_some left in of_left Holds left some.0 some.1 (holds some.0)

pub given_any : (Holds : List ℕ → Type 0) (left : Option (List ℕ)) → ((bytes : List ℕ) → Holds bytes) → OfBytes left Holds
given_any Holds left holds = let some = gives_some left in (some.0, some.1, holds some.0)
