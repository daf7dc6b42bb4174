-- What `first_success` answers is the number of the first success, and nothing else is.
use Rattle.std.proofs.Common.{suc, zero, ◌≡◌, ℕ, ◌<◌, Bool, true, false, Option, Some, None, refl, ap, subst, arith, inl, inr}
use Rattle.std.proofs.lemmas.Bool.{cases_lt}
use Rattle.nextest_run_events_results.specs.declared.record.Record.{Record}
use Rattle.test_runner_core_run_model.specs.Assignment.{first_success, found_or}
use Rattle.test_runner_core_run_model.specs.Laws.{IsFirstSuccess, is_success_at}

-- one more try
one_more : (attempt : ℕ → Record) (tries : ℕ) (before : Option ℕ) (succeeds : Bool) → is_success_at attempt (suc tries) ≡ succeeds
    → IsFirstSuccess attempt tries before → IsFirstSuccess attempt (suc tries) (found_or before succeeds (suc tries))
one_more attempt tries (Some number) succeeds e first = let small = first.1 in (first.0, omega arith, first.2, first.3)
one_more attempt tries None true e none = (omega arith, omega arith, e, λ before from less. none before from (omega arith))
one_more attempt tries None false e none = λ number from within.
    elim (cases_lt number (suc tries)) [
      | inl less ↦ none number from (omega arith)
      | inr more ↦ let same : suc tries ≡ number = omega arith in subst (λ (n : ℕ). is_success_at attempt n ≡ false) same e
    ]

pub finds_first_success : (attempt : ℕ → Record) (tries : ℕ) → IsFirstSuccess attempt tries (first_success attempt tries)
finds_first_success attempt zero = λ number from within. absurd (omega arith)
finds_first_success attempt (suc tries) =
    one_more attempt tries (first_success attempt tries) (is_success_at attempt (suc tries)) refl (finds_first_success attempt tries)

-- of two numbers neither is below the other
not_below : (attempt : ℕ → Record) (tries one other : ℕ) → IsFirstSuccess attempt tries (Some one) → IsFirstSuccess attempt tries (Some other)
    → one < other → ⊥
not_below attempt tries one other a b less = let yes = a.2 in let no = b.3 one a.0 less in cc

pub one_first_success : (attempt : ℕ → Record) (tries : ℕ) (one other : Option ℕ)
    → IsFirstSuccess attempt tries one → IsFirstSuccess attempt tries other → one ≡ other
one_first_success attempt tries (Some one) (Some other) a b =
    elim (cases_lt one other) [
      | inl less ↦ absurd (not_below attempt tries one other a b less)
      | inr most ↦ elim (cases_lt other one) [
        | inl less ↦ absurd (not_below attempt tries other one b a less)
        | inr least ↦ let same : one ≡ other = omega arith in ap Some same
      ]
    ]
one_first_success attempt tries (Some one) None a b = let yes = a.2 in let no = b one a.0 a.1 in cc
one_first_success attempt tries None (Some other) a b = let yes = b.2 in let no = a other b.0 b.1 in cc
one_first_success attempt tries None None a b = refl
