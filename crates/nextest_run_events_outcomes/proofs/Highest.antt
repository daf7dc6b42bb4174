-- Combining one outcome after another gives the highest.
use Rattle.std.proofs.Common.{◌≡◌, ◌≤◌, Bool, true, false, List, [], ◌∷◌, refl, arith, inl, inr, ◌⊎◌, subst}
use Rattle.std.proofs.lemmas.Bool.{ltb-true, ltb-false}
use Rattle.std.proofs.lemmas.List.Elements.{All-nil, All-cons, All-head, All-tail, Contains-append_left, Contains-append_right, Contains-append_cases}
use Rattle.std.specs.Prelude.{All, Contains, fold, nat_lt, if◌then◌else◌}
use Rattle.nextest_run_events_outcomes.specs.Outcome.{rank, higher_of, IsHighest}
use Rattle.nextest_run_events_outcomes.specs.declared.outcome.RunOutcome.{RunOutcome}
use Rattle.nextest_run_events_outcomes.specs.declared.outcome.RunOutcome.TheVariants.{NoTestsRun}

one_of : (a b : RunOutcome) → (higher_of a b ≡ a) ⊎ (higher_of a b ≡ b)
one_of a b = by_test (nat_lt (rank a) (rank b)) where
  by_test : (t : Bool) → ((if t then b else a) ≡ a) ⊎ ((if t then b else a) ≡ b)
  by_test true = inr refl
  by_test false = inl refl

above_first : (a b : RunOutcome) → rank a ≤ rank (higher_of a b)
above_first a b = by_test (nat_lt (rank a) (rank b)) refl where
  by_test : (t : Bool) → nat_lt (rank a) (rank b) ≡ t → rank a ≤ rank (if t then b else a)
  by_test true is = omega (arith, ltb-true (rank a) (rank b) is)
  by_test false is = omega arith

above_second : (a b : RunOutcome) → rank b ≤ rank (higher_of a b)
above_second a b = by_test (nat_lt (rank a) (rank b)) refl where
  by_test : (t : Bool) → nat_lt (rank a) (rank b) ≡ t → rank b ≤ rank (if t then b else a)
  by_test true is = omega arith
  by_test false is = omega (arith, ltb-false (rank a) (rank b) is)

-- among one of two and others is among the two and the others
widened : (a b c it : RunOutcome) (xs : List RunOutcome) → (c ≡ a) ⊎ (c ≡ b) → Contains (c ∷ xs) it → Contains (a ∷ b ∷ xs) it
widened a b c it xs (inr is) found =
    let here : Contains (b ∷ xs) it = subst (λ (x : RunOutcome). Contains (x ∷ xs) it) is found in
    Contains-append_right (a ∷ []) (b ∷ xs) it here
widened a b c it xs (inl is) found =
    let here : Contains (a ∷ xs) it = subst (λ (x : RunOutcome). Contains (x ∷ xs) it) is found in
    by_part (Contains-append_cases (a ∷ []) xs it here) where
      by_part : Contains (a ∷ []) it ⊎ Contains xs it → Contains (a ∷ b ∷ xs) it
      by_part (inl first) = Contains-append_left (a ∷ []) (b ∷ xs) it first
      by_part (inr later) = Contains-append_right (a ∷ b ∷ []) xs it later

fold_among : (first : RunOutcome) (xs : List RunOutcome) → Contains (first ∷ xs) (fold higher_of first xs)
fold_among first [] = (0, omega arith, refl)
fold_among first (x ∷ xs) =
    widened first x (higher_of first x) (fold higher_of (higher_of first x) xs) xs (one_of first x) (fold_among (higher_of first x) xs)

fold_above : (first : RunOutcome) (xs : List RunOutcome) → All (λ other. rank other ≤ rank (fold higher_of first xs)) (first ∷ xs)
fold_above first [] = All-cons (λ other. rank other ≤ rank first) first [] (omega arith) (All-nil (λ other. rank other ≤ rank first))
fold_above first (x ∷ xs) =
    let IsBelow : RunOutcome → Type 0 = λ other. rank other ≤ rank (fold higher_of (higher_of first x) xs) in
    let later : All IsBelow (higher_of first x ∷ xs) = fold_above (higher_of first x) xs in
    let both : rank (higher_of first x) ≤ rank (fold higher_of (higher_of first x) xs) = All-head IsBelow (higher_of first x) xs later in
    All-cons IsBelow first (x ∷ xs) (omega (arith, both, above_first first x))
    (All-cons IsBelow x xs (omega (arith, both, above_second first x)) (All-tail IsBelow (higher_of first x) xs later))

pub fold_is_highest : (xs : List RunOutcome) → IsHighest xs (fold higher_of NoTestsRun xs)
fold_is_highest xs = record { among = fold_among NoTestsRun xs; above = fold_above NoTestsRun xs }
