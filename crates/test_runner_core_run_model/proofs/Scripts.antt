-- The scripts of a run beside their assignment, and the parts of an event that is accepted.
use Rattle.std.proofs.Common.{suc, zero, ◌≡◌, ℕ, ◌≤◌, Bool, true, false, cond, ◌||◌, List, [], ◌∷◌, ◌++◌, Option, Some, None, Result, Ok, Err, refl, ap, ◌∙◌, subst, arith, inl, inr}
use Rattle.std.specs.List.{list_any}
use Rattle.std.specs.Option.{option_map_or}
use Rattle.std.proofs.lemmas.Bool.{cases_lt}
use Rattle.std.proofs.lemmas.List.Folds.{list_any-append}
use Rattle.nextest_run_events_results.specs.declared.record.Record.{Record}
use Rattle.test_runner_core_run_model.specs.Assignment.{some_script}
use Rattle.test_runner_core_run_model.specs.Ends.{first_scripts}

pub any_push : (test : Record → Bool) (ending : List Record) (last : Record) → list_any test (ending ++ last ∷ []) ≡ (list_any test ending || test last)
any_push test ending last = list_any-append test ending (last ∷ []) ∙ ap (λ (b : Bool). list_any test ending || b) (or_false (test last))
  where
    or_false : (b : Bool) → (b || false) ≡ b
    or_false true = refl
    or_false false = refl

pub any_first : (test : Record → Bool) (script : ℕ → Record) (scripts : ℕ) → list_any test (first_scripts script scripts) ≡ some_script test script scripts
any_first test script zero = refl
any_first test script (suc scripts) =
    any_push test (first_scripts script scripts) (script scripts) ∙ ap (λ (b : Bool). b || test (script scripts)) (any_first test script scripts)

-- what some of the first scripts do, some of more of them do
pub some_script-more : (test : Record → Bool) (script : ℕ → Record) (few many : ℕ) → few ≤ many → some_script test script few ≡ true → some_script test script many ≡ true
some_script-more test script few zero within h = let e : few ≡ 0 = omega arith in subst (λ (n : ℕ). some_script test script n ≡ true) e h
some_script-more test script few (suc many) within h =
    elim (cases_lt few (suc many)) [
      | inl less ↦ ap (λ (b : Bool). b || test (script many)) (some_script-more test script few many (omega arith) h)
      | inr more ↦ let e : few ≡ suc many = omega arith in subst (λ (n : ℕ). some_script test script n ≡ true) e h
    ]

-- behind a guard that refuses, nothing was refused
pub guard_ok : {E Y : Type 0} (b : Bool) (refusal : E) (more : Result Y E) (y : Y) → cond b (Err refusal) more ≡ Ok y → (b ≡ false) × (more ≡ Ok y)
guard_ok true refusal more y h = cc
guard_ok false refusal more y h = (refl, h)

-- behind a look-up that refuses, something was found
pub found_ok : {E X Y : Type 0} (f : X → Result Y E) (o : Option X) (refusal : E) (y : Y)
    → option_map_or f o (Err refusal) ≡ Ok y → (x : X) × (o ≡ Some x) × (f x ≡ Ok y)
found_ok f None refusal y h = cc
found_ok f (Some x) refusal y h = (x, refl, h)

pub ok_is : {E Y : Type 0} (x y : Y) → let r : Result Y E = Ok x in r ≡ Ok y → y ≡ x
ok_is x y h = cc
