-- What stays true while all of some bytes are written.
use Rattle.std.proofs.Common.{◌≡◌, ℕ, ◌+◌, ◌-◌, ◌≤◌, List, ◌++◌, length, take, drop, Option, Some, None, sym, ap, ◌∙◌, append_assoc, arith, length-drop, Bool, false, eqb, ltb, ◌&&◌, Ok}
use Rattle.std.proofs.Math.Seq.{take-add}
use Rattle.std.proofs.lemmas.List.{take_all}
use Rattle.std.proofs.lemmas.Bool.Decides.{nat_tests}
use Rattle.std.specs.Io.KnownBytes.{Appends}
use Rattle.std.specs.declared.io.Error.{Error as IoError}
use Rattle.test_runner_core_streams.specs.Streams.{failures_after, write_fails}

-- so many of the bytes are taken, and no call failed
pub record Writing (before after : Option (List ℕ)) (bytes : List ℕ) (at first_failures failures : ℕ) : Type 0 where
  pub taken : Appends before after (take at bytes)
  pub within : at ≤ length bytes
  pub unfailed : failures ≡ first_failures

pub taken_next : (before mid after : Option (List ℕ)) (bytes : List ℕ) (at count : ℕ) → Appends before mid (take at bytes)
    → Appends mid after (take count (drop at bytes)) → Appends before after (take (at + count) bytes)
taken_next None mid after bytes at count a b = tt
taken_next (Some xs) None after bytes at count a b = absurd a
taken_next (Some xs) (Some ys) None bytes at count a b = absurd b
taken_next (Some xs) (Some ys) (Some zs) bytes at count a b =
    b ∙ ap (λ (ws : List ℕ). ws ++ take count (drop at bytes)) a ∙ append_assoc xs (take at bytes) (take count (drop at bytes))
    ∙ ap (λ (ws : List ℕ). xs ++ ws) (sym (take-add at count bytes))

-- the rest of the bytes, as a slice
pub rest_is : (bytes : List ℕ) (at : ℕ) → take (length bytes - at) (drop at bytes) ≡ drop at bytes
rest_is bytes at = take_all (length bytes - at) (drop at bytes) (omega (arith, length-drop at bytes))

-- a call that took some bytes did not fail
pub not_failed : (count before after : ℕ) (bytes : List ℕ) → (count ≡ 0 → ⊥) → after ≡ failures_after before (write_fails {E = IoError} (Ok count) bytes) → after ≡ before
not_failed count before after bytes some h =
    h ∙ ap (λ (none : Bool). failures_after before (none && ltb 0 (length bytes))) (let e : eqb count 0 ≡ false = grind (arith, nat_tests) in e)
