-- Which value bytes are.
use Rattle.std.proofs.Common.{◌≡◌, ℕ, ◌^◌, ◌≤◌, ◌&&◌, Bool, true, false, List, length, nat_le, None, Option, refl, ap, ◌∙◌, cond}
use Rattle.std.proofs.lemmas.Str.{IsUtf8-from_is_utf8, is_utf8-from_IsUtf8}
use Rattle.std.proofs.lemmas.Bool.{le-leb}
use Rattle.std.specs.Str.{IsUtf8, is_utf8}
use Rattle.serde_json.specs.Read.{read}
use Rattle.test_runner_core_inputs.specs.Given.{value_of}

by_test : (bytes : List ℕ) (fits utf8 : Bool) → nat_le (length bytes) (2 ^ 24) ≡ fits → is_utf8 bytes ≡ utf8 → value_of bytes ≡ cond (fits && utf8) (read bytes) None
by_test bytes fits utf8 e f = ap (λ (b : Bool). cond (b && is_utf8 bytes) (read bytes) None) e ∙ ap (λ (b : Bool). cond (fits && b) (read bytes) None) f

nothing : {A : Type 0} (b : Bool) (x : Option A) → cond (b && false) x None ≡ None
nothing true x = refl
nothing false x = refl

-- bytes that aren't UTF-8 are none
pub none_unless_utf8 : (bytes : List ℕ) → (IsUtf8 bytes → ⊥) → value_of bytes ≡ None
none_unless_utf8 bytes isnt = refused (is_utf8 bytes) refl where
  refused : (utf8 : Bool) → is_utf8 bytes ≡ utf8 → value_of bytes ≡ None
  refused true e = absurd (isnt (IsUtf8-from_is_utf8 bytes e))
  refused false e = by_test bytes (nat_le (length bytes) (2 ^ 24)) false refl e ∙ nothing (nat_le (length bytes) (2 ^ 24)) (read bytes)

-- bytes in UTF-8 that aren't too many are what they read as
pub value_of_utf8 : (bytes : List ℕ) → length bytes ≤ 2 ^ 24 → IsUtf8 bytes → value_of bytes ≡ read bytes
value_of_utf8 bytes within is = by_test bytes true true (le-leb (length bytes) (2 ^ 24) within) (is_utf8-from_IsUtf8 bytes is)
