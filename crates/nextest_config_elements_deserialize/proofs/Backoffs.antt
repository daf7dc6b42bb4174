-- The word of a backoff, and what it is read as.
use Rattle.std.proofs.Common.{◌≡◌, ℕ, ◌⊎◌, Bool, true, false, List, [], ◌∷◌, Option, None, Some, refl, sym, ap, ◌∙◌, inl, inr}
use Rattle.std.specs.Prelude.{codes, option_and_then, if◌then◌else◌}
use Rattle.std.specs.Str.{bytes_eq}
use Rattle.std.proofs.lemmas.Bool.{cond-true, cond-false}
use Rattle.std.proofs.lemmas.Slice.Eq.{bytes_eq-Decides}
use Rattle.toml.specs.Data.{Data, string, integer, float, boolean, datetime, array, table, Members, get_member}
use Rattle.nextest_config_elements_deserialize.specs.Accepted.{HasText, Has}
use Rattle.nextest_config_elements_deserialize.specs.Retries.{backoff}
use Rattle.nextest_config_elements_deserialize.specs.Words.{named_in}
use Rattle.nextest_config_elements_deserialize.specs.declared.backoff.Backoff.{Backoff}
use Rattle.nextest_config_elements_deserialize.specs.declared.backoff.Backoff.TheVariants as delays

-- the word of a backoff
abbrev pub text_of : Backoff → List ℕ
text_of delays.Fixed = codes "fixed"
text_of delays.Exponential = codes "exponential"

-- a word is the first of a table, or stands further on
in_row : {A : Type 0} (word key : List ℕ) (x y : A) (rest : Option A) (b : Bool) → bytes_eq word key ≡ b
    → (if bytes_eq word key then Some x else rest) ≡ Some y → ((word ≡ key) × (x ≡ y)) ⊎ (rest ≡ Some y)
in_row word key x y rest true is e =
    let some : Some x ≡ Some y = sym (cond-true (bytes_eq word key) (Some x) rest is) ∙ e in
    inl ((bytes_eq-Decides word key).0 is, cc)
in_row word key x y rest false isnt e = inr (sym (cond-false (bytes_eq word key) (Some x) rest isnt) ∙ e)

word_is : (text : List ℕ) (kind : Backoff) → backoff (string text) ≡ Some kind → text ≡ text_of kind
word_is text kind e =
    elim (in_row text (codes "fixed") delays.Fixed kind (named_in ((codes "exponential", delays.Exponential) ∷ []) text) (bytes_eq text (codes "fixed")) refl e) [
      | inl both ↦ both.0 ∙ ap text_of both.1
      | inr rest ↦ elim (in_row text (codes "exponential") delays.Exponential kind None (bytes_eq text (codes "exponential")) refl rest) [
        | inl both ↦ both.0 ∙ ap text_of both.1
        | inr none ↦ absurd (no_kind none)
      ]
    ]
  where
    no_kind : None ≡ Some kind → ⊥
    no_kind none = cc

given_is : (found : Option Data) (kind : Backoff) → option_and_then backoff found ≡ Some kind → found ≡ Some (string (text_of kind))
given_is None kind e = absurd (cc)
given_is (Some (string text)) kind e = ap (λ (it : List ℕ). Some (string it)) (word_is text kind e)
given_is (Some (integer number)) kind e = absurd (cc)
given_is (Some (float number)) kind e = absurd (cc)
given_is (Some (boolean holds)) kind e = absurd (cc)
given_is (Some (datetime date)) kind e = absurd (cc)
given_is (Some (array items)) kind e = absurd (cc)
given_is (Some (table inner)) kind e = absurd (cc)

pub kind_text : (members : Members) (kind : Backoff) → Has members (codes "backoff") backoff kind → HasText members (codes "backoff") (text_of kind)
kind_text members kind has = given_is (get_member (codes "backoff") members) kind has

word_read : (kind : Backoff) → backoff (string (text_of kind)) ≡ Some kind
word_read delays.Fixed = refl
word_read delays.Exponential = refl

pub text_kind : (members : Members) (kind : Backoff) → HasText members (codes "backoff") (text_of kind) → Has members (codes "backoff") backoff kind
text_kind all kind has = ap (option_and_then backoff) has ∙ word_read kind
