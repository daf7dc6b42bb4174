-- How a list is read, one by one.
use Rattle.std.proofs.Common.{◌≡◌, ℕ, List, [], ◌∷◌, ◌++◌, Ok, Err, sym, ap, ◌∙◌}
use Rattle.std.proofs.lemmas.List.{append_assoc}
use Rattle.nextest_config_elements_toml.specs.Reading.{Reading, ◌>>=◌, under}

-- values, and then those that are read
abbrev pub with_more : {A : Type 0} → List A → Reading (List A) → Reading (List A)
with_more values (Ok more) = Ok (values ++ more)
with_more values (Err path) = Err path

-- a value, and those behind it
abbrev ahead : {A : Type 0} → Reading (List A) → Reading A → Reading (List A)
ahead rest one = one >>= (λ first. rest >>= (λ more. Ok (first ∷ more)))

-- one more value
pub one_more : {A : Type 0} (values : List A) (value : A) (one : Reading A) (rest : Reading (List A)) → one ≡ Ok value
    → with_more values (ahead rest one) ≡ with_more (values ++ value ∷ []) rest
one_more values value one (Ok more) is = ap (λ it. with_more values (ahead (Ok more) it)) is ∙ ap Ok (sym (append_assoc values (value ∷ []) more))
one_more values value one (Err path) is = ap (λ it. with_more values (ahead (Err path) it)) is

-- and one that stands under a key
pub value_more : {A : Type 0} (key : List ℕ) (values : List A) (value : A) (one : Reading A) (rest : Reading (List A)) → one ≡ Ok value
    → with_more values (ahead rest (under key one)) ≡ with_more (values ++ value ∷ []) rest
value_more key values value one rest is = one_more values value (under key one) rest (ap (under key) is)
