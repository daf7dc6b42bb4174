-- What holds of a result.
use Rattle.std.specs.List.{AllZip}
use Rattle.std.specs.Prelude.{List, [], ◌∷◌, IfOk, Result, Ok, Err}

-- what holds of a value for a weaker reason
pub if_ok : {A E : Type 0} (P Q : A → Type 0) → ((it : A) → P it → Q it) → (result : Result A E) → IfOk result P → IfOk result Q
if_ok P Q weaker (Ok it) holds = weaker it holds
if_ok P Q weaker (Err error) holds = holds

-- the same of two lists side by side
pub zip_weaker : {A B : Type 0} (P Q : A → B → Type 0) → ((x : A) (y : B) → P x y → Q x y) → (xs : List A) (ys : List B) → AllZip P xs ys → AllZip Q xs ys
zip_weaker P Q weaker [] [] all = all
zip_weaker P Q weaker [] (y ∷ ys) all = absurd all
zip_weaker P Q weaker (x ∷ xs) [] all = absurd all
zip_weaker P Q weaker (x ∷ xs) (y ∷ ys) all = (weaker x y all.0, zip_weaker P Q weaker xs ys all.1)
