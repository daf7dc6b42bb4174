-- A table is looked up in two parts.
use Rattle.std.proofs.Common.{◌≡◌, ℕ, zero, suc, Bool, true, false, if◌then◌else◌, List, [], ◌∷◌, take, drop, Option, Some, None, refl}
use Rattle.nextest_config_elements_values.specs.Duration.{is_among, look_up}

-- what the front has is what all have
front_if : (among : Bool) (found nanos : ℕ) (front all : Option ℕ) → (Some found ≡ front → Some found ≡ all)
    → Some found ≡ (if among then Some nanos else front) → Some found ≡ (if among then Some nanos else all)
front_if true found nanos front all next is = is
front_if false found nanos front all next is = next is

pub look_front : (n : ℕ) (table : List (List (List ℕ) × ℕ)) (word : List ℕ) (found : ℕ) → Some found ≡ look_up (take n table) word → Some found ≡ look_up table word
look_front zero table word found is = cc is
look_front (suc n) [] word found is = cc is
look_front (suc n) (row ∷ table) word found is = front_if (is_among row.0 word) found row.1 _ _ (look_front n table word found) is

-- where the front has none, the rest tells
rest_if : (among : Bool) (nanos : ℕ) (front rest all : Option ℕ) → (None ≡ front → rest ≡ all)
    → None ≡ (if among then Some nanos else front) → rest ≡ (if among then Some nanos else all)
rest_if true nanos front rest all next is = cc is
rest_if false nanos front rest all next is = next is

pub look_rest : (n : ℕ) (table : List (List (List ℕ) × ℕ)) (word : List ℕ) → None ≡ look_up (take n table) word → look_up (drop n table) word ≡ look_up table word
look_rest zero table word is = refl
look_rest (suc n) [] word is = refl
look_rest (suc n) (row ∷ table) word is = rest_if (is_among row.0 word) row.1 _ _ _ (look_rest n table word) is
