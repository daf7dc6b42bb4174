-- The names of profiles, one further.
use Rattle.std.proofs.Common.{◌≡◌, ℕ, Bool, List, [], ◌∷◌, ◌++◌, filter, map, string_bytes, refl, sym, ap, ◌∙◌, append_assoc}
use Rattle.std.proofs.lemmas.List.Elements.{filter-append}
use Rattle.std.specs.Map.{keys_of}
use Rattle.toml.proofs.Views.{Entry}
use Rattle.toml.specs.View.{members_view}
use Rattle.nextest_config_resolution_warnings.specs.Reserved.{names}

-- the keys of a table are those of its map
pub names_of : (entries : List Entry) → map string_bytes (keys_of entries) ≡ names (members_view entries)
names_of [] = refl
names_of (entry ∷ entries) = ap (λ (l : List (List ℕ)). string_bytes entry.0 ∷ l) (names_of entries)

-- of the names one further
pub filter_further : (p : List ℕ → Bool) (before now whole : List (List ℕ)) (name : List ℕ) (ahead : List (List ℕ))
    → before ++ filter p (name ∷ ahead) ≡ whole → now ≡ before ++ filter p (name ∷ []) → now ++ filter p ahead ≡ whole
filter_further p before now whole name ahead known more =
    ap (λ (l : List (List ℕ)). l ++ filter p ahead) more
    ∙ append_assoc before (filter p (name ∷ [])) (filter p ahead)
    ∙ ap (λ (l : List (List ℕ)). before ++ l) (sym (filter-append p (name ∷ []) ahead))
    ∙ known
