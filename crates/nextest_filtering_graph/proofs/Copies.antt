-- A copy of an index leads to the same places.
use Rattle.std.proofs.Common.{◌≡◌, ℕ, List, [], ◌∷◌, refl}
use Rattle.std.specs.Prelude.{String, string_bytes}
use Rattle.std.specs.BTreeMap.{BTreeMap, IsClone, get_by_text, is_at}
use Rattle.std.specs.Cmp.Lexicographic.{slice_cmp}
use Rattle.std.specs.List.{AllZip}
use Rattle.std.specs.Map.{lookup}
use Rattle.std.specs.Ordering.{nat_cmp}

same_lookup : {Y X : Type 0} (id : List ℕ) (entries copies : List (String Y × X))
    → AllZip (λ p q. (string_bytes q.0 ≡ string_bytes p.0) × (q.1 ≡ p.1)) entries copies
    → lookup (is_at (λ (k : String Y). slice_cmp nat_cmp id (string_bytes k))) copies ≡ lookup (is_at (λ (k : String Y). slice_cmp nat_cmp id (string_bytes k))) entries
same_lookup id [] [] all = refl
same_lookup id [] (copy ∷ copies) all = absurd all
same_lookup id (entry ∷ entries) [] all = absurd all
same_lookup id (entry ∷ entries) (copy ∷ copies) ((text, value), more) = let rest = same_lookup id entries copies more in cc

pub same_index : {Y X : Type 0} (index copy : BTreeMap (String Y) X) → IsClone (λ a b. string_bytes b ≡ string_bytes a) (λ a b. b ≡ a) index copy
    → (id : List ℕ) → get_by_text copy id ≡ get_by_text index id
same_index index copy all id = same_lookup id index.entries copy.entries all

pub pairs_same : {A B : Type 0} (items copies : List (A × B)) → AllZip (λ one other. (other.0 ≡ one.0) × (other.1 ≡ one.1)) items copies → copies ≡ items
pairs_same [] [] all = refl
pairs_same [] (copy ∷ copies) all = absurd all
pairs_same (item ∷ items) [] all = absurd all
pairs_same (item ∷ items) (copy ∷ copies) (same, more) = λ i. (same.0 i, same.1 i) ∷ pairs_same items copies more i
