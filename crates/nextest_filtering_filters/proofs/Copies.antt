-- Copies of sets of texts have the same texts.
use Rattle.std.proofs.Common.{◌≡◌, ℕ, List, [], ◌∷◌, refl}
use Rattle.std.specs.Prelude.{string_bytes}
use Rattle.std.specs.BTreeMap.{is_at}
use Rattle.std.specs.BTreeSet.{BTreeSet, IsClone, contains_text}
use Rattle.std.specs.List.{AllZip, list_any}
use Rattle.std.specs.Ordering.{nat_cmp}
use Rattle.std.specs.Cmp.Lexicographic.{slice_cmp}
use Rattle.std.specs.declared.string.String.{String}

same_any : {Y : Type 0} (id : List ℕ) (keys copies : List (String Y)) → AllZip (λ a b. string_bytes b ≡ string_bytes a) keys copies
    → list_any (is_at (λ (k : String Y). slice_cmp nat_cmp id (string_bytes k))) copies ≡ list_any (is_at (λ (k : String Y). slice_cmp nat_cmp id (string_bytes k))) keys
same_any id [] [] all = refl
same_any id [] (copy ∷ copies) all = absurd all
same_any id (key ∷ keys) [] all = absurd all
same_any id (key ∷ keys) (copy ∷ copies) (same, more) = let rest = same_any id keys copies more in cc

pub same_texts : {Y : Type 0} (set copy : BTreeSet (String Y)) → IsClone (λ a b. string_bytes b ≡ string_bytes a) set copy → (id : List ℕ) → contains_text copy id ≡ contains_text set id
same_texts set copy all id = same_any id set.keys copy.keys all
