-- The words of units: letters, and at least one; and no unit is nothing.
use Rattle.std.proofs.Common.{◌≡◌, ℕ, ◌<◌, Bool, true, false, List, [], ◌∷◌, length, Some, refl, sym, subst, ◌∙◌, inl, inr}
use Rattle.std.specs.Prelude.{nat_eq, nat_lt, ◌&&◌}
use Rattle.std.specs.Char.{is_ascii_alphabetic}
use Rattle.std.specs.Cmp.Lexicographic.{pointwise}
use Rattle.std.specs.List.{list_all}
use Rattle.std.proofs.lemmas.Bool.{and_parts, or_cases, false≢true, cond-true, cond-false, ltb-true}
use Rattle.std.proofs.lemmas.Slice.Eq.{bytes_eq-Decides}
use Rattle.nextest_config_elements_values.specs.Duration.{is_among, look_up, unit_nanos, units}

-- letters, and at least one
abbrev pub is_word : List ℕ → Bool
is_word name = list_all is_ascii_alphabetic name && nat_lt 0 (length name)

-- words, and more than no nanoseconds
abbrev pub is_row : List (List ℕ) × ℕ → Bool
is_row row = list_all is_word row.0 && nat_lt 0 row.1

among_words : (names : List (List ℕ)) (word : List ℕ) → list_all is_word names ≡ true → is_among names word ≡ true → is_word word ≡ true
among_words [] word words among = absurd (false≢true among)
among_words (name ∷ names) word words among =
    let both = and_parts (is_word name) (list_all is_word names) words in
    elim (or_cases (pointwise nat_eq name word) (is_among names word) among) [
      | inl same ↦ subst (λ (it : List ℕ). is_word it ≡ true) ((bytes_eq-Decides name word).0 same) both.0
      | inr further ↦ among_words names word both.1 further
    ]

in_row : (row : List (List ℕ) × ℕ) (rows : List (List (List ℕ) × ℕ)) (word : List ℕ) (unit : ℕ) → is_row row ≡ true
    → (look_up rows word ≡ Some unit → (is_word word ≡ true) × (0 < unit)) → look_up (row ∷ rows) word ≡ Some unit
    → (b : Bool) → is_among row.0 word ≡ b → (is_word word ≡ true) × (0 < unit)
in_row row rows word unit good further found true among =
    let parts = and_parts (list_all is_word row.0) (nat_lt 0 row.1) good in
    let some : Some row.1 ≡ Some unit = sym (cond-true (is_among row.0 word) (Some row.1) (look_up rows word) among) ∙ found in
    let same : row.1 ≡ unit = cc in
    (among_words row.0 word parts.0 among, subst (λ (it : ℕ). 0 < it) same (ltb-true 0 row.1 parts.1))
in_row row rows word unit good further found false other =
    further (sym (cond-false (is_among row.0 word) (Some row.1) (look_up rows word) other) ∙ found)

in_table : (rows : List (List (List ℕ) × ℕ)) (word : List ℕ) (unit : ℕ) → list_all is_row rows ≡ true → look_up rows word ≡ Some unit
    → (is_word word ≡ true) × (0 < unit)
in_table [] word unit good found = cc
in_table (row ∷ rows) word unit good found =
    let both = and_parts (is_row row) (list_all is_row rows) good in
    in_row row rows word unit both.0 (in_table rows word unit both.1) found (is_among row.0 word) refl

-- the table is of words
table : list_all is_row units ≡ true
unfolding units
table = refl

pub unit_word : (word : List ℕ) (unit : ℕ) → unit_nanos word ≡ Some unit
    → (list_all is_ascii_alphabetic word ≡ true) × ((0 < length word) × (0 < unit))
unit_word word unit named =
    let both = in_table units word unit table named in
    let parts = and_parts (list_all is_ascii_alphabetic word) (nat_lt 0 (length word)) both.0 in
    (parts.0, (ltb-true 0 (length word) parts.1, both.1))
