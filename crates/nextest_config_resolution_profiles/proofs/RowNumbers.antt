-- Numbers of rows, made column by column.
use Rattle.std.proofs.Common.{◌≡◌, ℕ, zero, suc, nat_lt, ◌+◌, ◌*◌, ◌^◌, ◌%◌, ◌<◌, ◌≤◌, Bool, true, false, List, [], ◌∷◌, ◌++◌, cond, length, get_or, map, take, refl, sym, ap, ◌∙◌, subst, append_assoc, arith, drop, replicate}
use Rattle.std.proofs.Math.Nat.{add_assoc, mod-add-mod, mod-eq_of_lt, pow-le-pow_right, pow-suc}
use Rattle.std.proofs.Math.Seq.{take-append_seam}
use Rattle.std.proofs.lemmas.Bool.{false≢true, lt-ltb}
use Rattle.std.proofs.lemmas.Nat.{pow_below}
use Rattle.std.proofs.lemmas.List.{get_or-replicate, length-append, length-map, length-replicate, map-append, map_push, take_more}
use Rattle.std.proofs.lemmas.Slice.Zip.{AllZip-long}
use Rattle.nextest_config_resolution_profiles.specs.Evaluatable.{Evaluatable}
use Rattle.nextest_config_resolution_profiles.specs.RuleLaws.{NumberedRows}
use Rattle.nextest_config_resolution_profiles.specs.Carried.{AreCarried, number_with, weight_behind}
use Rattle.nextest_config_resolution_profiles.specs.HeldRules.{AreHeldColumns, AreNumbers, Columns, held_row, next_weight, row_at, row_number, row_weight, rule_count, value_at}
use Rattle.nextest_filtering_filters.specs.Query.{Binary, Test}

-- ---- rows and their numbers

-- one more value
weight_push : (weight : ℕ) (row : List Bool) (holds : Bool) → row_weight weight (row ++ holds ∷ []) ≡ row_weight weight row + cond holds (weight_behind weight (length row)) 0
weight_push weight [] holds = omega arith
weight_push weight (first ∷ row) holds =
    ap (λ (n : ℕ). cond first weight 0 + n) (weight_push (next_weight weight) row holds)
    ∙ sym (add_assoc (cond first weight 0) (row_weight (next_weight weight) row) (cond holds (weight_behind (next_weight weight) (length row)) 0))

number_push : (row : List Bool) (holds : Bool) → row_number (row ++ holds ∷ []) ≡ number_with (weight_behind 1 (length row)) holds (row_number row)
number_push row true = ap (λ (n : ℕ). n % 2 ^ 64) (weight_push 1 row true) ∙ sym (mod-add-mod (row_weight 1 row) (2 ^ 64) (weight_behind 1 (length row)))
number_push row false = ap (λ (n : ℕ). n % 2 ^ 64) (weight_push 1 row false ∙ omega arith)

-- the weight behind one more
behind_more : (weight count : ℕ) → next_weight (weight_behind weight count) ≡ weight_behind weight (suc count)
behind_more weight zero = refl
behind_more weight (suc count) = behind_more (next_weight weight) count

-- ---- rows of at most 64 values

-- such a row read as a binary number, whose lowest digit is its first value
abbrev row_digits : List Bool → ℕ
row_digits [] = 0
row_digits (holds ∷ row) = cond holds 1 0 + 2 * row_digits row

next_power : (k : ℕ) → k < 63 → next_weight (2 ^ k) ≡ 2 ^ suc k
next_power k below = let less : 2 ^ k < 2 ^ 63 = pow_below k 63 below in by (nat_lt (2 ^ k) (2 ^ 63)) (lt-ltb (2 ^ k) (2 ^ 63) less)
  where
    by : (b : Bool) → b ≡ true → cond b (2 ^ k * 2) 1 ≡ 2 ^ suc k
    by true is = sym (pow-suc 2 k)
    by false is = absurd (false≢true is)

digits_more : (power digits : ℕ) (holds : Bool) → cond holds power 0 + power * 2 * digits ≡ power * (cond holds 1 0 + 2 * digits)
digits_more power digits true = grind arith
digits_more power digits false = grind arith

-- its weights are its digits
weight_digits : (k : ℕ) (row : List Bool) → k + length row ≤ 64 → row_weight (2 ^ k) row ≡ 2 ^ k * row_digits row
weight_digits k [] within = omega arith
weight_digits k (holds ∷ []) within = ap (λ (n : ℕ). cond holds (2 ^ k) 0 + n) (omega arith) ∙ digits_more (2 ^ k) 0 holds
weight_digits k (holds ∷ second ∷ row) within =
    ap (λ (weight : ℕ). cond holds (2 ^ k) 0 + row_weight weight (second ∷ row)) (next_power k (omega (arith, within)))
    ∙ ap (λ (n : ℕ). cond holds (2 ^ k) 0 + n) (weight_digits (suc k) (second ∷ row) (omega (arith, within)) ∙ ap (λ (n : ℕ). n * row_digits (second ∷ row)) (pow-suc 2 k))
    ∙ digits_more (2 ^ k) (row_digits (second ∷ row)) holds

-- digits of so many values are below this
digits_below : (row : List Bool) → row_digits row < 2 ^ length row
digits_below [] = omega arith
digits_below (holds ∷ row) =
    let below = digits_below row in
    let twice : 2 ^ suc (length row) ≡ 2 ^ length row * 2 = pow-suc 2 (length row) in
    by holds below twice
  where
    by : (b : Bool) → row_digits row < 2 ^ length row → 2 ^ suc (length row) ≡ 2 ^ length row * 2 → cond b 1 0 + 2 * row_digits row < 2 ^ suc (length row)
    by true below twice = omega arith
    by false below twice = omega arith

-- two rows of one length have their own
one_of_digits : (row other : List Bool) → length row ≡ length other → row_digits row ≡ row_digits other → row ≡ other
one_of_digits [] [] long same = refl
one_of_digits [] (holds ∷ other) long same = absurd (omega (arith, long))
one_of_digits (holds ∷ row) [] long same = absurd (omega (arith, long))
one_of_digits (true ∷ row) (true ∷ other) long same = ap (λ (them : List Bool). true ∷ them) (one_of_digits row other (omega (arith, long)) (omega (arith, same)))
one_of_digits (false ∷ row) (false ∷ other) long same = ap (λ (them : List Bool). false ∷ them) (one_of_digits row other (omega (arith, long)) (omega (arith, same)))
one_of_digits (true ∷ row) (false ∷ other) long same = absurd (omega (arith, same))
one_of_digits (false ∷ row) (true ∷ other) long same = absurd (omega (arith, same))

-- rows of at most 64 values have their own numbers
pub one_numbered : NumberedRows
one_numbered row other long few same = one_of_digits row other long (sym (whole row few) ∙ same ∙ whole other (omega (arith, long, few)))
  where
    whole : (it : List Bool) → length it ≤ 64 → row_number it ≡ row_digits it
    whole it within = let below = digits_below it in let most = pow-le-pow_right {n = 2} (omega arith) within in
        let weights : row_weight 1 it ≡ row_digits it = weight_digits 0 it (omega (arith, within)) ∙ omega arith in
        ap (λ (n : ℕ). n % 2 ^ 64) weights ∙ mod-eq_of_lt (omega (arith, below, most))

-- ---- columns

-- what is carried from column to column, with one more
pub carried_more : (columns : List (List Bool)) (column : List Bool) (count weight next : ℕ) (before after : List ℕ) → AreCarried columns count weight before → next ≡ next_weight weight
    → length after ≡ length before → ((place : ℕ) → place < length before → get_or after place 0 ≡ number_with weight (value_at place column) (get_or before place 0))
    → AreCarried (columns ++ column ∷ []) count next after
carried_more columns column count weight next before after so_far follows long adds = record {
  numbers = record {
    counted = long ∙ so_far.numbers.counted;
    each = λ place within.
        adds place (subst (λ (n : ℕ). place < n) (sym so_far.numbers.counted) within)
        ∙ ap (number_with weight (value_at place column)) (so_far.numbers.each place within)
        ∙ ap (λ (n : ℕ). number_with n (value_at place column) (row_number (row_at place columns))) (so_far.weighs ∙ ap (weight_behind 1) (sym (length-map columns (value_at place))))
        ∙ sym (number_push (row_at place columns) (value_at place column))
        ∙ ap row_number (sym (map-append (value_at place) columns (column ∷ [])));
  };
  weighs =
      let longer : suc (length columns) ≡ length (columns ++ column ∷ []) = omega (arith, length-append columns (column ∷ [])) in
      follows ∙ ap next_weight so_far.weighs ∙ behind_more 1 (length columns) ∙ ap (weight_behind 1) longer;
}

-- as a loop over columns comes to it
pub carried_next : {V : Type 0} (items : V → List Bool) (start : List (List Bool)) (columns : List V) (place : ℕ) (column : V) (count weight next : ℕ) (before after : List ℕ) → place < length columns
    → column ≡ get_or columns place column → AreCarried (start ++ map items (take place columns)) count weight before → next ≡ next_weight weight → length after ≡ length before
    → ((index : ℕ) → index < length before → get_or after index 0 ≡ number_with weight (value_at index (items column)) (get_or before index 0))
    → AreCarried (start ++ map items (take (place + 1) columns)) count next after
carried_next items start columns place column count weight next before after within is so_far follows long adds =
    subst (λ (them : List (List Bool)). AreCarried them count next after)
    (append_assoc start (map items (take place columns)) (items column ∷ [])
    ∙ ap (λ (them : List (List Bool)). start ++ them) (sym (map_push items (take place columns) column) ∙ ap (map items) (ap (λ (it : _). take place columns ++ it ∷ []) is ∙ sym (take_more columns place column within))))
    (carried_more (start ++ map items (take place columns)) (items column) count weight next before after so_far follows long adds)

-- before the first column
pub none_carried : (count : ℕ) → AreCarried [] count 1 (replicate count 0)
none_carried count = record {
  numbers = record {
    counted = length-replicate count 0;
    each = λ place within. get_or-replicate count place 0 0 within;
  };
  weighs = refl;
}

-- behind the last
pub all_carried : (held : Columns) (count weight : ℕ) (numbers : List ℕ) → AreCarried (held.overrides ++ held.scripts) count weight numbers → AreNumbers (λ place. held_row place held) count numbers
all_carried held count weight numbers are = record {
  counted = are.numbers.counted;
  each = λ place within. are.numbers.each place within ∙ ap row_number (map-append (value_at place) held.overrides held.scripts);
}

-- numbers that were lent and given back
pub given_back : (numbers lent : List ℕ) (count : ℕ) → length numbers ≡ count → take count (numbers ++ drop (length numbers) lent) ≡ numbers
given_back numbers lent count long = ap (λ (n : ℕ). take n (numbers ++ drop (length numbers) lent)) (sym long) ∙ take-append_seam numbers (drop (length numbers) lent)

-- ---- how many values a row has

pub held_length : (place : ℕ) (held : Columns) → length (held_row place held) ≡ rule_count held
held_length place held =
    length-append (row_at place held.overrides) (row_at place held.scripts)
    ∙ ap (λ (n : ℕ). n + length (row_at place held.scripts)) (length-map held.overrides (value_at place))
    ∙ ap (λ (n : ℕ). length held.overrides + n) (length-map held.scripts (value_at place))

-- as many as the profile has rules
pub held_count : {F S : Type 0} (OnTest : F → F → Test → Bool → Type 0) (profile : Evaluatable F S) (binary : Binary) (names : List (List ℕ)) (held : Columns) → AreHeldColumns OnTest profile binary names held
    → rule_count held ≡ length profile.rules + length profile.script_rules
held_count OnTest profile binary names held are =
    ap (λ (n : ℕ). n + length held.scripts) (AllZip-long _ profile.rules held.overrides are.overrides)
    ∙ ap (λ (n : ℕ). length profile.rules + n) (AllZip-long _ profile.script_rules held.scripts are.scripts)
