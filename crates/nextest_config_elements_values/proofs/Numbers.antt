-- What the digits of a number are worth, one more digit at a time.
use Rattle.std.proofs.Common.{◌≡◌, ℕ, ◌+◌, ◌-◌, ◌*◌, ◌<◌, ◌≤◌, ◌^◌, true, List, [], ◌∷◌, length, get_or, take, refl, arith}
use Rattle.std.specs.Char.{digit_value, is_ascii_digit}
use Rattle.std.specs.List.{list_all}
use Rattle.std.specs.Str.Parse.{AllDigits, digits_value}
use Rattle.std.proofs.lemmas.Bool.{and_parts, and_from}
use Rattle.std.proofs.lemmas.Bool.Decides.{nat_tests}
use Rattle.std.proofs.lemmas.Grind.{common_steps}
use Rattle.std.proofs.lemmas.Int.Digits.{digits_value_more}
pub use Rattle.std.proofs.lemmas.Str.Parse.{digit_at}
use Rattle.std.proofs.lemmas.Str.Parse.{digits_value-take-le}

worth : (c : ℕ) → 48 ≤ c → c ≤ 57 → digit_value c ≡ c - 48
worth c above below = grind (arith, nat_tests)

pub one_more : (ds : List ℕ) (i : ℕ) → AllDigits 10 ds → i < length ds
    → digits_value 10 (take (i + 1) ds) ≡ digits_value 10 (take i ds) * 10 + (get_or ds i 0 - 48)
one_more ds i digits within =
    let range = digit_at ds i digits within in
    let is = worth (get_or ds i 0) (omega arith) (omega arith) in
    omega (arith, digits_value_more 10 ds i within, is)

pub so_far : (ds : List ℕ) (i : ℕ) → digits_value 10 (take i ds) ≤ digits_value 10 ds
so_far ds i = digits_value-take-le 10 ds i (omega arith)

-- where one more digit makes too much, all do
pub too_much : (ds : List ℕ) (i : ℕ) → AllDigits 10 ds → i < length ds
    → (digits_value 10 (take i ds) * 10 + (get_or ds i 0 - 48) < 2 ^ 64 → ⊥) → digits_value 10 ds < 2 ^ 64 → ⊥
too_much ds i digits within most fits =
    let more = one_more ds i digits within in
    let all = so_far ds (i + 1) in
    most (omega (arith, more, all))

pub ruleset reads_digits = (digit_at, one_more, so_far, too_much)

-- digits by std's test, and by its word for numbers
pub digits_pass : (ds : List ℕ) → AllDigits 10 ds → list_all is_ascii_digit ds ≡ true
digits_pass [] digits = refl
digits_pass (c ∷ cs) digits = and_from (is_ascii_digit c) (list_all is_ascii_digit cs) (digit_passes c digits.0) (digits_pass cs digits.1)
  where
    digit_passes : (c : ℕ) → digit_value c < 10 → is_ascii_digit c ≡ true
    digit_passes c small = grind (arith, nat_tests)

pub passed_digits : (ds : List ℕ) → list_all is_ascii_digit ds ≡ true → AllDigits 10 ds
passed_digits [] all = tt
passed_digits (c ∷ cs) all =
    let both = and_parts (is_ascii_digit c) (list_all is_ascii_digit cs) all in
    (is_digit c both.0, passed_digits cs both.1)
  where
    is_digit : (c : ℕ) → is_ascii_digit c ≡ true → digit_value c < 10
    is_digit c passes = grind (arith, nat_tests)

pub whole : (ds : List ℕ) (i : ℕ) → length ds ≤ i → digits_value 10 (take i ds) ≡ digits_value 10 ds
whole ds i all = grind (arith, common_steps)
