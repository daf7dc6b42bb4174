-- A number padded with zeros to so many hexadecimal digits.
use Rattle.std.proofs.Common.{◌≡◌, ℕ, zero, suc, ◌+◌, ◌-◌, ◌/◌, ◌%◌, ◌^◌, ◌<◌, ◌≤◌, Bool, true, false, List, [], ◌∷◌, ◌++◌, length, replicate, cond, eqb, eqb-true, eq-eqb, refl, sym, ap, ◌∙◌, arith, append_assoc, append-nil}
use Rattle.std.proofs.lemmas.List.{replicate_more}
use Rattle.std.specs.Fmt.{digits, digits_onto, digit_glyph, padded_integral, char_count, format_spec}
use Rattle.nextest_run_events_results.specs.Texts.{hex_digits}

-- of 0 there are only zeros
zeros : (count : ℕ) → hex_digits count 0 ≡ replicate count 48
unfolding hex_digits
zeros zero = refl
zeros (suc more) =
    let next : more + 1 ≡ suc more = omega arith in
    ap (λ front. front ++ 48 ∷ []) (zeros more) ∙ replicate_more more 48 ∙ ap (λ (k : ℕ). replicate {A = ℕ} k 48) next

-- zeros before a text of so many digits at most
abbrev filled : ℕ → List ℕ → List ℕ
filled count text = replicate (count - length text) 48 ++ text

-- a number of one digit
one_digit : (more n : ℕ) (acc : List ℕ) → n / 16 ≡ 0 → filled (suc more + length acc) (digit_glyph false (n % 16) ∷ acc) ≡ hex_digits (suc more) n ++ acc
unfolding hex_digits
one_digit more n acc none =
    let rest : suc more + length acc - suc (length acc) ≡ more = omega arith in
    rw (rest, none, zeros more) (sym (append_assoc (replicate more 48) (digit_glyph false (n % 16) ∷ []) acc))

-- one digit more than the number's front has
one_more : (more room n : ℕ) (acc : List ℕ)
    → filled (more + length (digit_glyph false (n % 16) ∷ acc)) (digits_onto room 16 false (n / 16) (digit_glyph false (n % 16) ∷ acc)) ≡ hex_digits more (n / 16) ++ digit_glyph false (n % 16) ∷ acc
    → filled (suc more + length acc) (digits_onto room 16 false (n / 16) (digit_glyph false (n % 16) ∷ acc)) ≡ hex_digits (suc more) n ++ acc
unfolding hex_digits
one_more more room n acc front =
    let same : suc more + length acc ≡ more + suc (length acc) = omega arith in
    rw same (front ∙ sym (append_assoc (hex_digits more (n / 16)) (digit_glyph false (n % 16) ∷ []) acc))

by_test : (more room n : ℕ) (acc : List ℕ) (test : Bool) → eqb (n / 16) 0 ≡ test
    → filled (more + length (digit_glyph false (n % 16) ∷ acc)) (digits_onto room 16 false (n / 16) (digit_glyph false (n % 16) ∷ acc)) ≡ hex_digits more (n / 16) ++ digit_glyph false (n % 16) ∷ acc
    → filled (suc more + length acc) (cond test (digit_glyph false (n % 16) ∷ acc) (digits_onto room 16 false (n / 16) (digit_glyph false (n % 16) ∷ acc))) ≡ hex_digits (suc more) n ++ acc
by_test more room n acc true is front = one_digit more n acc (eqb-true (n / 16) 0 is)
by_test more room n acc false is front = one_more more room n acc front

onto : (count room n : ℕ) (acc : List ℕ) → 0 < count → count ≤ room → n < 16 ^ count → filled (count + length acc) (digits_onto room 16 false n acc) ≡ hex_digits count n ++ acc
onto zero room n acc some fits small = absurd (omega arith)
onto (suc more) zero n acc some fits small = absurd (omega arith)
onto (suc zero) (suc room) n acc some fits small =
    let none : n / 16 ≡ 0 = omega arith in
    rw (eq-eqb (n / 16) 0 none) (one_digit 0 n acc none)
onto (suc (suc more)) (suc room) n acc some fits small =
    by_test (suc more) room n acc (eqb (n / 16) 0) refl (onto (suc more) room (n / 16) (digit_glyph false (n % 16) ∷ acc) (omega arith) (omega arith) (omega arith))

spelled : (n : ℕ) → digits 16 false n ≡ digits_onto 64 16 false n []
unfolding digits
spelled n = refl

padded : (text : List ℕ) → padded_integral (format_spec 32 0 4 8 (2 ^ 64 - 1)) false [] text ≡ filled 8 text
unfolding padded_integral char_count
padded text =
    let short : 8 - length text - 0 - 0 ≡ 8 - length text = omega arith in
    rw (append-nil, short) refl

-- what `{:08x}` writes of 32 bits
pub padded_hex : (n : ℕ) → n < 2 ^ 32 → padded_integral (format_spec 32 0 4 8 (2 ^ 64 - 1)) false [] (digits 16 false n) ≡ hex_digits 8 n
padded_hex n small = padded (digits 16 false n) ∙ ap (filled 8) (spelled n) ∙ onto 8 64 n [] (omega arith) (omega arith) (omega arith) ∙ append-nil (hex_digits 8 n)
