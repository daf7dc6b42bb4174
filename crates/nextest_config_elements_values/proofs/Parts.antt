-- Parts at the start of a text.
use Rattle.std.proofs.Common.{◌≡◌, ℕ, ◌*◌, ◌^◌, ◌<◌, ◌≤◌, Bool, true, false, List, [], ◌∷◌, ◌++◌, length, Some, refl, sym, ap, ◌∙◌, subst, append_assoc, inl, inr, arith}
use Rattle.std.specs.Char.{is_ascii_alphabetic, is_ascii_digit}
use Rattle.std.specs.List.{AllByRecursion, flat_map, list_all}
use Rattle.std.specs.Str.Parse.{AllDigits, IsNumeral, digits_value}
use Rattle.std.proofs.Math.Nat.{mul-le-mul_left}
use Rattle.std.proofs.lemmas.Bool.{and_parts, cases_lt}
use Rattle.std.proofs.lemmas.Bool.Decides.{nat_tests}
use Rattle.nextest_config_elements_values.specs.Duration.{is_blank, AreBlanks, unit_nanos, Part, IsPart, text_of_part, nanos_of}
use Rattle.nextest_config_elements_values.specs.Ahead.{run, behind, from_word, behind_part, StartsWith}
use Rattle.nextest_config_elements_values.proofs.Fronts.{starts, run_front, behind_front, run_behind, run_passes}
use Rattle.nextest_config_elements_values.proofs.Numbers.{digits_pass, passed_digits}
use Rattle.nextest_config_elements_values.proofs.Words.{unit_word}

-- a digit, a letter and a blank are three things
digit_no_letter : (byte : ℕ) → is_ascii_digit byte ≡ true → is_ascii_alphabetic byte ≡ false
digit_no_letter byte digit = grind (arith, nat_tests)

digit_no_blank : (byte : ℕ) → is_ascii_digit byte ≡ true → is_blank byte ≡ false
digit_no_blank byte digit = grind (arith, nat_tests)

letter_no_digit : (byte : ℕ) → is_ascii_alphabetic byte ≡ true → is_ascii_digit byte ≡ false
letter_no_digit byte letter = grind (arith, nat_tests)

letter_no_blank : (byte : ℕ) → is_ascii_alphabetic byte ≡ true → is_blank byte ≡ false
letter_no_blank byte letter = grind (arith, nat_tests)

blank_no_digit : (byte : ℕ) → is_blank byte ≡ true → is_ascii_digit byte ≡ false
blank_no_digit byte blank = grind (arith, nat_tests)

blank_no_letter : (byte : ℕ) → is_blank byte ≡ true → is_ascii_alphabetic byte ≡ false
blank_no_letter byte blank = grind (arith, nat_tests)

-- a text ends, or starts with a digit
abbrev pub ends : List ℕ → Bool
ends [] = true
ends (first ∷ further) = is_ascii_digit first

pub end_no_blank : (rest : List ℕ) → ends rest ≡ true → starts is_blank rest ≡ false
end_no_blank [] end = refl
end_no_blank (first ∷ further) end = digit_no_blank first end

end_no_letter : (rest : List ℕ) → ends rest ≡ true → starts is_ascii_alphabetic rest ≡ false
end_no_letter [] end = refl
end_no_letter (first ∷ further) end = digit_no_letter first end

blanks_no_letter : (blanks rest : List ℕ) → AreBlanks blanks → ends rest ≡ true → starts is_ascii_alphabetic (blanks ++ rest) ≡ false
blanks_no_letter [] rest are end = end_no_letter rest end
blanks_no_letter (first ∷ further) rest are end = blank_no_letter first (and_parts (is_blank first) (list_all is_blank further) are).0

word_no_blank : (word rest : List ℕ) → list_all is_ascii_alphabetic word ≡ true → 0 < length word → starts is_blank (word ++ rest) ≡ false
word_no_blank [] rest letters some = absurd (omega arith)
word_no_blank (first ∷ further) rest letters some =
    letter_no_blank first (and_parts (is_ascii_alphabetic first) (list_all is_ascii_alphabetic further) letters).0

word_no_digit : (word rest : List ℕ) → list_all is_ascii_alphabetic word ≡ true → 0 < length word → starts is_ascii_digit (word ++ rest) ≡ false
word_no_digit [] rest letters some = absurd (omega arith)
word_no_digit (first ∷ further) rest letters some =
    letter_no_digit first (and_parts (is_ascii_alphabetic first) (list_all is_ascii_alphabetic further) letters).0

gap_no_digit : (gap word rest : List ℕ) → AreBlanks gap → list_all is_ascii_alphabetic word ≡ true → 0 < length word
    → starts is_ascii_digit (gap ++ (word ++ rest)) ≡ false
gap_no_digit [] word rest are letters some = word_no_digit word rest letters some
gap_no_digit (first ∷ further) word rest are letters some = blank_no_digit first (and_parts (is_blank first) (list_all is_blank further) are).0

-- a part, and what follows it
pub record Seen (part : Part) (rest : List ℕ) : Type 0 where
  pub digits : run is_ascii_digit (text_of_part part ++ rest) ≡ part.digits
  pub word : run is_ascii_alphabetic (from_word (text_of_part part ++ rest)) ≡ part.word
  pub left : behind_part (text_of_part part ++ rest) ≡ rest

pub seen : (part : Part) (rest : List ℕ) → IsPart part → ends rest ≡ true → Seen part rest
seen part rest is end =
    let named = unit_word part.word part.unit is.named in
    let parted : text_of_part part ++ rest ≡ part.digits ++ (part.gap ++ (part.word ++ (part.blanks ++ rest))) = simp append_assoc in
    let number = digits_pass part.digits is.number.1 in
    let no_digit = gap_no_digit part.gap part.word (part.blanks ++ rest) is.blank_gap named.0 named.1.0 in
    let no_blank = word_no_blank part.word (part.blanks ++ rest) named.0 named.1.0 in
    let no_letter = blanks_no_letter part.blanks rest is.blank_behind end in
    let digits : run is_ascii_digit (text_of_part part ++ rest) ≡ part.digits
    = ap (run is_ascii_digit) parted ∙ run_front is_ascii_digit part.digits (part.gap ++ (part.word ++ (part.blanks ++ rest))) number no_digit in
    let word_on : from_word (text_of_part part ++ rest) ≡ part.word ++ (part.blanks ++ rest)
    = ap from_word parted ∙ ap (behind is_blank) (behind_front is_ascii_digit part.digits (part.gap ++ (part.word ++ (part.blanks ++ rest))) number no_digit)
    ∙ behind_front is_blank part.gap (part.word ++ (part.blanks ++ rest)) is.blank_gap no_blank in
    record {
      digits = digits;
      word = ap (run is_ascii_alphabetic) word_on ∙ run_front is_ascii_alphabetic part.word (part.blanks ++ rest) named.0 no_letter;
      left = ap (λ (text : List ℕ). behind is_blank (behind is_ascii_alphabetic text)) word_on
          ∙ ap (behind is_blank) (behind_front is_ascii_alphabetic part.word (part.blanks ++ rest) named.0 no_letter)
          ∙ behind_front is_blank part.blanks rest is.blank_behind (end_no_blank rest end);
    }

-- a part starts with a digit, and so parts end or start with one
digits_end : (digits rest : List ℕ) → IsNumeral 10 digits → ends (digits ++ rest) ≡ true
digits_end [] rest number = absurd (omega arith)
digits_end (first ∷ further) rest number =
    (and_parts (is_ascii_digit first) (list_all is_ascii_digit further) (digits_pass (first ∷ further) number.1)).0

part_ends : (part : Part) (rest : List ℕ) → IsPart part → ends (text_of_part part ++ rest) ≡ true
part_ends part rest is =
    let parted : text_of_part part ++ rest ≡ part.digits ++ (part.gap ++ (part.word ++ (part.blanks ++ rest))) = simp append_assoc in
    ap ends parted ∙ digits_end part.digits (part.gap ++ (part.word ++ (part.blanks ++ rest))) is.number

pub parts_end : (parts : List Part) → AllByRecursion IsPart parts → ends (flat_map text_of_part parts) ≡ true
parts_end [] each = refl
parts_end (part ∷ further) each = part_ends part (flat_map text_of_part further) each.0

-- a text starts with its first part
pub first_starts : (part : Part) (rest : List ℕ) → IsPart part → ends rest ≡ true → StartsWith (text_of_part part ++ rest) (nanos_of part)
first_starts part rest is end =
    let it = seen part rest is end in
    record {
      unit = part.unit;
      some = subst (λ (digits : List ℕ). 0 < length digits) (sym it.digits) is.number.0;
      named = ap unit_nanos it.word ∙ is.named;
      value = ap (λ (digits : List ℕ). digits_value 10 digits * part.unit) (sym it.digits);
    }

-- a text starts with one part at most
pub one_start : (text : List ℕ) (one other : ℕ) → StartsWith text one → StartsWith text other → one ≡ other
one_start text one other left right =
    let some : Some left.unit ≡ Some right.unit = sym left.named ∙ right.named in
    let units : left.unit ≡ right.unit = cc in
    left.value ∙ ap (λ (unit : ℕ). digits_value 10 (run is_ascii_digit text) * unit) units ∙ sym right.value

-- a text that starts with a part is that part and what follows
pub start_is : (text : List ℕ) (nanos : ℕ) → StartsWith text nanos
    → (part : Part) × IsPart part × (nanos ≡ nanos_of part) × (text ≡ text_of_part part ++ behind_part text)
start_is text nanos start =
    let behind_digits = behind is_ascii_digit text in
    let behind_word = behind is_ascii_alphabetic (from_word text) in
    let part : Part = record {
      digits = run is_ascii_digit text;
      gap = run is_blank behind_digits;
      word = run is_ascii_alphabetic (from_word text);
      blanks = run is_blank behind_word;
      unit = start.unit;
    } in
    let is : IsPart part = record {
      number = (start.some, passed_digits (run is_ascii_digit text) (run_passes is_ascii_digit text));
      blank_gap = run_passes is_blank behind_digits;
      named = start.named;
      blank_behind = run_passes is_blank behind_word;
    } in
    let joined : text ≡ run is_ascii_digit text ++ (run is_blank behind_digits ++ (run is_ascii_alphabetic (from_word text) ++ (run is_blank behind_word ++ behind_part text)))
    = run_behind is_ascii_digit text
    ∙ ap (λ (rest : List ℕ). run is_ascii_digit text ++ rest) (run_behind is_blank behind_digits
    ∙ ap (λ (rest : List ℕ). run is_blank behind_digits ++ rest) (run_behind is_ascii_alphabetic (from_word text)
    ∙ ap (λ (rest : List ℕ). run is_ascii_alphabetic (from_word text) ++ rest) (run_behind is_blank behind_word))) in
    let parted : text_of_part part ++ behind_part text ≡ run is_ascii_digit text ++ (run is_blank behind_digits ++ (run is_ascii_alphabetic (from_word text) ++ (run is_blank behind_word ++ behind_part text)))
    = simp append_assoc in
    (part, is, start.value, joined ∙ sym parted)

-- the digits at the start of a text
pub run_digits : (text : List ℕ) → AllDigits 10 (run is_ascii_digit text)
run_digits text = passed_digits (run is_ascii_digit text) (run_passes is_ascii_digit text)

-- a part whose number doesn't fit
at_least : (limit value unit : ℕ) → limit ≤ value → 0 < unit → limit ≤ value * unit
at_least limit value unit large some = omega (arith, mul-le-mul_left value some)

pub too_large : (text : List ℕ) (nanos : ℕ) → StartsWith text nanos
    → (IsNumeral 10 (run is_ascii_digit text) × (digits_value 10 (run is_ascii_digit text) < 2 ^ 64) → ⊥) → 2 ^ 64 ≤ nanos
too_large text nanos start fails =
    let some = (unit_word (run is_ascii_alphabetic (from_word text)) start.unit start.named).1.1 in
    elim (cases_lt (digits_value 10 (run is_ascii_digit text)) (2 ^ 64)) [
      | inl fits ↦ absurd (fails ((start.some, run_digits text), fits))
      | inr large ↦ subst (λ (n : ℕ). 2 ^ 64 ≤ n) (sym start.value) (at_least (2 ^ 64) (digits_value 10 (run is_ascii_digit text)) start.unit large some)
    ]
