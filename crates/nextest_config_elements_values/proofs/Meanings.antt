-- What a text means, by what follows the blanks at its start.
use Rattle.std.proofs.Common.{◌≡◌, ℕ, ◌^◌, ◌<◌, true, false, List, [], ◌∷◌, ◌++◌, length, refl, sym, ap, ◌∙◌, inl, inr, arith}
use Rattle.std.specs.Prelude.{◌==◌}
use Rattle.std.specs.Char.{is_ascii_alphabetic, is_ascii_digit}
use Rattle.std.specs.List.{AllByRecursion, flat_map, list_all}
use Rattle.std.proofs.lemmas.Bool.{and_parts, eqb-true, false≢true, both_ways}
use Rattle.std.proofs.lemmas.Bool.Decides.{nat_tests}
use Rattle.std.proofs.lemmas.List.{append-nil}
use Rattle.nextest_config_elements_values.specs.Duration.{is_blank, AreBlanks, Part, IsPart, text_of_part, IsZero, IsSum, IsDuration}
use Rattle.nextest_config_elements_values.specs.DurationLaws.{OneDuration}
use Rattle.nextest_config_elements_values.specs.Ahead.{run, behind, from_word, StartsWith, Reads, is_zero}
use Rattle.nextest_config_elements_values.proofs.Fronts.{starts, behind_front, run_behind, run_passes}
use Rattle.nextest_config_elements_values.proofs.Parts.{end_no_blank, parts_end}
use Rattle.nextest_config_elements_values.proofs.Sums.{part_some, reads_start, one_sum}
use Rattle.nextest_config_elements_values.proofs.Words.{unit_word}

-- `0` alone
zero_of : (text before rest : List ℕ) → AreBlanks before → text ≡ before ++ rest → is_zero rest ≡ true → IsZero text 0
zero_of text before [] blank whole zero = absurd (false≢true zero)
zero_of text before (first ∷ further) blank whole zero =
    let both = and_parts (first == 48) (list_all is_blank further) zero in
    record {
      before = before;
      after = further;
      blank_before = blank;
      blank_after = both.1;
      whole = whole ∙ ap (λ (byte : ℕ). before ++ byte ∷ further) (eqb-true first 48 both.0);
      none = refl;
    }

pub is_zero_text : (text : List ℕ) → is_zero (behind is_blank text) ≡ true → IsZero text 0
is_zero_text text zero = zero_of text (run is_blank text) (behind is_blank text) (run_passes is_blank text) (run_behind is_blank text) zero

pub zero_ahead : (text : List ℕ) (nanos : ℕ) → IsZero text nanos → is_zero (behind is_blank text) ≡ true
zero_ahead text nanos zero =
    let rest : behind is_blank text ≡ 48 ∷ zero.after
    = ap (behind is_blank) zero.whole ∙ behind_front is_blank zero.before (48 ∷ zero.after) zero.blank_before refl in
    ap is_zero rest ∙ zero.blank_after

-- parts
some_parts : (rest : List ℕ) (parts : List Part) → 0 < length rest → rest ≡ flat_map text_of_part parts → 0 < length parts
some_parts rest [] some whole = absurd (omega (arith, ap length whole))
some_parts rest (part ∷ further) some whole = omega arith

pub is_sum_text : (text : List ℕ) (nanos : ℕ) → 0 < length (behind is_blank text) → Reads (behind is_blank text) nanos → nanos < 2 ^ 64
    → IsSum text nanos
is_sum_text text nanos some reads fits = record {
  before = run is_blank text;
  parts = reads.parts;
  blank_before = run_passes is_blank text;
  some = some_parts (behind is_blank text) reads.parts some reads.whole;
  each = reads.each;
  whole = run_behind is_blank text ∙ ap (λ (rest : List ℕ). run is_blank text ++ rest) reads.whole;
  adds_up = reads.adds_up;
  fits = fits;
}

parts_ahead : (text : List ℕ) (nanos : ℕ) (sum : IsSum text nanos) → behind is_blank text ≡ flat_map text_of_part sum.parts
parts_ahead text nanos sum =
    let end = end_no_blank (flat_map text_of_part sum.parts) (parts_end sum.parts sum.each) in
    ap (behind is_blank) sum.whole ∙ behind_front is_blank sum.before (flat_map text_of_part sum.parts) sum.blank_before end

pub sum_ahead : (text : List ℕ) (nanos : ℕ) → IsSum text nanos → Reads (behind is_blank text) nanos
sum_ahead text nanos sum =
    record { parts = sum.parts; each = sum.each; whole = parts_ahead text nanos sum; adds_up = sum.adds_up }

-- a text is no duration where what follows its blanks is no zero, and nothing or no parts of a sum
-- that fits
pub no_duration : (text : List ℕ) (nanos : ℕ) → is_zero (behind is_blank text) ≡ false
    → ((all : ℕ) → Reads (behind is_blank text) all → IsSum text all → ⊥) → IsDuration text nanos → ⊥
no_duration text nanos other no_sum (inl zero) = both_ways (is_zero (behind is_blank text)) other (zero_ahead text nanos zero)
no_duration text nanos other no_sum (inr sum) = no_sum nanos (sum_ahead text nanos sum) sum

-- what starts with a part is no `0` with blanks behind it
blanks_no_digit : (blanks : List ℕ) → AreBlanks blanks → starts is_ascii_digit blanks ≡ false
blanks_no_digit [] blank = refl
blanks_no_digit (first ∷ further) blank = blank_first first (and_parts (is_blank first) (list_all is_blank further) blank).0
  where
    blank_first : (byte : ℕ) → is_blank byte ≡ true → is_ascii_digit byte ≡ false
    blank_first byte blank = grind (arith, nat_tests)

all_blank : (blanks : List ℕ) → AreBlanks blanks → behind is_blank blanks ≡ []
all_blank blanks blank = ap (behind is_blank) (sym (append-nil blanks)) ∙ behind_front is_blank blanks [] blank refl

zero_word : (further : List ℕ) → AreBlanks further → from_word (48 ∷ further) ≡ []
zero_word further blank =
    ap (behind is_blank) (behind_front is_ascii_digit (48 ∷ []) further refl (blanks_no_digit further blank)) ∙ all_blank further blank

zero_no_part : (text : List ℕ) (nanos : ℕ) → is_zero text ≡ true → StartsWith text nanos → ⊥
zero_no_part [] nanos zero start = false≢true zero
zero_no_part (first ∷ further) nanos zero start =
    let both = and_parts (first == 48) (list_all is_blank further) zero in
    let digit : first ≡ 48 = eqb-true first 48 both.0 in
    let word : run is_ascii_alphabetic (from_word (first ∷ further)) ≡ []
    = ap (λ (byte : ℕ). run is_ascii_alphabetic (from_word (byte ∷ further))) digit ∙ ap (run is_ascii_alphabetic) (zero_word further both.1) in
    let some = (unit_word (run is_ascii_alphabetic (from_word (first ∷ further))) start.unit start.named).1.0 in
    absurd (omega (arith, some, ap length word))

-- a sum is no zero
pub some_left : (text : List ℕ) (nanos : ℕ) → IsSum text nanos → 0 < length (behind is_blank text)
some_left text nanos sum = some_of (behind is_blank text) sum.parts sum.some sum.each (parts_ahead text nanos sum)
  where
    some_of : (rest : List ℕ) (parts : List Part) → 0 < length parts → AllByRecursion IsPart parts → rest ≡ flat_map text_of_part parts → 0 < length rest
    some_of rest [] some each whole = absurd (omega arith)
    some_of rest (part ∷ further) some each whole = part_some rest part further each whole

pub zero_no_sum : (text : List ℕ) (one other : ℕ) → IsZero text one → IsSum text other → ⊥
zero_no_sum text one other zero sum =
    let start = reads_start (behind is_blank text) other (some_left text other sum) (sum_ahead text other sum) in
    zero_no_part (behind is_blank text) start.0 (zero_ahead text one zero) start.1

pub one_duration : OneDuration
one_duration text one other (inl left) (inl right) = left.none ∙ sym right.none
one_duration text one other (inl left) (inr right) = absurd (zero_no_sum text one other left right)
one_duration text one other (inr left) (inl right) = absurd (zero_no_sum text other one right left)
one_duration text one other (inr left) (inr right) =
    one_sum (behind is_blank text) one other (sum_ahead text one left) (sum_ahead text other right)
