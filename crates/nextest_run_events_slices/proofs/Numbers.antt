-- A number ends at the first closing parenthesis or line feed.
use Rattle.std.proofs.Common.{◌≡◌, ◌≢◌, ◌+◌, ◌-◌, ◌<◌, ◌≤◌, ℕ, Bool, true, false, cond, ◌/◌, List, [], ◌∷◌, ◌++◌, Option, Some, None, MatchOption, Bor, length, take, drop, slice_index, refl, take-append-drop, sym, ap, subst, ◌∙◌, arith}
use Rattle.std.specs.List.{All}
use Rattle.std.specs.Str.{encode_utf8_all}
use Rattle.std.proofs.lemmas.Bool.Decides.{nat_tests}
use Rattle.std.specs.Str.{IsUtf8, chars}
use Rattle.std.proofs.lemmas.List.{drop_more, take_rest}
use Rattle.std.proofs.lemmas.Str.{encodes-chars, scalars-chars, chars-encodes, length-le-encodes}
use Rattle.std.proofs.lemmas.List.Elements.{All-nil, All-cons, All-append, All-head, All-tail}
use lib.Utf8.{encode, next}
use Rattle.bstr.specs.Bytes.{is_in}
use Rattle.bstr.specs.Find.{IsFirstByte}
use Rattle.ucd_category.proofs.Computing.{ucd_category}
use Rattle.ucd_category.specs.GeneralCategory.{general_category}
use Rattle.ucd_category.specs.GeneralCategoryRows.{general_category_rows}
use Rattle.ucd_category.specs.declared.GeneralCategory.TheVariants.{DecimalNumber, ClosePunctuation, Control}
use Rattle.nextest_run_events_slices.specs.Places.{BeginsWith, IsNumber}
use Rattle.nextest_run_events_slices.proofs.Splits.{split_there, none_before, none_at_all, none_inside, same_split}

category-close : general_category 41 ≡ ClosePunctuation
unfolding ucd_category general_category general_category_rows
category-close = refl

category-feed : general_category 10 ≡ Control
unfolding ucd_category general_category general_category_rows
category-feed = refl

not_close : (digit : ℕ) → general_category digit ≡ DecimalNumber → digit ≢ 41
not_close digit is e = let h : ClosePunctuation ≡ DecimalNumber = sym category-close ∙ ap general_category (sym e) ∙ is in absurd (cc)

not_feed : (digit : ℕ) → general_category digit ≡ DecimalNumber → digit ≢ 10
not_feed digit is e = let h : Control ≡ DecimalNumber = sym category-feed ∙ ap general_category (sym e) ∙ is in absurd (cc)

-- the bytes that end a number
abbrev pub is_end : ℕ → Bool
is_end = is_in (41 ∷ 10 ∷ [])

is_end-false : (byte : ℕ) → byte ≢ 41 → byte ≢ 10 → is_end byte ≡ false
unfolding is_in
is_end-false byte one other = grind (arith, nat_tests)

pub is_end-close : is_end 41 ≡ true
unfolding is_in
is_end-close = refl

abbrev Plain : ℕ → Type 0
Plain byte = is_end byte ≡ false

high_plain : (byte : ℕ) → 128 ≤ byte → is_end byte ≡ false
high_plain byte high = is_end-false byte (λ e. omega arith) (λ e. omega arith)

plain_encoded : (digit : ℕ) → is_end digit ≡ false → (one two three : Bool)
    → All (λ byte. is_end byte ≡ false) (cond one (digit ∷ []) (cond two ((192 + digit / 64) ∷ next digit ∷ []) (cond three ((224 + digit / 4096) ∷ next (digit / 64) ∷ next digit ∷ []) ((240 + digit / 262144) ∷ next (digit / 4096) ∷ next (digit / 64) ∷ next digit ∷ []))))
plain_encoded digit plain true two three = All-cons (λ byte. is_end byte ≡ false) digit [] plain (All-nil (λ byte. is_end byte ≡ false))
plain_encoded digit plain false true three = All-cons Plain (192 + digit / 64) ((next digit) ∷ []) (high_plain (192 + digit / 64) (omega arith)) (All-cons Plain (next digit) ([]) (high_plain (next digit) (omega arith)) (All-nil Plain))
plain_encoded digit plain false false true = All-cons Plain (224 + digit / 4096) ((next (digit / 64)) ∷ (next digit) ∷ []) (high_plain (224 + digit / 4096) (omega arith)) (All-cons Plain (next (digit / 64)) ((next digit) ∷ []) (high_plain (next (digit / 64)) (omega arith)) (All-cons Plain (next digit) ([]) (high_plain (next digit) (omega arith)) (All-nil Plain)))
plain_encoded digit plain false false false = All-cons Plain (240 + digit / 262144) ((next (digit / 4096)) ∷ (next (digit / 64)) ∷ (next digit) ∷ []) (high_plain (240 + digit / 262144) (omega arith)) (All-cons Plain (next (digit / 4096)) ((next (digit / 64)) ∷ (next digit) ∷ []) (high_plain (next (digit / 4096)) (omega arith)) (All-cons Plain (next (digit / 64)) ((next digit) ∷ []) (high_plain (next (digit / 64)) (omega arith)) (All-cons Plain (next digit) ([]) (high_plain (next digit) (omega arith)) (All-nil Plain))))

plain_digit : (digit : ℕ) → digit ≢ 41 → digit ≢ 10 → All (λ byte. is_end byte ≡ false) (encode digit)
unfolding encode
plain_digit digit one other = plain_encoded digit (is_end-false digit one other) _ _ _

plain_digits : (digits : List ℕ) → All (λ digit. general_category digit ≡ DecimalNumber) digits → All (λ byte. is_end byte ≡ false) (encode_utf8_all digits)
plain_digits [] h = All-nil (λ byte. is_end byte ≡ false)
plain_digits (digit ∷ digits) h =
    let here = All-head (λ digit. general_category digit ≡ DecimalNumber) digit digits h in
    All-append (λ byte. is_end byte ≡ false) (encode digit) (encode_utf8_all digits) (plain_digit digit (not_close digit here) (not_feed digit here))
    (plain_digits digits (All-tail (λ digit. general_category digit ≡ DecimalNumber) digit digits h))

plain_number : (number : List ℕ) → IsNumber number → All (λ byte. is_end byte ≡ false) number
plain_number number is = subst (All (λ byte. is_end byte ≡ false)) (sym is.written) (plain_digits is.digits is.decimal)

module _ (text : List ℕ) where
  -- where the first end of a number is a closing parenthesis, a number that stands before it is the
  -- text up to it
  number_there : (k : ℕ) (rest : List ℕ) → IsFirstByte is_end text (Some k) → IsNumber (take k text) → drop k text ≡ 41 ∷ 32 ∷ rest → BeginsWith IsNumber text (41 ∷ 32 ∷ rest)
  number_there k rest h is e = (take k text, is, sym (take-append-drop k text) ∙ ap (λ left. take k text ++ left) e)

  pub no_number_there : (k : ℕ) → IsFirstByte is_end text (Some k) → (rest : List ℕ) → BeginsWith IsNumber text (41 ∷ 32 ∷ rest) → IsNumber (take k text) × (drop k text ≡ 41 ∷ 32 ∷ rest)
  no_number_there k h rest begins =
      let same = same_split is_end begins.0 (take k text) (32 ∷ rest) (drop (k + 1) text) 41 (slice_index text k) (plain_number begins.0 begins.1) (none_before is_end text k h) is_end-close h.1
      (sym begins.2 ∙ split_there is_end text k h) in
      let byte : 41 ≡ slice_index text k = same.1 in
      let left : 32 ∷ rest ≡ drop (k + 1) text = same.2 in
      let here : drop k text ≡ slice_index text k ∷ drop (k + 1) text = drop_more text k 0 h.0.high in
      (subst IsNumber same.0 begins.1, cc)

  pub no_number_at_all : IsFirstByte is_end text None → (rest : List ℕ) → ¬ (BeginsWith IsNumber text (41 ∷ 32 ∷ rest))
  no_number_at_all h rest begins = none_inside is_end begins.0 (32 ∷ rest) 41 is_end-close (subst (All (λ byte. is_end byte ≡ false)) begins.2 (none_at_all is_end text h))

  -- what a search for the parenthesis and the space tells of the number before them
  pub number_behind : (k : ℕ) (r : Option (Bor (List ℕ))) → IsFirstByte is_end text (Some k) → IsNumber (take k text)
      → MatchOption r ((rest : List ℕ) → take (length text - k) (drop k text) ≢ 41 ∷ 32 ∷ rest) (λ rest. take (length text - k) (drop k text) ≡ 41 ∷ 32 ∷ rest.now)
      → MatchOption r ((rest : List ℕ) → ¬ (BeginsWith IsNumber text (41 ∷ 32 ∷ rest))) (λ rest. BeginsWith IsNumber text (41 ∷ 32 ∷ rest.now))
  number_behind k None h is found = λ rest begins. found rest (take_rest text k ∙ (no_number_there k h rest begins).1)
  number_behind k (Some x) h is found = number_there k x.now h is (sym (take_rest text k) ∙ found)

  pub number_of : IsUtf8 text → 0 < length text → All (λ digit. general_category digit ≡ DecimalNumber) (chars text) → IsNumber text
  number_of utf8 long all = record {
    digits = chars text;
    written = sym (encodes-chars text utf8);
    scalars = scalars-chars text utf8;
    some = some_chars (chars text) (encodes-chars text utf8);
    decimal = all;
  }
    where
      some_chars : (cs : List ℕ) → encode_utf8_all cs ≡ text → 0 < length cs
      some_chars [] e = absurd (omega (arith, ap length e, long))
      some_chars (x ∷ cs) e = omega arith

  pub digits_of : IsNumber text → All (λ digit. general_category digit ≡ DecimalNumber) (chars text)
  digits_of is = subst (All (λ digit. general_category digit ≡ DecimalNumber)) (sym (ap chars is.written ∙ chars-encodes is.digits is.scalars)) is.decimal

  pub some_of : IsNumber text → 0 < length text
  some_of is = omega (arith, is.some, ap length is.written, length-le-encodes is.digits)

  pub utf8_of : IsNumber text → IsUtf8 text
  utf8_of is = (is.digits, (is.scalars, sym is.written))

-- what stands behind a number is the same for each number
pub same_numbered : (one other rest left : List ℕ) → IsNumber one → IsNumber other → one ++ 41 ∷ rest ≡ other ++ 41 ∷ left → (one ≡ other) × (rest ≡ left)
same_numbered one other rest left is is' e =
    let same = same_split is_end one other rest left 41 41 (plain_number one is) (plain_number other is') is_end-close is_end-close e in
    (same.0, same.2)
