-- What a text says of the limit that it is.
use Rattle.std.proofs.Common.{◌≡◌, ◌≢◌, ◌⊎◌, ℕ, zero, suc, ◌<◌, ◌^◌, Bool, true, false, List, [], ◌∷◌, ◌++◌, length, drop, get_or, Some, None, Result, Ok, Err, OnErr, eqb, eqb-true, refl, sym, ap, ◌∙◌, subst, inl, inr, arith}
use Rattle.std.specs.Prelude.{decimal}
use Rattle.std.specs.Borrow.{Bor}
use Rattle.std.specs.Char.{to_ascii_lowercase}
use Rattle.std.specs.Str.Parse.{AllDigits, IsNumeral, digits_value, without_leading_plus}
use Rattle.std.proofs.lemmas.Bool.Decides.{nat_tests}
use Rattle.std.proofs.lemmas.Fmt.{decimal_is_IsNumeral, first_decimal}
use Rattle.std.proofs.lemmas.List.{get_or_at, length-append}
use Rattle.std.proofs.lemmas.Str.Pattern.{IsSplitOnceResult, split_after, split_parts}
use Rattle.nextest_config_elements_choices.specs.Laws.{OneMaxFail, ReadsBack}
use Rattle.nextest_config_elements_choices.specs.MaxFail.{IsAll, IsCount, IsLimit, IsMaxFail, word_of}
use Rattle.nextest_config_elements_choices.specs.declared.max_fail.BadText.{BadText}
use Rattle.nextest_config_elements_choices.specs.declared.max_fail.MaxFail.{MaxFail}
use Rattle.nextest_config_elements_choices.specs.declared.max_fail.MaxFail.TheVariants.{Count, All}
use Rattle.nextest_config_elements_choices.specs.declared.max_fail.TerminateMode.{TerminateMode}
use Rattle.nextest_config_elements_choices.specs.declared.max_fail.TerminateMode.TheVariants.{Wait, Immediate}

-- no byte of a text is a `:`
abbrev Lacks : List ℕ → Type 0
Lacks text = (i : ℕ) → i < length text → get_or text i 0 ≢ 58

-- a byte more in front
lacks_more : (first : ℕ) (text : List ℕ) → first ≢ 58 → Lacks text → Lacks (first ∷ text)
lacks_more first text other lacks zero lt is = other is
lacks_more first text other lacks (suc i) lt is = lacks i (omega (arith, lt)) is

-- digits have no `:`
digits_lack : (text : List ℕ) → AllDigits 10 text → Lacks text
digits_lack [] all = λ i lt. absurd (omega (arith, lt))
digits_lack (first ∷ text) all =
    lacks_more first text (λ is. let known = rw is at all.0 in absurd (omega (arith, known))) (digits_lack text all.1)

-- nor has a number
count_lacks : (text : List ℕ) (number : ℕ) → IsCount text number → Lacks text
count_lacks [] number count = λ i lt. absurd (omega (arith, lt))
count_lacks (first ∷ text) number count = go (eqb first 43) refl
  where
    go : (plus : Bool) → eqb first 43 ≡ plus → Lacks (first ∷ text)
    go true e =
        let all : AllDigits 10 text = rw e at count.numeral.1 in
        lacks_more first text (λ is. let plus = eqb-true first 43 e in absurd (omega (arith, is, plus))) (digits_lack text all)
    go false e = let all : AllDigits 10 (first ∷ text) = rw e at count.numeral.1 in digits_lack (first ∷ text) all

-- the parts around the first `:` of a limit are its number and how the run stops
pub in_some : (text : List ℕ) (parts : Bor (List ℕ) × Bor (List ℕ)) (number : ℕ) (mode : TerminateMode)
    → IsSplitOnceResult 58 text (Some parts) → IsLimit text number mode
    → IsCount parts.0.now number × (parts.1.now ≡ word_of mode)
in_some text parts number mode split (inl limit) =
    let same = split_after 58 text limit.0 (word_of mode) (Some parts) split (omega arith) limit.2 (count_lacks limit.0 number limit.1) in
    (subst (λ digits. IsCount digits number) (sym same.0) limit.1, same.1)
in_some text parts number mode split (inr limit) =
    let divided = split_parts 58 text (Some parts) split (omega arith) in
    let front : List ℕ = parts.0.now in
    let inside : length front < length text =
    let both = length-append front (58 ∷ parts.1.now) in
    let whole = ap length divided.0 in omega (arith, both, whole) in
    absurd (count_lacks text number limit.0 (length front) inside
    (ap (λ bytes. get_or bytes (length front) 0) divided.0 ∙ get_or_at front 58 parts.1.now 0 (length front) refl))

-- a limit without a `:` is its number
pub in_none : (text : List ℕ) (number : ℕ) (mode : TerminateMode) → IsSplitOnceResult 58 text None → IsLimit text number mode
    → IsCount text number
in_none text number mode split (inl limit) =
    absurd (split_after 58 text limit.0 (word_of mode) None split (omega arith) limit.2 (count_lacks limit.0 number limit.1))
in_none text number mode split (inr limit) = limit.0

-- what holds anyway holds on an error
pub on_err : {T E P : Type 0} (result : Result T E) → P → OnErr result P
on_err (Ok _) holds = tt
on_err (Err _) holds = holds

-- what isn't `all` and no number is no limit
pub no_limit : (text : List ℕ) (result : Result MaxFail BadText) → (IsAll text → ⊥)
    → OnErr result ((number : ℕ) (mode : TerminateMode) → ¬ (IsLimit text number mode))
    → OnErr result ((limit : MaxFail) → ¬ (IsMaxFail text limit))
no_limit text (Ok _) other refused = tt
no_limit text (Err _) other refused = go
  where
    go : (limit : MaxFail) → ¬ (IsMaxFail text limit)
    go All is = other is
    go (Count number mode) is = refused number mode is

-- a number as it prints
count_decimal : (number : ℕ) → 0 < number → number < 2 ^ 63 → IsCount (decimal number) number
count_decimal number some bounded =
    let fits : number < 2 ^ 64 = omega (arith, bounded) in
    let first : 48 < get_or (decimal number) 0 0 = first_decimal number some fits in
    let no : eqb (get_or (decimal number) 0 0) 43 ≡ false = grind (arith, nat_tests) in
    let same : without_leading_plus (decimal number) ≡ decimal number = rw no refl in
    let numeral = decimal_is_IsNumeral number fits in
    record {
      numeral = subst (IsNumeral 10) (sym same) numeral.0;
      value = sym numeral.1 ∙ ap (digits_value 10) (sym same);
      some = some;
      bounded = bounded;
    }

pub reads_back : ReadsBack
reads_back All accepted = refl
reads_back (Count number Wait) accepted = inr (count_decimal number accepted.0 accepted.1, refl)
reads_back (Count number Immediate) accepted = inl (decimal number, count_decimal number accepted.0 accepted.1, refl)

-- a text is at most one number
one_count : (text : List ℕ) (one other : ℕ) → IsCount text one → IsCount text other → one ≡ other
one_count text one other first second = first.value ∙ sym second.value

-- a word says at most one way to stop
one_word : (one other : TerminateMode) → word_of one ≡ word_of other → one ≡ other
one_word Wait Wait same = refl
one_word Immediate Immediate same = refl
one_word Wait Immediate same = let lengths = ap length same in absurd (omega (arith, lengths))
one_word Immediate Wait same = let lengths = ap length same in absurd (omega (arith, lengths))

-- a text is divided at its first `:` in one way
one_division : (one other behind further : List ℕ) → Lacks one → Lacks other
    → one ++ (58 ∷ behind) ≡ other ++ (58 ∷ further) → (one ≡ other) × (behind ≡ further)
one_division [] [] behind further lacks others same = (refl, ap (drop 1) same)
one_division [] (first ∷ other) behind further lacks others same =
    absurd (others 0 (omega arith) (sym (ap (λ bytes. get_or bytes 0 0) same)))
one_division (first ∷ one) [] behind further lacks others same =
    absurd (lacks 0 (omega arith) (ap (λ bytes. get_or bytes 0 0) same))
one_division (first ∷ one) (second ∷ other) behind further lacks others same =
    let rest = one_division one other behind further (λ i lt. lacks (suc i) (omega (arith, lt)))
    (λ i lt. others (suc i) (omega (arith, lt))) (ap (drop 1) same) in
    let head : first ≡ second = ap (λ bytes. get_or bytes 0 0) same in
    (rw (head, rest.0) refl, rest.1)

-- a number has no `:`
no_colon : (text digits behind : List ℕ) (number : ℕ) → IsCount text number → text ≡ digits ++ (58 ∷ behind) → ⊥
no_colon text digits behind number count divided =
    let inside : length digits < length text =
    let both = length-append digits (58 ∷ behind) in
    let whole = ap length divided in omega (arith, both, whole) in
    count_lacks text number count (length digits) inside
    (ap (λ bytes. get_or bytes (length digits) 0) divided ∙ get_or_at digits 58 behind 0 (length digits) refl)

-- a text is at most one number with one way to stop
one_limit : (text : List ℕ) (one other : ℕ) (mode way : TerminateMode) → IsLimit text one mode → IsLimit text other way
    → (one ≡ other) × (mode ≡ way)
one_limit text one other mode way (inl first) (inl second) =
    let parts = one_division first.0 second.0 (word_of mode) (word_of way) (count_lacks first.0 one first.1)
    (count_lacks second.0 other second.1) (sym first.2 ∙ second.2) in
    (one_count second.0 one other (subst (λ digits. IsCount digits one) parts.0 first.1) second.1, one_word mode way parts.1)
one_limit text one other mode way (inl first) (inr second) =
    absurd (no_colon text first.0 (word_of mode) other second.0 first.2)
one_limit text one other mode way (inr first) (inl second) =
    absurd (no_colon text second.0 (word_of way) one first.0 second.2)
one_limit text one other mode way (inr first) (inr second) = (one_count text one other first.0 second.0, first.1 ∙ sym second.1)

-- an `a` of either case
letter_a : (letter : ℕ) → to_ascii_lowercase letter ≡ 97 → (letter ≡ 65) ⊎ (letter ≡ 97)
letter_a letter low = grind (arith, nat_tests, low)

-- a text that begins with an `a` is no number
no_number : (letter : ℕ) (text : List ℕ) (number : ℕ) → (letter ≡ 65) ⊎ (letter ≡ 97) → ¬ (IsCount (letter ∷ text) number)
no_number letter text number (inl is) count =
    let known = subst (λ it. IsCount (it ∷ text) number) is count in
    let digit = known.numeral.1.0 in absurd (omega (arith, digit))
no_number letter text number (inr is) count =
    let known = subst (λ it. IsCount (it ∷ text) number) is count in
    let digit = known.numeral.1.0 in absurd (omega (arith, digit))

-- `all` is no number with a way to stop
no_all : (text : List ℕ) (number : ℕ) (mode : TerminateMode) → IsAll text → ¬ (IsLimit text number mode)
no_all [] number mode all limit = let lengths = ap length all in absurd (omega (arith, lengths))
no_all (first ∷ text) number mode all (inr limit) =
    no_number first text number (letter_a first (ap (λ bytes. get_or bytes 0 0) all)) limit.0
no_all (first ∷ text) number mode all (inl limit) = go limit.0 limit.1 limit.2
  where
    go : (digits : List ℕ) → IsCount digits number → first ∷ text ≡ digits ++ (58 ∷ word_of mode) → ⊥
    go [] count divided = let some = count.numeral.0 in absurd (omega (arith, some))
    go (digit ∷ digits) count divided =
        let same : first ≡ digit = ap (λ bytes. get_or bytes 0 0) divided in
        let low : to_ascii_lowercase first ≡ 97 = ap (λ bytes. get_or bytes 0 0) all in
        no_number digit digits number (letter_a digit (subst (λ it. to_ascii_lowercase it ≡ 97) same low)) count

pub one_max_fail : OneMaxFail
one_max_fail text All All one other = refl
one_max_fail text All (Count number mode) one other = absurd (no_all text number mode one other)
one_max_fail text (Count number mode) All one other = absurd (no_all text number mode other one)
one_max_fail text (Count first mode) (Count second way) one other =
    let same = one_limit text first second mode way one other in rw (same.0, same.1) refl
