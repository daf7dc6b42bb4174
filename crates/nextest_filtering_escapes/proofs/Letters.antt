-- What one escape is read as.
use Rattle.std.proofs.Common.{◌≡◌, ◌≢◌, ℕ, ◌<◌, ◌≤◌, ◌^◌, true, eqb, List, [], ◌∷◌, ◌++◌, length, get_or, Option, Some, None, Result, Ok, Err, SomeIff, Bor, refl, sym, ap, ◌∙◌, subst, arith, inl, inr, lit<, suc, zero}
use Rattle.std.specs.Prelude.{encode_utf8}
use Rattle.std.specs.Char.{IsScalar}
use Rattle.std.specs.Result.{result_ok}
use Rattle.std.specs.Str.Parse.{AllDigits, ParsesUnsigned, digits_value}
use Rattle.std.proofs.Math.Nat.{pow-le-pow_right}
use Rattle.std.proofs.lemmas.Bool.{eqb-true, cond_both}
use Rattle.std.proofs.lemmas.Int.Digits.{digits_value-lt}
use Rattle.std.proofs.lemmas.List.{append_assoc}
use Rattle.std.proofs.lemmas.Str.{encode_ascii, char_from_byte}
use Rattle.std.proofs.lemmas.Str.Parse.{without_leading_plus_none}
use Rattle.std.proofs.lemmas.Str.Pattern.{split_parts, split_after, IsSplitOnceResult}
use Rattle.nextest_filtering_escapes.specs.Text.{Piece, Plain, Escaped, Unicode, IsPiece, spelling, meaning, escape_of}
use Rattle.nextest_filtering_escapes.specs.Reading.{IsShortHexadecimal, BeginsInBraces, SplitsBraces, ReadsUnicode, ReadsEscape}
use Rattle.nextest_filtering_escapes.proofs.Pieces.{plain_not, no_u, digit_not}

-- ---- numbers

-- what is parsed of a text of one to six bytes that doesn't begin with a plus
pub number_parsed : {E : Type 0} (digits : List ℕ) (read : Result ℕ E) → ParsesUnsigned 32 16 digits read → get_or digits 0 0 ≢ 43
    → 0 < length digits → length digits ≤ 6 → SomeIff (result_ok read) (IsShortHexadecimal digits) (digits_value 16 digits)
number_parsed digits (Ok number) parsed bare some few =
    let same = without_leading_plus_none digits bare in
    let has = rw same at parsed in
    ((some, few, has.0.0.1), has.1)
number_parsed digits (Err error) parsed bare some few = λ short.
    let same = without_leading_plus_none digits bare in
    let has = rw same at parsed in
    let below = digits_value-lt 16 digits short.2 in
    let power : 16 ^ length digits ≤ 16 ^ 6 = pow-le-pow_right (lit< tt) few in
    has (((some, short.2), omega (arith, below, power)))

-- ---- braces

no_brace : (digits : List ℕ) → AllDigits 16 digits → (i : ℕ) → i < length digits → get_or digits i 0 ≢ 125
no_brace [] are i small = absurd (omega arith)
no_brace (byte ∷ digits) are zero small = digit_not byte are.0
no_brace (byte ∷ digits) are (suc i) small = no_brace digits are.1 i (omega arith)

pub braces_none : (behind : List ℕ) → ((rest : List ℕ) → behind ≢ 123 ∷ rest) → SplitsBraces behind None
braces_none behind none = λ digits rest are whole. none (digits ++ 125 ∷ rest) whole

pub braces_split : (behind inside : List ℕ) (parts : Option (Bor (List ℕ) × Bor (List ℕ))) → behind ≡ 123 ∷ inside → IsSplitOnceResult 125 inside parts
    → SplitsBraces behind parts
braces_split behind inside None opened split = λ digits rest are whole.
    let tail : inside ≡ digits ++ 125 ∷ rest = tails behind inside (digits ++ 125 ∷ rest) opened whole in
    split_after 125 inside digits rest None split (lit< tt) tail (no_brace digits are) where
      tails : (behind x y : List ℕ) → behind ≡ 123 ∷ x → behind ≡ 123 ∷ y → x ≡ y
      tails behind x y left right = cc
braces_split behind inside (Some x) opened split =
    let parts = split_parts 125 inside (Some x) split (lit< tt) in (
      opened ∙ ap (λ (b : List ℕ). 123 ∷ b) parts.0,
      λ digits rest are whole.
          let tail : inside ≡ digits ++ 125 ∷ rest = tails behind inside (digits ++ 125 ∷ rest) opened whole in
          let same = split_after 125 inside digits rest (Some x) split (lit< tt) tail (no_brace digits are) in
          (sym same.0, sym same.1),
    ) where
      tails : (behind x y : List ℕ) → behind ≡ 123 ∷ x → behind ≡ 123 ∷ y → x ≡ y
      tails behind x y left right = cc

-- ---- letters

-- a letter that is an escape is ASCII, and so is what it stands for
escape_small : (letter meant : ℕ) → escape_of letter ≡ Some meant → (letter < 128) × (meant < 128)
escape_small letter meant =
    let P : Option ℕ → Type 0 = λ found. found ≡ Some meant → (letter < 128) × (meant < 128) in
    cond_both (eqb letter 110) _ _ P (at 110 10 (lit< tt) (lit< tt)) (λ _.
    cond_both (eqb letter 114) _ _ P (at 114 13 (lit< tt) (lit< tt)) (λ _.
    cond_both (eqb letter 116) _ _ P (at 116 9 (lit< tt) (lit< tt)) (λ _.
    cond_both (eqb letter 98) _ _ P (at 98 8 (lit< tt) (lit< tt)) (λ _.
    cond_both (eqb letter 102) _ _ P (at 102 12 (lit< tt) (lit< tt)) (λ _.
    cond_both (eqb letter 92) _ _ P (at 92 92 (lit< tt) (lit< tt)) (λ _.
    cond_both (eqb letter 47) _ _ P (at 47 47 (lit< tt) (lit< tt)) (λ _.
    cond_both (eqb letter 41) _ _ P (at 41 41 (lit< tt) (lit< tt)) (λ _.
    cond_both (eqb letter 44) _ _ P (at 44 44 (lit< tt) (lit< tt)) (λ _. λ none. cc))))))))) where
      at : (n m : ℕ) → n < 128 → m < 128 → eqb letter n ≡ true → Some m ≡ Some meant → (letter < 128) × (meant < 128)
      at n m low high same is =
          let letter_is : letter ≡ n = eqb-true letter n same in
          let meant_is : m ≡ meant = cc in
          (omega arith, omega arith)

-- a `\` alone is no piece
pub lone_none : (piece : Piece) (rest : List ℕ) → IsPiece piece → 92 ∷ [] ≡ spelling piece ++ rest → ⊥
lone_none (Plain byte) rest is same = plain_not byte is (cc)
lone_none (Escaped letter meant) rest is same = cc
lone_none (Unicode digits scalar) rest is same = cc

-- a piece that begins with `\u` is a number in braces
u_braces : (more rest : List ℕ) (piece : Piece) → IsPiece piece → 92 ∷ 117 ∷ more ≡ spelling piece ++ rest → (scalar : ℕ) × BeginsInBraces more scalar rest
u_braces more rest (Plain byte) is same = absurd (plain_not byte is (cc))
u_braces more rest (Escaped letter meant) is same = absurd (no_u letter meant is (cc))
u_braces more rest (Unicode digits scalar) is same =
    let tail : more ≡ 123 ∷ ((digits ++ 125 ∷ []) ++ rest) = cc in
    (scalar, (digits, is.0, is.1, tail ∙ ap (λ (x : List ℕ). 123 ∷ x) (append_assoc digits (125 ∷ []) rest)))

pub u_none : (more : List ℕ) → ReadsUnicode more None → (piece : Piece) (rest : List ℕ) → IsPiece piece → 92 ∷ 117 ∷ more ≡ spelling piece ++ rest → ⊥
u_none more none piece rest is same = let found = u_braces more rest piece is same in none found.0 rest found.1

-- a number in braces is a piece
pub u_some : (more rest : List ℕ) (scalar : ℕ) → BeginsInBraces more scalar rest
    → (piece : Piece) × IsPiece piece × (92 ∷ 117 ∷ more ≡ spelling piece ++ rest) × (meaning piece ≡ encode_utf8 scalar)
u_some more rest scalar (digits, are, is, whole) =
    (Unicode digits scalar, (are, is), ap (λ (x : List ℕ). 92 ∷ 117 ∷ x) (whole ∙ ap (λ (x : List ℕ). 123 ∷ x) (sym (append_assoc digits (125 ∷ []) rest))), refl)

-- the character behind a `\` is `u`, or the letter of the piece
letter_is : (letter byte : ℕ) (ahead rest : List ℕ) → byte < 128 → encode_utf8 letter ++ ahead ≡ byte ∷ rest → letter ≡ byte
letter_is letter byte ahead rest small same = char_from_byte (byte ∷ rest) ahead letter (sym same) small (omega arith)

pub letter_none : (letter : ℕ) (ahead : List ℕ) → escape_of letter ≡ None → letter ≢ 117
    → (piece : Piece) (rest : List ℕ) → IsPiece piece → 92 ∷ encode_utf8 letter ++ ahead ≡ spelling piece ++ rest → ⊥
letter_none letter ahead none other (Plain byte) rest is same = plain_not byte is (cc)
letter_none letter ahead none other (Escaped byte meant) rest is same =
    let tail : encode_utf8 letter ++ ahead ≡ byte ∷ rest = cc in
    let at = letter_is letter byte ahead rest (escape_small byte meant is).0 tail in
    let wrong : None ≡ Some meant = sym none ∙ ap escape_of at ∙ is in
    cc
letter_none letter ahead none other (Unicode digits scalar) rest is same =
    let tail : encode_utf8 letter ++ ahead ≡ 117 ∷ 123 ∷ ((digits ++ 125 ∷ []) ++ rest) = cc in
    other (letter_is letter 117 ahead (123 ∷ ((digits ++ 125 ∷ []) ++ rest)) (lit< tt) tail)

pub letter_some : (letter meant : ℕ) (ahead : List ℕ) → escape_of letter ≡ Some meant
    → (piece : Piece) × IsPiece piece × (92 ∷ encode_utf8 letter ++ ahead ≡ spelling piece ++ ahead) × (meaning piece ≡ encode_utf8 meant)
letter_some letter meant ahead is =
    let small = escape_small letter meant is in
    (Escaped letter meant, is, ap (λ (x : List ℕ). 92 ∷ x ++ ahead) (encode_ascii letter small.0), sym (encode_ascii meant small.1))

-- ---- the escape

-- a `\` at the end
pub reads_end : (behind : List ℕ) → behind ≡ [] → ReadsEscape behind None behind
reads_end behind none = subst (λ (x : List ℕ). ReadsEscape x None x) (sym none) (lone_none, (92 ∷ [], refl, inl (refl, refl)))

-- a `\u`
pub reads_u_some : (behind ahead rest : List ℕ) (letter scalar : ℕ) → behind ≡ encode_utf8 letter ++ ahead → letter ≡ 117
    → BeginsInBraces ahead scalar rest → ReadsEscape behind (Some scalar) rest
reads_u_some behind ahead rest letter scalar whole is begins =
    let u : behind ≡ 117 ∷ ahead = whole ∙ ap (λ (x : ℕ). encode_utf8 x ++ ahead) is ∙ ap (λ (x : List ℕ). x ++ ahead) (encode_ascii 117 (lit< tt)) in
    subst (λ (x : List ℕ). ReadsEscape x (Some scalar) rest) (sym u) (u_some ahead rest scalar begins)

pub reads_u_none : (behind ahead : List ℕ) (letter : ℕ) → behind ≡ encode_utf8 letter ++ ahead → letter ≡ 117
    → ReadsUnicode ahead None → ReadsEscape behind None ahead
reads_u_none behind ahead letter whole is none =
    let u : behind ≡ 117 ∷ ahead = whole ∙ ap (λ (x : ℕ). encode_utf8 x ++ ahead) is ∙ ap (λ (x : List ℕ). x ++ ahead) (encode_ascii 117 (lit< tt)) in
    subst (λ (x : List ℕ). ReadsEscape x None ahead) (sym u) (u_none ahead none, (92 ∷ 117 ∷ [], refl, inr (117, refl, ap (λ (x : List ℕ). 92 ∷ x) (sym (encode_ascii 117 (lit< tt))))))

-- a `\` before another letter
pub reads_letter : (behind ahead : List ℕ) (letter : ℕ) (meant : Option ℕ) → IsScalar letter → behind ≡ encode_utf8 letter ++ ahead → letter ≢ 117
    → escape_of letter ≡ meant → ReadsEscape behind meant ahead
reads_letter behind ahead letter None scalar whole other is =
    subst (λ (x : List ℕ). ReadsEscape x None ahead) (sym whole)
    (letter_none letter ahead is other, (92 ∷ encode_utf8 letter, refl, inr (letter, scalar, refl)))
reads_letter behind ahead letter (Some meant) scalar whole other is =
    subst (λ (x : List ℕ). ReadsEscape x (Some meant) ahead) (sym whole) (letter_some letter meant ahead is)
