-- Which texts are a version with `.0` behind them, and none without it.
use Rattle.std.proofs.Common.{◌≡◌, ◌≢◌, ℕ, ◌≤◌, ◌==◌, Bool, true, List, [], ◌∷◌, ◌++◌, length, get_or, drop, Option, Some, None, Result, Ok, Err, refl, sym, ap, ◌∙◌, subst, inl, inr, arith, append-nil, length-append}
use Rattle.std.proofs.lemmas.Bool.{cases_Bool}
use Rattle.std.proofs.lemmas.Fmt.{decimal_is_IsNumeral, decimal_nonempty}
use Rattle.std.proofs.lemmas.List.Folds.{list_all-append}
use Rattle.std.specs.List.{list_all}
use Rattle.std.specs.Prelude.{decimal}
use Rattle.std.specs.Str.Parse.{AllDigits, digits_value}
use Rattle.semver.proofs.Grammar.{version_parts-complete, version_parts-sound}
use Rattle.semver.proofs.Segments.{and-left}
use Rattle.semver.specs.Grammar.{IsValid, is_build, is_build_identifier, is_pre_identifier, is_pre_release}
use Rattle.semver.specs.Identifiers.{marked, parts_text}
use Rattle.semver.specs.Order.{parts}
use Rattle.semver.specs.OrderLaws.{parts-shape}
use Rattle.semver.specs.Parse.{Parts, version_parts}
use Rattle.semver.specs.declared.error.Error.{Error as Refused}
use Rattle.nextest_version.specs.Reading.{if_read, version_of}
use Rattle.nextest_config_elements_versions.specs.Laws.{IsShortOf, ShortVersion}

abbrev dot_zero : List ℕ
dot_zero = 46 ∷ 48 ∷ []

-- two texts in a row end as the second of them does
cut : (front tail text : List ℕ) → 2 ≤ length tail → front ++ tail ≡ text ++ dot_zero
    → (rest : List ℕ) × (tail ≡ rest ++ dot_zero) × (text ≡ front ++ rest)
cut [] tail text long same = (text, same, refl)
cut (first ∷ front) tail [] long same =
    let lengths = ap length same in
    let both = length-append front tail in absurd (omega (arith, lengths, both, long))
cut (first ∷ front) tail (second ∷ text) long same =
    let inner = cut front tail text long (ap (drop 1) same) in
    let head : first ≡ second = ap (λ (bytes : List ℕ). get_or bytes 0 0) same in
    (inner.0, inner.1, ap (λ (it : ℕ). it ∷ text) (sym head) ∙ ap (λ (l : List ℕ). first ∷ l) inner.2)

-- a text behind a mark ends as it does with the mark
behind_mark : (mark byte : ℕ) (part rest : List ℕ) → mark ≢ 46 → mark ∷ byte ∷ part ≡ rest ++ dot_zero
    → (front : List ℕ) × (rest ≡ mark ∷ front) × (byte ∷ part ≡ front ++ dot_zero)
behind_mark mark byte part [] other same = absurd (other (ap (λ (bytes : List ℕ). get_or bytes 0 0) same))
behind_mark mark byte part (first ∷ rest) other same =
    let head : mark ≡ first = ap (λ (bytes : List ℕ). get_or bytes 0 0) same in
    (rest, ap (λ (it : ℕ). it ∷ rest) (sym head), ap (drop 1) same)

-- the three numbers, and what stands behind them
abbrev core : ℕ → ℕ → ℕ → List ℕ → List ℕ
core a b c tail = decimal a ++ (46 ∷ (decimal b ++ (46 ∷ (decimal c ++ tail))))

cut_core : (a b c : ℕ) (tail text : List ℕ) → 2 ≤ length tail → core a b c tail ≡ text ++ dot_zero
    → (rest : List ℕ) × (tail ≡ rest ++ dot_zero) × (text ≡ core a b c rest)
cut_core a b c tail text long same =
    let whole = length-append (decimal b) (46 ∷ (decimal c ++ tail)) in
    let last = length-append (decimal c) tail in
    let one = cut (decimal a) (46 ∷ (decimal b ++ (46 ∷ (decimal c ++ tail)))) text (omega (arith, whole)) same in
    let two = cut (46 ∷ decimal b) (46 ∷ (decimal c ++ tail)) one.0 (omega (arith, last, long)) one.1 in
    let three = cut (46 ∷ decimal c) tail two.0 long two.1 in
    let inner : one.0 ≡ 46 ∷ (decimal b ++ (46 ∷ (decimal c ++ three.0))) =
    two.2 ∙ ap (λ (l : List ℕ). 46 ∷ (decimal b ++ l)) three.2 in
    (three.0, three.1, one.2 ∙ ap (λ (l : List ℕ). decimal a ++ l) inner)

-- the parts of two texts with a dot between them
parts_append : (text behind : List ℕ) → parts (text ++ (46 ∷ behind)) ≡ parts text ++ parts behind
parts_append [] behind = refl
parts_append (byte ∷ text) behind = elim (cases_Bool (byte == 46)) [
  | inl dot ↦ rw (dot, parts_append text behind) refl
  | inr other ↦ let shape = parts-shape text in rw (other, parts_append text behind, shape.2) refl
]

all_front : (good : List ℕ → Bool) (text : List ℕ) → list_all good (parts (text ++ dot_zero)) ≡ true → list_all good (parts text) ≡ true
all_front good text is =
    and-left (list_all good (parts text)) (list_all good (parts (48 ∷ [])))
    (sym (list_all-append good (parts text) (parts (48 ∷ []))) ∙ ap (list_all good) (sym (parts_append text (48 ∷ []))) ∙ is)

build_front : (front : List ℕ) → list_all is_build_identifier (parts front) ≡ true → (43 ∷ front ≡ marked 43 front) × (is_build front ≡ true)
build_front [] is = cc is
build_front (byte ∷ front) is = (refl, is)

pre_front : (front : List ℕ) → list_all is_pre_identifier (parts front) ≡ true → (45 ∷ front ≡ marked 45 front) × (is_pre_release front ≡ true)
pre_front [] is = cc is
pre_front (byte ∷ front) is = (refl, is)

-- what prints as a version is one
no_version : (text : List ℕ) (p : Parts) → text ≡ parts_text p → IsValid p → version_of text ≡ None → ⊥
no_version text p is valid none =
    let read : version_of text ≡ Some p = ap if_read (ap version_parts is ∙ version_parts-complete p valid) in
    let both : ◌≡◌ {A = Option Parts} None (Some p) = sym none ∙ read in cc both

-- digits have no dot
no_dot : (front behind : List ℕ) → AllDigits 10 (front ++ (46 ∷ behind)) → ⊥
no_dot [] behind all = let digit = all.0 in absurd (omega (arith, digit))
no_dot (byte ∷ front) behind all = no_dot front behind all.1

gains : (text : List ℕ) (a b c : ℕ) (pre build : List ℕ) → IsValid (a, b, c, pre, build)
    → parts_text (a, b, c, pre, build) ≡ text ++ dot_zero → version_of text ≡ None → IsShortOf text (a, b, c, pre, build)
gains text a b c pre (byte ∷ part) valid same none =
    let tail = 43 ∷ byte ∷ part in
    let long = length-append (marked 45 pre) tail in
    let one = cut_core a b c (marked 45 pre ++ tail) text (omega (arith, long)) same in
    let two = cut (marked 45 pre) tail one.0 (omega arith) one.1 in
    let three = behind_mark 43 byte part two.0 (λ is. absurd (omega (arith, is))) two.1 in
    let known = subst (λ (l : List ℕ). list_all is_build_identifier (parts l) ≡ true) three.2 valid.4 in
    let good = build_front three.0 (all_front is_build_identifier three.0 known) in
    absurd (no_version text (a, b, c, pre, three.0)
    (one.2 ∙ ap (core a b c) (two.2 ∙ ap (λ (l : List ℕ). marked 45 pre ++ l) (three.1 ∙ good.0)))
    (valid.0, valid.1, valid.2, valid.3, good.1) none)
gains text a b c (byte ∷ part) [] valid same none =
    let tail = 45 ∷ byte ∷ part in
    let bare = append-nil tail in
    let long = length-append tail [] in
    let one = cut_core a b c (tail ++ []) text (omega (arith, long)) same in
    let two = behind_mark 45 byte part one.0 (λ is. absurd (omega (arith, is))) (sym bare ∙ one.1) in
    let known = subst (λ (l : List ℕ). list_all is_pre_identifier (parts l) ≡ true) two.2 valid.3 in
    let good = pre_front two.0 (all_front is_pre_identifier two.0 known) in
    absurd (no_version text (a, b, c, two.0, [])
    (one.2 ∙ ap (core a b c) (two.1 ∙ good.0 ∙ sym (append-nil (marked 45 two.0))))
    (valid.0, valid.1, valid.2, good.1, refl) none)
gains text a b c [] [] valid same none =
    let whole = length-append (decimal b) (46 ∷ (decimal c ++ [])) in
    let some = decimal_nonempty c valid.2 in
    let last = length-append (decimal c) [] in
    let one = cut (decimal a) (46 ∷ (decimal b ++ (46 ∷ (decimal c ++ [])))) text (omega (arith, whole)) same in
    let two = cut (46 ∷ decimal b) (46 ∷ (decimal c ++ [])) one.0 (omega (arith, last, some)) one.1 in
    go two.0 two.1 (one.2 ∙ ap (λ (l : List ℕ). decimal a ++ l) two.2)
  where
    go : (rest : List ℕ) → 46 ∷ (decimal c ++ []) ≡ rest ++ dot_zero → text ≡ decimal a ++ (46 ∷ (decimal b ++ rest)) → IsShortOf text (a, b, c, [], [])
    go [] ends is =
        let digits : decimal c ≡ 48 ∷ [] = sym (append-nil (decimal c)) ∙ ap (drop 1) ends in
        let zero : c ≡ 0 = sym (decimal_is_IsNumeral c valid.2).1 ∙ ap (digits_value 10) digits in (
          a,
          b,
          is ∙ ap (λ (l : List ℕ). decimal a ++ (46 ∷ l)) (append-nil (decimal b)),
          ap (λ (it : ℕ). (a, b, it, [], [])) zero,
        )
    go (first ∷ rest) ends is =
        let digits : decimal c ≡ rest ++ dot_zero = sym (append-nil (decimal c)) ∙ ap (drop 1) ends in
        absurd (no_dot rest (48 ∷ []) (subst (AllDigits 10) digits (decimal_is_IsNumeral c valid.2).0.1))

read_some : (read : Result Parts Refused) (version : Parts) → if_read read ≡ Some version → read ≡ Ok version
read_some (Ok found) version is = let same : found ≡ version = cc is in ap Ok same
read_some (Err refused) version is = cc is

pub short_version : ShortVersion
short_version text version none asked =
    let some : version_of (text ++ dot_zero) ≡ Some version = rw none at asked in
    let sound = version_parts-sound (text ++ dot_zero) version (read_some (version_parts (text ++ dot_zero)) version some) in
    gains text version.0 version.1 version.2 version.3 version.4 sound.1 sound.0 none
