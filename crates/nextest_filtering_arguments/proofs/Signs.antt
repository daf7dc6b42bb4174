-- The sign of a matcher: where one stands, and where none does.
use Rattle.std.proofs.Common.{◌≡◌, ◌≢◌, refl, ℕ, true, false, eqb, List, [], ◌∷◌, ◌++◌, sym, ap, subst, ◌∙◌, inl, inr, append_assoc}
use Rattle.std.proofs.lemmas.Bool.{eqb-true, or_cases, false≢true, cases_Bool}
use Rattle.nextest_filtering_escapes.specs.Regex.{IsRegexText}
use Rattle.nextest_filtering_ast.specs.Tree.{Comparison, equal, contains, glob, regex, Matcher, Subject}
use Rattle.nextest_filtering_ast.specs.Grammar.{after_blanks, Behind, Spells, IsPattern, is_sign, bare, ReadsSigned, ReadsBare, ReadsMatcher}
use Rattle.nextest_filtering_arguments.specs.declared.subject.Comparing.{Comparing}
use Rattle.nextest_filtering_arguments.specs.declared.subject.Comparing.TheVariants as by
use Rattle.nextest_filtering_arguments.specs.Matchers.{ReadsCompared, ReadsPattern, comparison_of, sign_of}
use Rattle.nextest_filtering_arguments.proofs.Fronts.{apart, same_rest, same_first}

-- ---- a text without a sign

bare_starts : (raw argument rest : List ℕ) → Behind raw argument rest → raw ≢ [] → ((behind : List ℕ) (byte : ℕ) → raw ≡ byte ∷ behind → is_sign byte ≡ false)
    → (byte : ℕ) × (behind : List ℕ) × (after_blanks argument ≡ byte ∷ behind) × (is_sign byte ≡ false)
bare_starts [] argument rest place some unsigned = absurd (some refl)
bare_starts (byte ∷ raw) argument rest place some unsigned = (byte, raw ++ rest, place, unsigned raw byte refl)

not_bare : (sign : ℕ) (text argument rest inside : List ℕ) → is_sign sign ≡ true → after_blanks argument ≡ sign ∷ inside → ReadsBare text argument rest → ⊥
not_bare sign text argument rest inside signed is it =
    let start = bare_starts it.raw argument rest it.place it.spelled.some it.unsigned in
    let same : start.0 ≡ sign = same_first start.0 sign (after_blanks argument) start.1 inside start.2 is in
    false≢true (sym start.3 ∙ ap is_sign same ∙ signed)

sign_is : (comparing : Comparing) → is_sign (sign_of comparing) ≡ true
sign_is by.Equal = refl
sign_is by.Contains = refl
sign_is by.Glob = refl

-- ---- a sign and a text

sign_signed : (comparing : Comparing) (comparison : Comparison) (text argument inside rest : List ℕ) → after_blanks argument ≡ sign_of comparing ∷ inside
    → ReadsSigned comparison text argument rest → (comparison ≡ comparison_of comparing) × ((raw : List ℕ) × Behind raw inside rest × Spells raw text)
sign_signed by.Equal equal text argument inside rest is (raw, behind, first, place, spelled) = (refl, (raw, subst (λ (l : List ℕ). Behind raw l rest) (same_rest 61 61 _ _ _ first is) place, spelled))
sign_signed by.Equal contains text argument inside rest is (raw, behind, first, place, spelled) = absurd (apart 126 61 _ _ _ refl first is)
sign_signed by.Equal glob text argument inside rest is (raw, behind, first, place, spelled) = absurd (apart 35 61 _ _ _ refl first is)
sign_signed by.Equal regex text argument inside rest is (raw, place, stands) = absurd (apart 47 61 _ _ _ refl place is)
sign_signed by.Contains equal text argument inside rest is (raw, behind, first, place, spelled) = absurd (apart 61 126 _ _ _ refl first is)
sign_signed by.Contains contains text argument inside rest is (raw, behind, first, place, spelled) = (refl, (raw, subst (λ (l : List ℕ). Behind raw l rest) (same_rest 126 126 _ _ _ first is) place, spelled))
sign_signed by.Contains glob text argument inside rest is (raw, behind, first, place, spelled) = absurd (apart 35 126 _ _ _ refl first is)
sign_signed by.Contains regex text argument inside rest is (raw, place, stands) = absurd (apart 47 126 _ _ _ refl place is)
sign_signed by.Glob equal text argument inside rest is (raw, behind, first, place, spelled) = absurd (apart 61 35 _ _ _ refl first is)
sign_signed by.Glob contains text argument inside rest is (raw, behind, first, place, spelled) = absurd (apart 126 35 _ _ _ refl first is)
sign_signed by.Glob glob text argument inside rest is (raw, behind, first, place, spelled) = (refl, (raw, subst (λ (l : List ℕ). Behind raw l rest) (same_rest 35 35 _ _ _ first is) place, spelled))
sign_signed by.Glob regex text argument inside rest is (raw, place, stands) = absurd (apart 47 35 _ _ _ refl place is)

pub sign_there : (comparing : Comparing) (subject : Subject) (argument inside : List ℕ) → after_blanks argument ≡ sign_of comparing ∷ inside → (m : Matcher) (rest : List ℕ)
    → ReadsCompared (comparison_of comparing) false m inside rest → ReadsMatcher subject m argument rest
sign_there by.Equal subject argument inside is m rest (kind, sign, compares, (raw, place, spelled)) = (
  subst (λ (k : Comparison). IsPattern k m.text) (sym kind) compares,
  inl (sign, subst (λ (k : Comparison). ReadsSigned k m.text argument rest) (sym kind) (raw, inside, is, place, spelled)),
)
sign_there by.Contains subject argument inside is m rest (kind, sign, compares, (raw, place, spelled)) = (
  subst (λ (k : Comparison). IsPattern k m.text) (sym kind) compares,
  inl (sign, subst (λ (k : Comparison). ReadsSigned k m.text argument rest) (sym kind) (raw, inside, is, place, spelled)),
)
sign_there by.Glob subject argument inside is m rest (kind, sign, compares, (raw, place, spelled)) = (
  subst (λ (k : Comparison). IsPattern k m.text) (sym kind) compares,
  inl (sign, subst (λ (k : Comparison). ReadsSigned k m.text argument rest) (sym kind) (raw, inside, is, place, spelled)),
)

pub sign_back : (comparing : Comparing) (subject : Subject) (argument inside : List ℕ) → after_blanks argument ≡ sign_of comparing ∷ inside → (m : Matcher) (rest : List ℕ)
    → ReadsMatcher subject m argument rest → ReadsCompared (comparison_of comparing) false m inside rest
sign_back comparing subject argument inside is m rest (compares, inl (sign, signed)) =
    let it = sign_signed comparing m.comparison m.text argument inside rest is signed in
    (it.0, sign, subst (λ (k : Comparison). IsPattern k m.text) it.0 compares, it.1)
sign_back comparing subject argument inside is m rest (compares, inr (sign, kind, alone)) =
    absurd (not_bare (sign_of comparing) m.text argument rest inside (sign_is comparing) is alone)

-- ---- a regular expression

slash_signed : (comparison : Comparison) (text argument inside rest : List ℕ) → after_blanks argument ≡ 47 ∷ inside → ReadsSigned comparison text argument rest
    → (comparison ≡ regex) × ((raw : List ℕ) × (inside ≡ raw ++ 47 ∷ rest) × IsRegexText raw text)
slash_signed equal text argument inside rest is (raw, behind, first, place, spelled) = absurd (apart 61 47 _ _ _ refl first is)
slash_signed contains text argument inside rest is (raw, behind, first, place, spelled) = absurd (apart 126 47 _ _ _ refl first is)
slash_signed glob text argument inside rest is (raw, behind, first, place, spelled) = absurd (apart 35 47 _ _ _ refl first is)
slash_signed regex text argument inside rest is (raw, place, stands) =
    (refl, (raw, same_rest 47 47 _ _ _ is place ∙ append_assoc raw (47 ∷ []) rest, stands))

pub slash_there : (subject : Subject) (argument inside : List ℕ) → after_blanks argument ≡ 47 ∷ inside → (m : Matcher) (rest : List ℕ)
    → ReadsPattern m inside rest → ReadsMatcher subject m argument rest
slash_there subject argument inside is m rest (kind, sign, reads, (raw, whole, stands)) = (
  subst (λ (k : Comparison). IsPattern k m.text) (sym kind) reads,
  inl (
    sign,
    subst (λ (k : Comparison). ReadsSigned k m.text argument rest) (sym kind)
        (raw, is ∙ ap (λ (l : List ℕ). 47 ∷ l) (whole ∙ sym (append_assoc raw (47 ∷ []) rest)), stands),
  ),
)

pub slash_back : (subject : Subject) (argument inside : List ℕ) → after_blanks argument ≡ 47 ∷ inside → (m : Matcher) (rest : List ℕ)
    → ReadsMatcher subject m argument rest → ReadsPattern m inside rest
slash_back subject argument inside is m rest (compares, inl (sign, signed)) =
    let it = slash_signed m.comparison m.text argument inside rest is signed in
    (it.0, sign, subst (λ (k : Comparison). IsPattern k m.text) it.0 compares, it.1)
slash_back subject argument inside is m rest (compares, inr (sign, kind, alone)) = absurd (not_bare 47 m.text argument rest inside refl is alone)

-- ---- no sign

-- the text begins with no sign
abbrev HasNoSign : List ℕ → Type 0
HasNoSign text = (byte : ℕ) (rest : List ℕ) → text ≡ byte ∷ rest → is_sign byte ≡ false

pub no_sign : (ahead text : List ℕ) → ahead ≡ after_blanks text → ((comparing : Comparing) (rest : List ℕ) → ahead ≡ sign_of comparing ∷ rest → ⊥)
    → ((rest : List ℕ) → ahead ≡ 47 ∷ rest → ⊥) → HasNoSign (after_blanks text)
no_sign ahead text skipped none no_slash byte rest is =
    elim (cases_Bool (is_sign byte)) [
      | inl signed ↦ absurd (wrong signed)
      | inr other ↦ other
    ] where
      at : (b : ℕ) → eqb byte b ≡ true → ahead ≡ b ∷ rest
      at b same = skipped ∙ is ∙ ap (λ (n : ℕ). n ∷ rest) (eqb-true byte b same)

      wrong : is_sign byte ≡ true → ⊥
      wrong signed =
          elim (or_cases _ _ signed) [
            | inl first ↦ elim (or_cases _ _ first) [
              | inl second ↦ elim (or_cases _ _ second) [
                | inl same ↦ none by.Equal rest (at 61 same)
                | inr same ↦ none by.Contains rest (at 126 same)
              ]
              | inr same ↦ none by.Glob rest (at 35 same)
            ]
            | inr same ↦ no_slash rest (at 47 same)
          ]

signed_not : (comparison : Comparison) (text argument rest : List ℕ) → HasNoSign (after_blanks argument) → ReadsSigned comparison text argument rest → ⊥
signed_not equal text argument rest none (raw, behind, first, place, spelled) = false≢true (sym (none 61 behind first))
signed_not contains text argument rest none (raw, behind, first, place, spelled) = false≢true (sym (none 126 behind first))
signed_not glob text argument rest none (raw, behind, first, place, spelled) = false≢true (sym (none 35 behind first))
signed_not regex text argument rest none (raw, place, stands) = false≢true (sym (none 47 ((raw ++ 47 ∷ []) ++ rest) place))

pub bare_there : (comparing : Comparing) (subject : Subject) (argument : List ℕ) → comparison_of comparing ≡ bare subject → HasNoSign (after_blanks argument) → (m : Matcher) (rest : List ℕ)
    → ReadsCompared (comparison_of comparing) true m argument rest → ReadsMatcher subject m argument rest
bare_there comparing subject argument default none m rest (kind, sign, compares, (raw, place, spelled)) = (
  subst (λ (k : Comparison). IsPattern k m.text) (sym kind) compares,
  inr (
    sign,
    kind ∙ default,
    record {
      raw = raw;
      place = place;
      spelled = spelled;
      unsigned = λ behind byte is. none byte (behind ++ rest) (place ∙ ap (λ (l : List ℕ). l ++ rest) is);
    },
  ),
)

pub bare_back : (comparing : Comparing) (subject : Subject) (argument : List ℕ) → comparison_of comparing ≡ bare subject → HasNoSign (after_blanks argument) → (m : Matcher) (rest : List ℕ)
    → ReadsMatcher subject m argument rest → ReadsCompared (comparison_of comparing) true m argument rest
bare_back comparing subject argument default none m rest (compares, inl (sign, signed)) = absurd (signed_not m.comparison m.text argument rest none signed)
bare_back comparing subject argument default none m rest (compares, inr (sign, kind, alone)) =
    let is = kind ∙ sym default in
    (is, sign, subst (λ (k : Comparison). IsPattern k m.text) is compares, (alone.raw, alone.place, alone.spelled))
