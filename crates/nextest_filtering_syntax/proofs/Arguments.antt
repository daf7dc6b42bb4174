-- An argument with a `)` behind it is one at most.
use Rattle.std.proofs.Common.{◌≡◌, ◌≢◌, refl, ℕ, true, false, List, [], ◌∷◌, ◌++◌, sym, ap, subst, ◌∙◌, inl, inr, append_assoc}
use Rattle.std.specs.Prelude.{◌==◌, if◌then◌else◌}
use Rattle.std.proofs.lemmas.Bool.{false≢true}
use Rattle.std.proofs.lemmas.List.{append_cancel_left}
use Rattle.nextest_filtering_escapes.specs.Text.{IsText}
use Rattle.nextest_filtering_escapes.specs.Regex.{IsRegexText}
use Rattle.nextest_filtering_escapes.proofs.Pieces.{plain_around, one_text}
use Rattle.nextest_filtering_escapes.proofs.Fronts.{text_only, text_parts}
use Rattle.nextest_filtering_escapes.proofs.Slashes.{regex_only, one_regex}
use Rattle.nextest_filtering_ast.specs.declared.leaf.BuildPlatform.{BuildPlatform}
use Rattle.nextest_filtering_ast.specs.Tree.{Comparison, equal, contains, glob, regex, Matcher, Subject}
use Rattle.nextest_filtering_ast.specs.Words.{platform_word}
use Rattle.nextest_filtering_ast.specs.Grammar.{after_blanks, Behind, Spells, is_sign, bare, ReadsSigned, ReadsMatcher}
use Rattle.nextest_filtering_arguments.specs.Matchers.{ReadsPlatform}
use Rattle.nextest_filtering_arguments.proofs.Fronts.{same_rest, same_first}
use Rattle.nextest_filtering_arguments.proofs.Trimming.{trimmed_once}
use Rattle.nextest_filtering_arguments.proofs.Cutting.{blanks_before}
use Rattle.nextest_filtering_arguments.proofs.Arguments.{matcher_same, same_platform}

-- ---- texts

-- the bytes of a text and the blanks behind it, up to a `)`
split_at : (text raw end x : List ℕ) → Behind raw text end → after_blanks end ≡ 41 ∷ x → after_blanks text ≡ (raw ++ (blanks_before end).0) ++ 41 ∷ x
split_at text raw end x there closes =
    let around = blanks_before end in
    there ∙ ap (λ (l : List ℕ). raw ++ l) (around.2 ∙ ap (λ (l : List ℕ). around.0 ++ l) closes) ∙ sym (append_assoc raw around.0 (41 ∷ x))

-- blanks behind a text stand for themselves
with_blanks : (raw meant end : List ℕ) → Spells raw meant → IsText (raw ++ (blanks_before end).0) (meant ++ (blanks_before end).0)
with_blanks raw meant end spelled =
    let around = blanks_before end in
    plain_around [] raw around.0 meant tt around.1 spelled.stands

pub one_spelled : (text raw meant end x other another stop y : List ℕ) → Behind raw text end → Spells raw meant → after_blanks end ≡ 41 ∷ x
    → Behind other text stop → Spells other another → after_blanks stop ≡ 41 ∷ y → (another ≡ meant) × (y ≡ x)
one_spelled text raw meant end x other another stop y there spelled closes there_too spelled_too closes_too =
    let around = blanks_before end in
    let about = blanks_before stop in
    let split = split_at text raw end x there closes in
    let front = text_only (after_blanks text) (raw ++ around.0) (meant ++ around.0) (41 ∷ x) (with_blanks raw meant end spelled) refl split in
    let same = text_parts (after_blanks text) (raw ++ around.0) (41 ∷ x) (other ++ about.0) (another ++ about.0) (41 ∷ y) split front
    (with_blanks other another stop spelled_too) refl (split_at text other stop y there_too closes_too) in
    let raws : other ≡ raw = trimmed_once other raw about.0 around.0 spelled_too.ends spelled.ends about.1 around.1 same.0 in
    (one_text raw another meant (subst (λ (l : List ℕ). IsText l another) raws spelled_too.stands) spelled.stands, same_rest 41 41 _ _ _ refl same.1)

-- ---- matchers

-- the sign in front of a text that is compared with so
abbrev pub sign : Comparison → ℕ
sign equal = 61
sign contains = 126
sign glob = 35
sign regex = 47

-- how a text with that sign is compared with
abbrev by_sign : ℕ → Comparison
by_sign byte = if byte == 61 then equal else if byte == 126 then contains else if byte == 35 then glob else regex

sign_tells : (comparison : Comparison) → by_sign (sign comparison) ≡ comparison
sign_tells equal = refl
sign_tells contains = refl
sign_tells glob = refl
sign_tells regex = refl

sign_is : (comparison : Comparison) → is_sign (sign comparison) ≡ true
sign_is equal = refl
sign_is contains = refl
sign_is glob = refl
sign_is regex = refl

-- an argument with a sign begins with it
signed_first : (comparison : Comparison) (text argument end : List ℕ) → ReadsSigned comparison text argument end
    → (inside : List ℕ) × (after_blanks argument ≡ sign comparison ∷ inside)
signed_first equal text argument end (raw, behind, first, place, spelled) = (behind, first)
signed_first contains text argument end (raw, behind, first, place, spelled) = (behind, first)
signed_first glob text argument end (raw, behind, first, place, spelled) = (behind, first)
signed_first regex text argument end (raw, place, stands) = ((raw ++ 47 ∷ []) ++ end, place)

-- and one without begins with none
pub bare_apart : (comparison : Comparison) (raw argument end inside : List ℕ) → Behind raw argument end → raw ≢ []
    → ((behind : List ℕ) (byte : ℕ) → raw ≡ byte ∷ behind → is_sign byte ≡ false) → after_blanks argument ≡ sign comparison ∷ inside → ⊥
bare_apart comparison [] argument end inside place some unsigned is = some refl
bare_apart comparison (first ∷ raw) argument end inside place some unsigned is =
    false≢true (sym (unsigned raw first refl) ∙ ap is_sign (same_first first (sign comparison) (after_blanks argument) (raw ++ end) inside place is) ∙ sign_is comparison)

-- behind one sign stands one text
behind_sign : (byte : ℕ) (argument : List ℕ) (raw text behind end x other another next stop y : List ℕ)
    → after_blanks argument ≡ byte ∷ behind → Behind raw behind end → Spells raw text → after_blanks end ≡ 41 ∷ x
    → after_blanks argument ≡ byte ∷ next → Behind other next stop → Spells other another → after_blanks stop ≡ 41 ∷ y → (another ≡ text) × (y ≡ x)
behind_sign byte argument raw text behind end x other another next stop y first place spelled closes first_too place_too spelled_too closes_too =
    one_spelled behind raw text end x other another stop y place spelled closes
    (subst (λ (l : List ℕ). Behind other l stop) (same_rest byte byte _ _ _ first_too first) place_too) spelled_too closes_too

-- a regular expression up to its last `/` is one
one_pattern : (raw text end x other another stop y : List ℕ) → IsRegexText raw text → after_blanks end ≡ 41 ∷ x
    → IsRegexText other another → after_blanks stop ≡ 41 ∷ y → raw ++ 47 ∷ end ≡ other ++ 47 ∷ stop → (another ≡ text) × (y ≡ x)
one_pattern raw text end x other another stop y stands closes stands_too closes_too same =
    let raws : other ≡ raw = sym (regex_only (raw ++ 47 ∷ end) other another stop stands_too same) ∙ regex_only (raw ++ 47 ∷ end) raw text end stands refl in
    let ends : 47 ∷ stop ≡ 47 ∷ end = append_cancel_left raw (47 ∷ stop) (47 ∷ end) (ap (λ (l : List ℕ). l ++ 47 ∷ stop) (sym raws) ∙ sym same) in (
      one_regex raw another text (subst (λ (l : List ℕ). IsRegexText l another) raws stands_too) stands,
      same_rest 41 41 _ _ _ closes_too (ap after_blanks (same_rest 47 47 _ _ _ refl ends) ∙ closes),
    )

one_signed : (comparison : Comparison) (text another argument end x stop y : List ℕ) → ReadsSigned comparison text argument end → after_blanks end ≡ 41 ∷ x
    → ReadsSigned comparison another argument stop → after_blanks stop ≡ 41 ∷ y → (another ≡ text) × (y ≡ x)
one_signed equal text another argument end x stop y (raw, behind, first, place, spelled) closes (other, next, first_too, place_too, spelled_too) closes_too =
    behind_sign 61 argument raw text behind end x other another next stop y first place spelled closes first_too place_too spelled_too closes_too
one_signed contains text another argument end x stop y (raw, behind, first, place, spelled) closes (other, next, first_too, place_too, spelled_too) closes_too =
    behind_sign 126 argument raw text behind end x other another next stop y first place spelled closes first_too place_too spelled_too closes_too
one_signed glob text another argument end x stop y (raw, behind, first, place, spelled) closes (other, next, first_too, place_too, spelled_too) closes_too =
    behind_sign 35 argument raw text behind end x other another next stop y first place spelled closes first_too place_too spelled_too closes_too
one_signed regex text another argument end x stop y (raw, place, stands) closes (other, place_too, stands_too) closes_too =
    one_pattern raw text end x other another stop y stands closes stands_too closes_too
    (sym (append_assoc raw (47 ∷ []) end) ∙ same_rest 47 47 _ _ _ place place_too ∙ append_assoc other (47 ∷ []) stop)

pub one_matcher : (subject : Subject) (m other : Matcher) (argument end x stop y : List ℕ) → ReadsMatcher subject m argument end → after_blanks end ≡ 41 ∷ x
    → ReadsMatcher subject other argument stop → after_blanks stop ≡ 41 ∷ y → (other ≡ m) × (y ≡ x)
one_matcher subject m other argument end x stop y (compares, inl (is, signed)) closes (compares_too, inl (is_too, signed_too)) closes_too =
    let first = signed_first m.comparison m.text argument end signed in
    let next = signed_first other.comparison other.text argument stop signed_too in
    let kinds : other.comparison ≡ m.comparison =
    sym (sign_tells other.comparison) ∙ ap by_sign (same_first (sign other.comparison) (sign m.comparison) (after_blanks argument) next.0 first.0 next.1 first.1) ∙ sign_tells m.comparison in
    let one = one_signed m.comparison m.text other.text argument end x stop y signed closes (subst (λ (k : Comparison). ReadsSigned k other.text argument stop) kinds signed_too) closes_too in
    (matcher_same other m.comparison false m.text kinds is_too one.0 ∙ sym (matcher_same m m.comparison false m.text refl is refl), one.1)
one_matcher subject m other argument end x stop y (compares, inl (is, signed)) closes (compares_too, inr (is_too, kind_too, alone)) closes_too =
    let first = signed_first m.comparison m.text argument end signed in
    absurd (bare_apart m.comparison alone.raw argument stop first.0 alone.place alone.spelled.some alone.unsigned first.1)
one_matcher subject m other argument end x stop y (compares, inr (is, kind_is, alone)) closes (compares_too, inl (is_too, signed)) closes_too =
    let first = signed_first other.comparison other.text argument stop signed in
    absurd (bare_apart other.comparison alone.raw argument end first.0 alone.place alone.spelled.some alone.unsigned first.1)
one_matcher subject m other argument end x stop y (compares, inr (is, kind_is, alone)) closes (compares_too, inr (is_too, kind_too, beside)) closes_too =
    let one = one_spelled argument alone.raw m.text end x beside.raw other.text stop y alone.place alone.spelled closes beside.place beside.spelled closes_too in
    (matcher_same other (bare subject) true m.text kind_too is_too one.0 ∙ sym (matcher_same m (bare subject) true m.text kind_is is refl), one.1)

-- ---- platforms

pub one_platform : (platform other : BuildPlatform) (argument end x stop y : List ℕ) → ReadsPlatform platform argument end → after_blanks end ≡ 41 ∷ x
    → ReadsPlatform other argument stop → after_blanks stop ≡ 41 ∷ y → (other ≡ platform) × (y ≡ x)
one_platform platform other argument end x stop y (raw, there, spelled) closes (raw_too, there_too, spelled_too) closes_too =
    let one = one_spelled argument raw (platform_word platform) end x raw_too (platform_word other) stop y there spelled closes there_too spelled_too closes_too in
    (same_platform other platform one.0, one.1)
