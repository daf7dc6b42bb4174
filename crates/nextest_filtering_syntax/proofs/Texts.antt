-- How a predicate prints: it is read as what it is.
use Rattle.std.proofs.Common.{◌≡◌, ◌≢◌, ℕ, ◌≤◌, Bool, true, false, eqb, List, [], ◌∷◌, ◌++◌, length, refl, sym, ap, ◌∙◌, subst, arith, inl, inr, length-append}
use Rattle.std.specs.Prelude.{codes}
use Rattle.std.specs.List.{flat_map}
use Rattle.std.proofs.lemmas.Bool.{or_from, false≢true, cond-false, ne_eqb}
use Rattle.std.proofs.lemmas.List.{append_assoc}
use Rattle.std.proofs.lemmas.Str.{length-encode, len_utf8_bounds}
use Rattle.nextest_filtering_escapes.specs.Text.{Piece, Plain, Escaped, Unicode, spelling, meaning, is_blank}
use Rattle.nextest_filtering_escapes.specs.Printing.{text_with_escapes, regex_text_of}
use Rattle.nextest_filtering_escapes.proofs.Shown.{escaped_reads_back, escaped_has_no_blank_ends}
use Rattle.nextest_filtering_ast.specs.declared.leaf.BuildPlatform.{BuildPlatform}
use Rattle.nextest_filtering_ast.specs.declared.leaf.BuildPlatform.TheVariants.{Host, Target}
use Rattle.nextest_filtering_ast.specs.Tree.{Comparison, equal, contains, glob, regex, Matcher, Subject, package_name, dependencies, dependents, kind, binary_name, binary_id, test_name, group, Leaf, matching, built_for, default_filter, everything, nothing}
use Rattle.nextest_filtering_ast.specs.Words.{platform_word}
use Rattle.nextest_filtering_ast.specs.Grammar.{after_blanks, Behind, is_sign, bare, Spells, ReadsSigned, ReadsBare, ReadsMatcher, leaf_word, ReadsArgument, ReadsLeaf}
use Rattle.nextest_filtering_ast.specs.Printing.{printed_as, printed_argument, printed_leaf}
use Rattle.nextest_filtering_syntax.specs.Laws.{is_text_sign, IsUnsigned, HasUnsignedText}

-- ---- a text

piece_some : (piece : Piece) → 1 ≤ length (meaning piece)
piece_some (Plain byte) = omega arith
piece_some (Escaped letter meant) = omega arith
piece_some (Unicode digits scalar) = omega (arith, length-encode scalar, (len_utf8_bounds scalar).0)

some_pieces : (raw text : List ℕ) (pieces : List Piece) → raw ≢ [] → raw ≡ flat_map spelling pieces → text ≡ flat_map meaning pieces → text ≢ []
some_pieces raw text [] some spelled meant none = some spelled
some_pieces raw text (piece ∷ pieces) some spelled meant none =
    let long = ap length (sym meant ∙ none) in
    let counted = length-append (meaning piece) (flat_map meaning pieces) in
    omega (arith, long, counted, piece_some piece)

-- what is spelled isn't empty
some_text : (raw text : List ℕ) → Spells raw text → text ≢ []
some_text raw text spells = some_pieces raw text spells.stands.pieces spells.some spells.stands.spelled spells.stands.meant

escaped_spells : (text : List ℕ) → text ≢ [] → Spells (text_with_escapes text) text
escaped_spells text some =
    let shown = escaped_has_no_blank_ends text in record {
      begins = λ rest byte is. shown.3.0 byte rest is;
      ends = λ front byte is. shown.3.1 front byte is;
      some = λ none. some (shown.0.0 none);
      stands = escaped_reads_back text;
    }

unblanked_front : (front rest : List ℕ) → front ≢ [] → ((behind : List ℕ) (byte : ℕ) → front ≡ byte ∷ behind → is_blank byte ≡ false) → after_blanks (front ++ rest) ≡ front ++ rest
unblanked_front [] rest some begins = absurd (some refl)
unblanked_front (byte ∷ front) rest some begins = cond-false (is_blank byte) (after_blanks (front ++ rest)) (byte ∷ (front ++ rest)) (begins front byte refl)

escaped_stands : (text rest : List ℕ) → text ≢ [] → Behind (text_with_escapes text) (text_with_escapes text ++ rest) rest
escaped_stands text rest some = let spelled = escaped_spells text some in unblanked_front (text_with_escapes text) rest spelled.some spelled.begins

-- ---- a matcher

signed_prints : (c : Comparison) (text argument end rest : List ℕ) → ReadsSigned c text argument end
    → ReadsSigned c text (printed_as c false text ++ 41 ∷ rest) (41 ∷ rest)
signed_prints equal text argument end rest (raw, behind, opens, place, spells) =
    let some = some_text raw text spells in (text_with_escapes text, text_with_escapes text ++ 41 ∷ rest, refl, escaped_stands text (41 ∷ rest) some, escaped_spells text some)
signed_prints contains text argument end rest (raw, behind, opens, place, spells) =
    let some = some_text raw text spells in (text_with_escapes text, text_with_escapes text ++ 41 ∷ rest, refl, escaped_stands text (41 ∷ rest) some, escaped_spells text some)
signed_prints glob text argument end rest (raw, behind, opens, place, spells) =
    let some = some_text raw text spells in (text_with_escapes text, text_with_escapes text ++ 41 ∷ rest, refl, escaped_stands text (41 ∷ rest) some, escaped_spells text some)
signed_prints regex text argument end rest (raw, place, is) = (regex_text_of text, refl, (refl, is.1))

-- a text without a sign prints without one
bare_unsigned : (text : List ℕ) → ((first : ℕ) (rest : List ℕ) → text ≡ first ∷ rest → is_text_sign first ≡ false)
    → (behind : List ℕ) (byte : ℕ) → text_with_escapes text ≡ byte ∷ behind → is_sign byte ≡ false
bare_unsigned text unsigned behind byte is =
    let shown = escaped_has_no_blank_ends text in
    elim (shown.1 byte behind is) [
      | inl back ↦ subst (λ (b : ℕ). is_sign b ≡ false) (sym back) refl
      | inr (more, begins) ↦ or_from (is_text_sign byte) (eqb byte 47) (unsigned byte more begins)
          (ne_eqb byte 47 (λ same. shown.2 behind (is ∙ ap (λ (b : ℕ). b ∷ behind) same)))
    ]

bare_prints : (text argument end rest : List ℕ) → ((first : ℕ) (more : List ℕ) → text ≡ first ∷ more → is_text_sign first ≡ false)
    → ReadsBare text argument end → ReadsBare text (text_with_escapes text ++ 41 ∷ rest) (41 ∷ rest)
bare_prints text argument end rest unsigned reads =
    let some = some_text reads.raw text reads.spelled in record {
      raw = text_with_escapes text;
      place = escaped_stands text (41 ∷ rest) some;
      spelled = escaped_spells text some;
      unsigned = bare_unsigned text unsigned;
    }

-- no regular expression stands without its slashes
bare_is_no_regex : (subject : Subject) → regex ≡ bare subject → ⊥
bare_is_no_regex package_name same = cc
bare_is_no_regex dependencies same = cc
bare_is_no_regex dependents same = cc
bare_is_no_regex kind same = cc
bare_is_no_regex binary_name same = cc
bare_is_no_regex binary_id same = cc
bare_is_no_regex test_name same = cc
bare_is_no_regex group same = cc

pub printed_bare : (subject : Subject) (c : Comparison) (text : List ℕ) → c ≡ bare subject → printed_as c true text ≡ text_with_escapes text
printed_bare subject equal text same = refl
printed_bare subject contains text same = refl
printed_bare subject glob text same = refl
printed_bare subject regex text same = absurd (bare_is_no_regex subject same)

-- a matcher of its parts
abbrev matcher : Comparison → Bool → List ℕ → Matcher
matcher c implicit text = record { comparison = c; implicit = implicit; text = text }

matcher_prints : (subject : Subject) (c : Comparison) (implicit : Bool) (text argument end rest : List ℕ) → IsUnsigned (matcher c implicit text)
    → ReadsMatcher subject (matcher c implicit text) argument end
    → ReadsMatcher subject (matcher c implicit text) (printed_as c implicit text ++ 41 ∷ rest) (41 ∷ rest)
matcher_prints subject c false text argument end rest unsigned (compares, inl (is, reads)) = (compares, inl (refl, signed_prints c text argument end rest reads))
matcher_prints subject c false text argument end rest unsigned (compares, inr (is, same, reads)) = absurd (false≢true is)
matcher_prints subject c true text argument end rest unsigned (compares, inl (is, reads)) = absurd (false≢true (sym is))
matcher_prints subject c true text argument end rest unsigned (compares, inr (is, same, reads)) = (
  compares,
  inr (
    refl,
    same,
    subst (λ (shown : List ℕ). ReadsBare text (shown ++ 41 ∷ rest) (41 ∷ rest)) (sym (printed_bare subject c text same))
        (bare_prints text argument end rest (unsigned refl) reads),
  ),
)

-- ---- a predicate

platform_stands : (platform : BuildPlatform) (rest : List ℕ) → Behind (platform_word platform) (platform_word platform ++ rest) rest
platform_stands Host rest = refl
platform_stands Target rest = refl

platform_spelled : (platform : BuildPlatform) → Spells (platform_word platform) (platform_word platform)
platform_spelled Host = escaped_spells (codes "host") (λ none. cc)
platform_spelled Target = escaped_spells (codes "target") (λ none. cc)

argument_prints : (it : Leaf) (argument end rest : List ℕ) → HasUnsignedText it → ReadsArgument it argument end
    → ReadsArgument it (printed_argument it ++ 41 ∷ rest) (41 ∷ rest)
argument_prints (matching subject m) argument end rest unsigned reads =
    matcher_prints subject m.comparison m.implicit m.text argument end rest unsigned reads
argument_prints (built_for platform) argument end rest unsigned reads = (platform_word platform, platform_stands platform (41 ∷ rest), platform_spelled platform)
argument_prints default_filter argument end rest unsigned reads = refl
argument_prints everything argument end rest unsigned reads = refl
argument_prints nothing argument end rest unsigned reads = refl

pub word_stands : (it : Leaf) (rest : List ℕ) → after_blanks (leaf_word it ++ rest) ≡ leaf_word it ++ rest
word_stands (matching package_name m) rest = refl
word_stands (matching dependencies m) rest = refl
word_stands (matching dependents m) rest = refl
word_stands (matching kind m) rest = refl
word_stands (matching binary_name m) rest = refl
word_stands (matching binary_id m) rest = refl
word_stands (matching test_name m) rest = refl
word_stands (matching group m) rest = refl
word_stands (built_for platform) rest = refl
word_stands default_filter rest = refl
word_stands everything rest = refl
word_stands nothing rest = refl

pub parts_of : (word argument rest : List ℕ) → (word ++ codes "(" ++ argument ++ codes ")") ++ rest ≡ word ++ 40 ∷ (argument ++ 41 ∷ rest)
parts_of word argument rest =
    append_assoc (word ++ codes "(" ++ argument) (codes ")") rest ∙ append_assoc (word ++ codes "(") argument (41 ∷ rest)
    ∙ append_assoc word (codes "(") (argument ++ 41 ∷ rest)

pub leaf_prints : (it : Leaf) (text end rest : List ℕ) → HasUnsignedText it → ReadsLeaf it text end → ReadsLeaf it (printed_leaf it ++ rest) rest
leaf_prints it text end rest unsigned reads = record {
  named = 40 ∷ (printed_argument it ++ 41 ∷ rest);
  opened = printed_argument it ++ 41 ∷ rest;
  read = 41 ∷ rest;
  name = ap after_blanks (parts_of (leaf_word it) (printed_argument it) rest) ∙ word_stands it (40 ∷ (printed_argument it ++ 41 ∷ rest));
  opens = refl;
  argument = argument_prints it reads.opened reads.read rest unsigned reads.argument;
  closes = refl;
}
