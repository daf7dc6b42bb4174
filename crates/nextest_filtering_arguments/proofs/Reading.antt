-- A text as an argument: what was read, and that nothing else stands there.
use Rattle.std.proofs.Common.{◌≡◌, ◌≢◌, refl, ℕ, ◌+◌, ◌≤◌, Bool, true, false, eqb, not, ◌&&◌, List, [], ◌∷◌, ◌++◌, length, sym, ap, subst, ◌∙◌, arith, rules, append_assoc, length-append}
use Rattle.std.proofs.lemmas.Bool.{false≢true}
use Rattle.nextest_filtering_escapes.specs.Text.{IsText, is_end}
use Rattle.nextest_filtering_escapes.specs.Ends.{Stops, is_unended, IsUnended, IsOnlyText}
use Rattle.nextest_filtering_escapes.specs.declared.escapes.EscapeSpan.{EscapeSpan}
use Rattle.nextest_filtering_escapes.proofs.Pieces.{plain_around, one_text}
use Rattle.nextest_filtering_ast.specs.declared.leaf.SourceSpan.{SourceSpan}
use Rattle.nextest_filtering_ast.specs.Grammar.{after_blanks, Behind}
use Rattle.nextest_filtering_arguments.specs.Blanks.{IsTrimmed}
use Rattle.nextest_filtering_arguments.specs.Faults.{IsSuffix, here, Lies}
use Rattle.nextest_filtering_arguments.specs.Texts.{IsPlaced, IsLookedAt, IsMeant, IsTextArgument}
use Rattle.nextest_filtering_arguments.proofs.Spans.{suffix_trans, suffix_unblanked, here_lies}
use Rattle.nextest_filtering_arguments.proofs.Trimming.{trimmed_once}
use Rattle.nextest_filtering_arguments.proofs.Cutting.{blanks_before, unblanked_past, unblanked_bare, unblanked_stops, text_cut}

-- a prefix of bytes with no end of a text has none
unended_part : (escaped : Bool) (a b : List ℕ) → is_unended escaped (a ++ b) ≡ true → is_unended escaped a ≡ true
unended_part true [] b is = refl
unended_part false [] b is = refl
unended_part true (byte ∷ a) b is = unended_part false a b is
unended_part false (byte ∷ a) b is = by_end (is_end byte) (λ (e : Bool). unended_part e a b) is where
  by_end : (e : Bool) → ((escaped : Bool) → is_unended escaped (a ++ b) ≡ true → is_unended escaped a ≡ true) → (not e && is_unended (eqb byte 92) (a ++ b)) ≡ true → (not e && is_unended (eqb byte 92) a) ≡ true
  by_end true next is = absurd (false≢true is)
  by_end false next is = next (eqb byte 92) is

trimmed_unended : (whole raw : List ℕ) → IsUnended whole → IsTrimmed whole raw → IsUnended raw
trimmed_unended whole raw none trimmed = unended_part false raw trimmed.1.0 (subst IsUnended trimmed.1.2 none)

not_empty : {X : Type 0} (xs : List X) (b : Bool) → b ≡ eqb (length xs) 0 → b ≡ false → xs ≢ []
not_empty {X = X} xs b is fails none = false≢true (sym fails ∙ is ∙ ap (λ (l : List X). eqb (length l) 0) none)

empty : {X : Type 0} (xs : List X) (b : Bool) → b ≡ eqb (length xs) 0 → b ≡ true → xs ≡ []
empty [] b is holds = refl
empty (x ∷ xs) b is holds = Prim.search rules

-- an empty text, which was told
pub empty_meant : (raw found : List ℕ) (old new : ℕ) (b : Bool) → b ≡ eqb (length raw) 0 → b ≡ true → new ≡ old + 1 → IsMeant raw old new found
empty_meant raw found old new b raw_is none told = record {
  more = Prim.omega (arith, told);
  reads = λ same. absurd (Prim.omega (arith, told, same));
  only = λ other some _. absurd (some (empty raw b raw_is none));
}

-- a text with no bad escape
pub good_meant : (whole raw found : List ℕ) (bad : List EscapeSpan) (n : ℕ) (b e : Bool) → b ≡ eqb (length raw) 0 → b ≡ false → e ≡ eqb (length bad) 0 → e ≡ true
    → IsUnended whole → IsTrimmed whole raw → (bad ≡ [] → IsUnended raw → IsText raw found) → IsMeant raw n n found
good_meant whole raw found bad n b e raw_is some bad_is none is_unended trimmed stands =
    let text = stands (empty bad e bad_is none) (trimmed_unended whole raw is_unended trimmed) in
    record {
      more = Prim.omega arith;
      reads = λ _. (not_empty raw b raw_is some, text);
      only = λ other _ has. (refl, one_text raw other found has text);
    }

-- one that has some, which were told
pub bad_meant : (whole raw found : List ℕ) (bad : List EscapeSpan) (old new : ℕ) (e : Bool) → e ≡ eqb (length bad) 0 → e ≡ false
    → IsUnended whole → IsTrimmed whole raw → (bad ≢ [] → (text : List ℕ) → IsText raw text → ⊥) → IsLookedAt whole old new → IsMeant raw old new found
bad_meant whole raw found bad old new e bad_is some is_unended trimmed never looked =
    let no_text = never (not_empty bad e bad_is some) in
    record {
      more = looked.more;
      reads = λ same.
          let whole_text = looked.good same is_unended in
          let cut = text_cut raw trimmed.1.0 whole_text.0 trimmed.1.1 (subst (λ (l : List ℕ). IsText l whole_text.0) trimmed.1.2 whole_text.1) in
          absurd (no_text cut.0 cut.1);
      only = λ other _ has. absurd (no_text other has);
    }

-- the span of what was read lies in the input
pub argument_lies : (input ahead whole rest raw : List ℕ) (span : SourceSpan) → span ≡ here input ahead (length raw) → IsSuffix ahead input
    → ahead ≡ whole ++ rest → IsTrimmed whole raw → Lies input span
argument_lies input ahead whole rest raw span is suffix parts trimmed =
    let blanks = trimmed.1.0 in
    let short : length raw ≤ length ahead =
    Prim.omega (arith, ap length parts, length-append whole rest, ap length trimmed.1.2, length-append raw blanks) in
    subst (Lies input) (sym is) (here_lies input ahead (length raw) suffix short)

-- and holds it
pub argument_placed : (input text ahead whole rest raw : List ℕ) (span : SourceSpan) → span ≡ here input ahead (length raw) → ahead ≡ after_blanks text
    → ahead ≡ whole ++ rest → IsTrimmed whole raw → IsPlaced input text rest span
argument_placed input text ahead whole rest raw span is skipped parts (bare, (blanks, all, whole_is)) = (
  raw,
  blanks,
  sym skipped ∙ parts ∙ ap (λ (l : List ℕ). l ++ rest) whole_is ∙ append_assoc raw blanks rest,
  bare,
  all,
  is ∙ ap (λ (l : List ℕ). here input l (length raw)) skipped,
)

pub argument_reads : (text ahead whole rest raw found : List ℕ) (old new : ℕ) → ahead ≡ after_blanks text → ahead ≡ whole ++ rest → Stops rest
    → IsOnlyText ahead whole rest → IsTrimmed whole raw → IsMeant raw old new found → IsTextArgument text old new found rest
argument_reads text ahead whole rest raw found old new is parts stops sole (bare, (blanks, all, whole_is)) meant =
    let place : Behind raw text (blanks ++ rest) =
    sym is ∙ parts ∙ ap (λ (l : List ℕ). l ++ rest) whole_is ∙ append_assoc raw blanks rest in
    record {
      more = meant.more;
      behind = suffix_trans rest ahead text (whole, parts) (subst (λ (l : List ℕ). IsSuffix l text) (sym is) (suffix_unblanked text));
      stops = stops;
      reads = λ same. (
        raw,
        blanks ++ rest,
        place,
        record {
          begins = λ behind byte raw_is. unblanked_bare text byte (behind ++ (blanks ++ rest)) (place ∙ ap (λ (l : List ℕ). l ++ (blanks ++ rest)) raw_is);
          ends = bare;
          some = (meant.reads same).0;
          stands = (meant.reads same).1;
        },
        unblanked_past blanks rest all ∙ unblanked_stops rest stops,
      );
      only = λ spelling other end x there spelled closes.
          let around = blanks_before end in
          let split : ahead ≡ (spelling ++ around.0) ++ 41 ∷ x =
          is ∙ there ∙ ap (λ (l : List ℕ). spelling ++ l) (around.2 ∙ ap (λ (l : List ℕ). around.0 ++ l) closes) ∙ sym (append_assoc spelling around.0 (41 ∷ x)) in
          let has : IsText (spelling ++ around.0) (other ++ around.0) = plain_around [] spelling around.0 other tt around.1 spelled.stands in
          let same = sole (spelling ++ around.0) (other ++ around.0) (41 ∷ x) has refl split in
          let raws : spelling ≡ raw = trimmed_once spelling raw around.0 blanks spelled.ends bare around.1 all (same.0 ∙ whole_is) in
          let known = meant.only other (subst (λ (l : List ℕ). l ≢ []) raws spelled.some) (subst (λ (l : List ℕ). IsText l other) raws spelled.stands) in
          (known.0, known.1, closes ∙ same.1);
    }
