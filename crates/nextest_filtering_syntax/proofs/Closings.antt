-- A `)` that stands or doesn't.
use Rattle.std.specs.Prelude.{◌≡◌, refl, ℕ, ◌+◌, ◌≤◌, List, [], ◌∷◌, ◌++◌, length, take, drop}
use Rattle.std.proofs.Common.{arith, length-append}
use Rattle.std.proofs.Math.Path.{ap, sym, subst, ◌∙◌}
use Rattle.std.proofs.lemmas.List.{take-append-drop, append-nil}
use Rattle.nextest_filtering_ast.specs.Grammar.{after_blanks}
use Rattle.nextest_filtering_arguments.specs.Blanks.{IsTrimmed}
use Rattle.nextest_filtering_arguments.specs.Faults.{IsSuffix}
use Rattle.nextest_filtering_arguments.proofs.Fronts.{apart, same_rest}
use Rattle.nextest_filtering_arguments.proofs.Spans.{suffix_token, suffix_trans, suffix_unblanked}
use Rattle.nextest_filtering_syntax.specs.Parsing.{IsClosed}

pub closed : (text ahead rest : List ℕ) (n : ℕ) → ahead ≡ after_blanks text → ahead ≡ 41 ∷ rest → IsClosed text n n rest
closed text ahead rest n is e = record {
  more = Prim.omega arith;
  behind = suffix_token (41 ∷ []) rest text (sym is ∙ e);
  reads = λ _. sym is ∙ e;
  only = λ end f. (refl, same_rest 41 41 _ _ _ f (sym is ∙ e));
}

pub not_closed : (text ahead : List ℕ) (old new : ℕ) → ahead ≡ after_blanks text → ((rest : List ℕ) → ahead ≡ 41 ∷ rest → ⊥) → new ≡ old + 1 → IsClosed text old new text
not_closed text ahead old new is none more = record {
  more = Prim.omega (arith, more);
  behind = ([], refl);
  reads = λ same. absurd (Prim.omega (arith, more, same));
  only = λ end f. absurd (none end (is ∙ f));
}

-- where a comma stands, no `)` does
pub comma_closed : (text ahead behind part rest : List ℕ) (old now new : ℕ) → ahead ≡ after_blanks text → ahead ≡ 44 ∷ behind → IsSuffix part behind → now ≡ old + 1
    → IsClosed part now new rest → IsClosed text old new rest
comma_closed text ahead behind part rest old now new is e within more closed = record {
  more = Prim.omega (arith, more, closed.more);
  behind = suffix_trans rest part text closed.behind (suffix_trans part behind text within (suffix_token (44 ∷ []) behind text (sym is ∙ e)));
  reads = λ same. absurd (Prim.omega (arith, more, closed.more, same));
  only = λ end f. absurd (apart 44 41 _ _ _ refl (sym is ∙ e) f);
}

-- a text that is cut is its two parts
pub cut : (n : ℕ) (text front rest : List ℕ) → front ≡ take n text → rest ≡ drop n text → text ≡ front ++ rest
cut n text front rest e f = sym (take-append-drop n text) ∙ (ap (λ l. l ++ drop n text) (sym e) ∙ ap (λ l. front ++ l) (sym f))

pub whole_cut : (text : List ℕ) → text ≡ text ++ []
whole_cut text = sym (append-nil text)

-- the second part is a rest
pub suffix_cut : (front rest text : List ℕ) → text ≡ front ++ rest → IsSuffix rest text
suffix_cut front rest text e = (front, e)

-- and what stands behind its blanks
pub suffix_front : (ahead text : List ℕ) → ahead ≡ after_blanks text → IsSuffix ahead text
suffix_front ahead text is = subst (λ l. IsSuffix l text) (sym is) (suffix_unblanked text)

-- what is left of the first part without blanks at its end is no longer than the text
pub trimmed_fits : (front rest text trimmed : List ℕ) → text ≡ front ++ rest → IsTrimmed front trimmed → length trimmed ≤ length text
trimmed_fits front rest text trimmed e known =
    Prim.omega (arith, ap length e, length-append front rest, ap length known.1.2, length-append trimmed known.1.0)
