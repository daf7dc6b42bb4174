-- What a token that begins with a character is.
use Rattle.std.proofs.Common.{◌≡◌, ℕ, ◌==◌, Bool, false, List, [], ◌∷◌, subst, sym, ◌∙◌, refl, ap, IsTrue}
use Rattle.std.proofs.lemmas.Bool.{eqb-false, false≢true, both_ways}
use mathlib.Core.Logic.{inl, inr}
use Rattle.nextest_filtering_globs.specs.declared.token.ClassRange.{ClassRange}
use Rattle.nextest_filtering_globs.specs.declared.token.GlobToken.{GlobToken}
use Rattle.nextest_filtering_globs.specs.declared.token.GlobToken.TheVariants as token
use Rattle.nextest_filtering_globs.specs.Signs.{is_ordinary}
use Rattle.nextest_filtering_globs.specs.Syntax.{Spells, SpellsClass}

pub head_same : {x y : ℕ} {xs ys : List ℕ} → x ∷ xs ≡ y ∷ ys → x ≡ y
head_same e = cc

pub tail_same : {x y : ℕ} {xs ys : List ℕ} → x ∷ xs ≡ y ∷ ys → xs ≡ ys
tail_same e = cc

-- an ordinary character is no sign
no_sign : {A : Type 0} (inside : Bool) (c d : ℕ) {xs ys : List ℕ} → c ∷ xs ≡ d ∷ ys → IsTrue (is_ordinary inside c)
    → is_ordinary inside d ≡ false → A
no_sign inside c d e ordinary sign =
    absurd (false≢true (sym sign ∙ (ap (is_ordinary inside) (sym (head_same e)) ∙ ordinary)))

-- two characters that differ
apart : {A : Type 0} (x y : ℕ) {xs ys : List ℕ} → x ∷ xs ≡ y ∷ ys → (x == y) ≡ false → A
apart x y e differs = absurd (eqb-false x y differs (head_same e))

-- a token has a character
pub never_empty : {A : Type 0} (inside : Bool) (t : GlobToken) (text rest : List ℕ) → text ≡ []
    → Spells inside t text rest → A
never_empty inside (token.Literal c) text rest e (inl h) = let k = h.0 in absurd cc
never_empty inside (token.Literal c) text rest e (inr h) = absurd cc
never_empty inside token.Any text rest e h = absurd cc
never_empty inside token.ZeroOrMore text rest e h = absurd cc
never_empty inside (token.Class negated ranges) text rest e h = let k = h.1 in absurd cc
never_empty inside token.Open text rest e h = absurd cc
never_empty inside token.Or text rest e h = let k = h.0 in absurd cc
never_empty inside token.Close text rest e h = let k = h.0 in absurd cc

pub only-question : (inside : Bool) (t : GlobToken) (text rest : List ℕ) → Spells inside t (63 ∷ text) rest
    → (t ≡ token.Any) × (rest ≡ text)
only-question inside (token.Literal c) text rest (inl h) = no_sign inside c 63 (sym h.0) h.1 refl
only-question inside (token.Literal c) text rest (inr h) = apart 63 92 h refl
only-question inside token.Any text rest h = (refl, sym (tail_same h))
only-question inside token.ZeroOrMore text rest h = apart 63 42 h refl
only-question inside (token.Class negated ranges) text rest h = apart 63 91 h.1 refl
only-question inside token.Open text rest h = apart 63 123 h refl
only-question inside token.Or text rest h = apart 63 44 h.0 refl
only-question inside token.Close text rest h = apart 63 125 h.0 refl

pub only-asterisk : (inside : Bool) (t : GlobToken) (text rest : List ℕ) → Spells inside t (42 ∷ text) rest
    → (t ≡ token.ZeroOrMore) × (rest ≡ text)
only-asterisk inside (token.Literal c) text rest (inl h) = no_sign inside c 42 (sym h.0) h.1 refl
only-asterisk inside (token.Literal c) text rest (inr h) = apart 42 92 h refl
only-asterisk inside token.Any text rest h = apart 42 63 h refl
only-asterisk inside token.ZeroOrMore text rest h = (refl, sym (tail_same h))
only-asterisk inside (token.Class negated ranges) text rest h = apart 42 91 h.1 refl
only-asterisk inside token.Open text rest h = apart 42 123 h refl
only-asterisk inside token.Or text rest h = apart 42 44 h.0 refl
only-asterisk inside token.Close text rest h = apart 42 125 h.0 refl

pub only-open : (inside : Bool) (t : GlobToken) (text rest : List ℕ) → Spells inside t (123 ∷ text) rest
    → (t ≡ token.Open) × (rest ≡ text)
only-open inside (token.Literal c) text rest (inl h) = no_sign inside c 123 (sym h.0) h.1 refl
only-open inside (token.Literal c) text rest (inr h) = apart 123 92 h refl
only-open inside token.Any text rest h = apart 123 63 h refl
only-open inside token.ZeroOrMore text rest h = apart 123 42 h refl
only-open inside (token.Class negated ranges) text rest h = apart 123 91 h.1 refl
only-open inside token.Open text rest h = (refl, sym (tail_same h))
only-open inside token.Or text rest h = apart 123 44 h.0 refl
only-open inside token.Close text rest h = apart 123 125 h.0 refl

pub only-close : (inside : Bool) (t : GlobToken) (text rest : List ℕ) → Spells inside t (125 ∷ text) rest
    → (t ≡ token.Close) × (rest ≡ text) × IsTrue inside
only-close inside (token.Literal c) text rest (inl h) = no_sign inside c 125 (sym h.0) h.1 refl
only-close inside (token.Literal c) text rest (inr h) = apart 125 92 h refl
only-close inside token.Any text rest h = apart 125 63 h refl
only-close inside token.ZeroOrMore text rest h = apart 125 42 h refl
only-close inside (token.Class negated ranges) text rest h = apart 125 91 h.1 refl
only-close inside token.Open text rest h = apart 125 123 h refl
only-close inside token.Or text rest h = apart 125 44 h.0 refl
only-close inside token.Close text rest h = (refl, sym (tail_same h.0), h.1)

pub only-or : (inside : Bool) → IsTrue inside → (t : GlobToken) (text rest : List ℕ) → Spells inside t (44 ∷ text) rest
    → (t ≡ token.Or) × (rest ≡ text)
only-or inside within (token.Literal c) text rest (inl h) = no_sign inside c 44 (sym h.0) h.1 (ap (λ b. is_ordinary b 44) within)
only-or inside within (token.Literal c) text rest (inr h) = apart 44 92 h refl
only-or inside within token.Any text rest h = apart 44 63 h refl
only-or inside within token.ZeroOrMore text rest h = apart 44 42 h refl
only-or inside within (token.Class negated ranges) text rest h = apart 44 91 h.1 refl
only-or inside within token.Open text rest h = apart 44 123 h refl
only-or inside within token.Or text rest h = (refl, sym (tail_same h.0))
only-or inside within token.Close text rest h = apart 44 125 h.0 refl

pub only-escaped : (inside : Bool) (t : GlobToken) (text rest : List ℕ) → Spells inside t (92 ∷ text) rest
    → (c : ℕ) × (t ≡ token.Literal c) × (text ≡ c ∷ rest)
only-escaped inside (token.Literal c) text rest (inl h) = no_sign inside c 92 (sym h.0) h.1 refl
only-escaped inside (token.Literal c) text rest (inr h) = (c, refl, tail_same h)
only-escaped inside token.Any text rest h = apart 92 63 h refl
only-escaped inside token.ZeroOrMore text rest h = apart 92 42 h refl
only-escaped inside (token.Class negated ranges) text rest h = apart 92 91 h.1 refl
only-escaped inside token.Open text rest h = apart 92 123 h refl
only-escaped inside token.Or text rest h = apart 92 44 h.0 refl
only-escaped inside token.Close text rest h = apart 92 125 h.0 refl

pub only-class : (inside : Bool) (t : GlobToken) (text rest : List ℕ) → Spells inside t (91 ∷ text) rest
    → (negated : Bool) × (ranges : List ClassRange) × (t ≡ token.Class negated ranges)
    × SpellsClass negated ranges text rest
only-class inside (token.Literal c) text rest (inl h) = no_sign inside c 91 (sym h.0) h.1 refl
only-class inside (token.Literal c) text rest (inr h) = apart 91 92 h refl
only-class inside token.Any text rest h = apart 91 63 h refl
only-class inside token.ZeroOrMore text rest h = apart 91 42 h refl
only-class inside (token.Class negated ranges) text rest h =
    (negated, ranges, refl, subst (λ x. SpellsClass negated ranges x rest) (sym (tail_same h.1)) h.2)
only-class inside token.Open text rest h = apart 91 123 h refl
only-class inside token.Or text rest h = apart 91 44 h.0 refl
only-class inside token.Close text rest h = apart 91 125 h.0 refl

pub only-ordinary : (inside : Bool) (t : GlobToken) (c : ℕ) (text rest : List ℕ) → IsTrue (is_ordinary inside c)
    → Spells inside t (c ∷ text) rest → (t ≡ token.Literal c) × (rest ≡ text)
only-ordinary inside (token.Literal d) c text rest plain (inl h) =
    (ap token.Literal (sym (head_same h.0)), sym (tail_same h.0))
only-ordinary inside (token.Literal d) c text rest plain (inr h) = no_sign inside c 92 h plain refl
only-ordinary inside token.Any c text rest plain h = no_sign inside c 63 h plain refl
only-ordinary inside token.ZeroOrMore c text rest plain h = no_sign inside c 42 h plain refl
only-ordinary inside (token.Class negated ranges) c text rest plain h = no_sign inside c 91 h.1 plain refl
only-ordinary inside token.Open c text rest plain h = no_sign inside c 123 h plain refl
only-ordinary inside token.Or c text rest plain h = no_sign inside c 44 h.0 plain (ap (λ b. is_ordinary b 44) h.1)
only-ordinary inside token.Close c text rest plain h = no_sign inside c 125 h.0 plain refl

-- outside of braces nothing is closed
pub close_none : (inside : Bool) (t : GlobToken) (text rest : List ℕ) → inside ≡ false
    → Spells inside t (125 ∷ text) rest → ⊥
close_none inside t text rest outside h = both_ways inside outside (only-close inside t text rest h).2
