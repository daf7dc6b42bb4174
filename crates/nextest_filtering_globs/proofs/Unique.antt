-- A text is read in one way.
use Rattle.std.proofs.Common.{◌≡◌, ℕ, Bool, List, [], ◌∷◌, subst, sym, ◌∙◌, refl, ap}
use Rattle.std.specs.Prelude.{nat_lt}
use mathlib.Core.Logic.{inl, inr}
use Rattle.nextest_filtering_globs.specs.declared.token.GlobToken.{GlobToken}
use Rattle.nextest_filtering_globs.specs.declared.token.GlobToken.TheVariants as token
use Rattle.nextest_filtering_globs.specs.Syntax.{Spells, SpellsFrom, depth_behind}
use Rattle.nextest_filtering_globs.proofs.Beginnings.{head_same, tail_same, never_empty, only-question, only-asterisk, only-open, only-close, only-or, only-escaped, only-class, only-ordinary}
use Rattle.nextest_filtering_globs.proofs.Splits.{one_class}

moved : (inside : Bool) (t : GlobToken) {x y : List ℕ} (rest : List ℕ) → x ≡ y → Spells inside t x rest
    → Spells inside t y rest
moved inside t rest e h = subst (λ x. Spells inside t x rest) e h

pub one_token : (inside : Bool) (a b : GlobToken) (text r s : List ℕ) → Spells inside a text r → Spells inside b text s
    → (a ≡ b) × (r ≡ s)
one_token inside (token.Literal c) b text r s (inl h) k =
    let both = only-ordinary inside b c r s h.1 (moved inside b s h.0 k) in
    (sym both.0, sym both.1)
one_token inside (token.Literal c) b text r s (inr h) k =
    let both = only-escaped inside b (c ∷ r) s (moved inside b s h k) in
    ((ap token.Literal (head_same both.2) ∙ sym both.1), tail_same both.2)
one_token inside token.Any b text r s h k =
    let both = only-question inside b r s (moved inside b s h k) in
    (sym both.0, sym both.1)
one_token inside token.ZeroOrMore b text r s h k =
    let both = only-asterisk inside b r s (moved inside b s h k) in
    (sym both.0, sym both.1)
one_token inside (token.Class negated ranges) b text r s h k =
    let other = only-class inside b h.0 s (moved inside b s h.1 k) in
    let same = one_class negated other.0 ranges other.1 h.0 r s h.2 other.3 in
    ((ap (λ x. token.Class x ranges) same.0 ∙ (ap (λ x. token.Class other.0 x) same.1 ∙ sym other.2)), same.2)
one_token inside token.Open b text r s h k =
    let both = only-open inside b r s (moved inside b s h k) in
    (sym both.0, sym both.1)
one_token inside token.Or b text r s h k =
    let both = only-or inside h.1 b r s (moved inside b s h.0 k) in
    (sym both.0, sym both.1)
one_token inside token.Close b text r s h k =
    let both = only-close inside b r s (moved inside b s h.0 k) in
    (sym both.0, sym both.1)

-- what follows two readings of one token is the same
followed : (depth : ℕ) (a b : GlobToken) (more : List GlobToken) (r s : List ℕ) → a ≡ b → r ≡ s
    → SpellsFrom (depth_behind depth a) more r → SpellsFrom (depth_behind depth b) more s
followed depth a b more r s e k h =
    subst (λ x. SpellsFrom (depth_behind depth x) more s) e (subst (λ y. SpellsFrom (depth_behind depth a) more y) k h)

pub one_list : (depth : ℕ) (a b : List GlobToken) (text : List ℕ) → SpellsFrom depth a text → SpellsFrom depth b text
    → a ≡ b
one_list depth [] [] text h k = refl
one_list depth [] (b ∷ more_b) text h k = never_empty (nat_lt 0 depth) b text k.0 h.0 k.1
one_list depth (a ∷ more_a) [] text h k = never_empty (nat_lt 0 depth) a text h.0 k.0 h.1
one_list depth (a ∷ more_a) (b ∷ more_b) text h k =
    let same = one_token (nat_lt 0 depth) a b text h.0 k.0 h.1 k.1 in
    let tails : more_a ≡ more_b = one_list (depth_behind depth b) more_a more_b k.0
    (followed depth a b more_a h.0 k.0 same.0 same.1 h.2) k.2 in
    ap (λ x. x ∷ more_a) same.0 ∙ ap (λ xs. b ∷ xs) tails

-- behind a token that was read stands what every list of tokens from there goes on with
pub one_left : (depth : ℕ) (t : GlobToken) (left rest : List ℕ) (more : List GlobToken)
    → Spells (nat_lt 0 depth) t left rest → SpellsFrom depth more left
    → (behind : List GlobToken) × SpellsFrom (depth_behind depth t) behind rest
one_left depth t left rest [] h k = never_empty (nat_lt 0 depth) t left rest k.0 h
one_left depth t left rest (u ∷ us) h k =
    let same = one_token (nat_lt 0 depth) u t left k.0 rest k.1 h in
    (us, followed depth u t us k.0 rest same.0 same.1 k.2)
