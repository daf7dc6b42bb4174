-- Tokens that match one character, at the end of others.
use Rattle.std.proofs.Common.{◌≡◌, ℕ, ◌+◌, ◌-◌, ◌≤◌, true, List, [], ◌∷◌, ◌++◌, ◌⊎◌, length, take, drop, get_or, subst, sym, ◌∙◌, refl, ap, arith}
use Rattle.std.proofs.lemmas.Bool.{false≢true}
use Rattle.std.proofs.lemmas.List.{append_assoc, append-nil, length-append, take-append-drop}
use Rattle.std.proofs.Math.ListN.{drop_of_length-le}
use mathlib.Core.Logic.{inl, inr}
use Rattle.nextest_filtering_globs.specs.declared.token.GlobToken.{GlobToken}
use Rattle.nextest_filtering_globs.specs.declared.token.GlobToken.TheVariants as token
use Rattle.nextest_filtering_globs.specs.Syntax.{depth_behind}
use Rattle.nextest_filtering_globs.specs.Meaning.{Token, literal, any, zero_or_more, class, alternates, Tokens, no_tokens, next_token, Alternatives, last_alternative, next_alternative, flat_token, flat, flat_alternatives, MatchesOne, MatchesAll, Matches}
use Rattle.nextest_filtering_globs.specs.Inside.{fits, is_single, ClosesFrom, IsBalanced, Leaves}
use Rattle.nextest_filtering_globs.proofs.Loops.{from_here}
use Rattle.nextest_filtering_globs.proofs.Singles.{flat_empty, single, single_depth, single_fits, single_flat, single_matches}

never_empty : {A : Type 0} (xs : List A) (x : A) → xs ++ x ∷ [] ≡ [] → ⊥
never_empty xs x e = omega (arith, ap length e, length-append xs (x ∷ []))

-- the last of two lists in a row is the last of the second, or of the first where the second has
-- none
last_of : (xs ys more : List GlobToken) (t : GlobToken) → xs ++ ys ≡ more ++ t ∷ []
    → ((ys ≡ []) × (xs ≡ more ++ t ∷ [])) ⊎ ((left : List GlobToken) × (ys ≡ left ++ t ∷ []) × (more ≡ xs ++ left))
last_of [] ys more t e = inr (more, e, refl)
last_of (x ∷ xs) [] more t e = inl (refl, sym (append-nil (x ∷ xs)) ∙ e)
last_of (x ∷ xs) (y ∷ ys) [] t e =
    absurd (omega (arith, ap length e, length-append xs (y ∷ ys)))
last_of (x ∷ xs) (y ∷ ys) (m ∷ more) t e =
    let same : xs ++ y ∷ ys ≡ more ++ t ∷ [] = cc in
    let first : x ≡ m = cc in
    elim (last_of xs (y ∷ ys) more t same) [
      | inl k ↦ inl (k.0, absurd (let none = k.0 in cc))
      | inr k ↦ inr (k.0, k.1, ap (λ z. m ∷ z) k.2 ∙ ap (λ z. z ∷ (xs ++ k.0)) (sym first))
    ]

last_same : {A : Type 0} (xs ys : List A) (x y : A) → xs ++ x ∷ [] ≡ ys ++ y ∷ [] → (xs ≡ ys) × (x ≡ y)
last_same [] [] x y e = (refl, cc)
last_same [] (b ∷ ys) x y e = absurd (omega (arith, ap length e, length-append ys (y ∷ [])))
last_same (a ∷ xs) [] x y e = absurd (omega (arith, ap length e, length-append xs (x ∷ [])))
last_same (a ∷ xs) (b ∷ ys) x y e =
    let left : xs ++ x ∷ [] ≡ ys ++ y ∷ [] = cc in
    let first : a ≡ b = cc in
    let same = last_same xs ys x y left in
    (ap (λ z. a ∷ z) same.0 ∙ ap (λ z. z ∷ ys) first, same.1)

-- alternatives end with their brace
closing_last : (all : Alternatives) → (front : List GlobToken) × (flat_alternatives all ≡ front ++ token.Close ∷ [])
closing_last (last_alternative tokens) = (flat tokens, refl)
closing_last (next_alternative first more) =
    let ends = closing_last more in (
      flat first ++ token.Or ∷ ends.0,
      ap (λ x. flat first ++ token.Or ∷ x) ends.1 ∙ sym (append_assoc (flat first) (token.Or ∷ ends.0) (token.Close ∷ [])),
    )

-- a part of a glob that ends with such a token is that token
one_last : (first : Token) (more : List GlobToken) (t : GlobToken) → is_single t ≡ true
    → flat_token first ≡ more ++ t ∷ [] → (more ≡ []) × (first ≡ single t)
one_last (literal c) more t s e =
    let same = last_same [] more (token.Literal c) t e in
    (sym same.0, ap single same.1)
one_last any more t s e =
    let same = last_same [] more token.Any t e in
    (sym same.0, ap single same.1)
one_last zero_or_more more t s e =
    let same = last_same [] more token.ZeroOrMore t e in
    absurd (false≢true (ap is_single same.1 ∙ s))
one_last (class negated ranges) more t s e =
    let same = last_same [] more (token.Class negated ranges) t e in
    (sym same.0, ap single same.1)
one_last (alternates all) more t s e =
    let ends = closing_last all in
    let same = last_same (token.Open ∷ ends.0) more token.Close t (ap (λ x. token.Open ∷ x) (sym ends.1) ∙ e) in
    absurd (false≢true (ap is_single same.1 ∙ s))

-- the last character is the one that the last token fits
last_fits : (tree : Tokens) (more : List GlobToken) (t : GlobToken) (text : List ℕ) → is_single t ≡ true
    → flat tree ≡ more ++ t ∷ [] → MatchesAll tree text
    → (front : List ℕ) × (c : ℕ) × (text ≡ front ++ c ∷ []) × (fits t c ≡ true) × Matches more front
last_fits no_tokens more t text s e m = absurd (never_empty more t (sym e))
last_fits (next_token first left) more t text s e m =
    elim (last_of (flat_token first) (flat left) more t e) [
      | inl k ↦
          let one = one_last first more t s k.1 in
          let none : m.1 ≡ [] = flat_empty left m.1 k.0 m.4 in
          let fit = single_fits t m.0 s (subst (λ x. MatchesOne x m.0) one.1 m.3) in
          ([], fit.0, m.2 ∙ (ap (λ x. m.0 ++ x) none ∙ (append-nil m.0 ∙ fit.1)), fit.2, (no_tokens, sym one.0, refl))
      | inr k ↦
          let ends = last_fits left k.0 t m.1 s k.1 m.4 in
          let behind = ends.4 in (
            m.0 ++ ends.0,
            ends.1,
            m.2 ∙ (ap (λ x. m.0 ++ x) ends.2 ∙ sym (append_assoc m.0 ends.0 (ends.1 ∷ []))),
            ends.3,
            (
              next_token first behind.0,
              ap (λ x. flat_token first ++ x) behind.1 ∙ sym k.2,
              (m.0, ends.0, refl, m.3, behind.2),
            ),
          )
    ]

-- a part more at the end
add_last : Tokens → Token → Tokens
add_last no_tokens t = next_token t no_tokens
add_last (next_token first more) t = next_token first (add_last more t)

flat_last : (tree : Tokens) (t : Token) → flat (add_last tree t) ≡ flat tree ++ flat_token t
unfolding add_last
flat_last no_tokens t = append-nil (flat_token t)
flat_last (next_token first more) t =
    ap (λ x. flat_token first ++ x) (flat_last more t) ∙ sym (append_assoc (flat_token first) (flat more) (flat_token t))

matches_last : (tree : Tokens) (t : Token) (front word : List ℕ) → MatchesAll tree front → MatchesOne t word
    → MatchesAll (add_last tree t) (front ++ word)
unfolding add_last
matches_last no_tokens t front word m one =
    (word, [], ap (λ x. x ++ word) m ∙ sym (append-nil word), one, refl)
matches_last (next_token first more) t front word m one =
    (m.0, m.1 ++ word, ap (λ x. x ++ word) m.2 ∙ append_assoc m.0 m.1 word, m.3, matches_last more t m.1 word m.4 one)

last_matches : (t : GlobToken) (more : List GlobToken) (front : List ℕ) (c : ℕ) → is_single t ≡ true → fits t c ≡ true
    → Matches more front → Matches (more ++ t ∷ []) (front ++ c ∷ [])
last_matches t more front c s f m = (
  add_last m.0 (single t),
  flat_last m.0 (single t) ∙ (ap (λ x. x ++ flat_token (single t)) m.1 ∙ ap (λ x. more ++ x) (single_flat t s)),
  matches_last m.0 (single t) front (c ∷ []) m.2 (single_matches t c s f),
)

-- without such a token at the end the others close the same braces
closes_before : (depth : ℕ) (more : List GlobToken) (t : GlobToken) → is_single t ≡ true
    → ClosesFrom depth (more ++ t ∷ []) → ClosesFrom depth more
closes_before depth [] t s h = sym (single_depth depth t s) ∙ h.1
closes_before depth (first ∷ more) t s h = (h.0, closes_before (depth_behind depth first) more t s h.1)

-- a token and a character more are taken off at the end
pub leaves_before : (tokens : List GlobToken) (text : List ℕ) (t : GlobToken) (left more : List GlobToken)
    (rest before : List ℕ) (c : ℕ) → left ≡ more ++ t ∷ [] → rest ≡ before ++ c ∷ [] → is_single t ≡ true
    → fits t c ≡ true → Leaves tokens text left rest → Leaves tokens text more before
leaves_before tokens text t left more rest before c e k s f h = (
  λ b. closes_before 0 more t s (subst IsBalanced e (h.0 b)),
  (
    λ m. let there = h.1.0 m in
        let last = last_fits there.0 more t rest s (there.1 ∙ e) there.2 in
        subst (Matches more) (last_same last.0 before last.1 c (sym last.2 ∙ k)).0 last.4,
    λ m. h.1.1 (subst (λ x. Matches x rest) (sym e)
        (subst (Matches (more ++ t ∷ [])) (sym k) (last_matches t more before c s f m))),
  ),
)

-- the last character doesn't fit
pub none_before : (tokens : List GlobToken) (text : List ℕ) (t : GlobToken) (left more : List GlobToken) (rest : List ℕ)
    → left ≡ more ++ t ∷ [] → is_single t ≡ true
    → ((before : List ℕ) (c : ℕ) → rest ≡ before ++ c ∷ [] → fits t c ≡ true → ⊥)
    → Leaves tokens text left rest → Matches tokens text → ⊥
none_before tokens text t left more rest e s none h m =
    let there = h.1.0 m in
    let last = last_fits there.0 more t rest s (there.1 ∙ e) there.2 in
    none last.0 last.1 last.2 last.3

-- a list by its last place
pub ends_with : (tokens : List GlobToken) (t : GlobToken) → 1 ≤ length tokens → t ≡ get_or tokens (length tokens - 1) t
    → tokens ≡ take (length tokens - 1) tokens ++ t ∷ []
ends_with tokens t some is =
    let i = length tokens - 1 in
    let none : drop (i + 1) tokens ≡ [] = drop_of_length-le tokens {i = i + 1} (omega arith) in
    sym (take-append-drop i tokens)
    ∙ ap (λ x. take i tokens ++ x) (from_here tokens i t (omega arith)
    ∙ (ap (λ x. x ∷ drop (i + 1) tokens) (sym is) ∙ ap (λ x. t ∷ x) none))

pub fewer : (i : ℕ) (tokens : List GlobToken) → length (take i tokens) ≤ length tokens
fewer i tokens = omega (arith, length-append (take i tokens) (drop i tokens), ap length (take-append-drop i tokens))
