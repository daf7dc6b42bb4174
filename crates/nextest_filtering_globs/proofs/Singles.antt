-- Tokens that match one character, at the beginning and at the end of others.
use Rattle.std.proofs.Common.{◌≡◌, ℕ, suc, Bool, true, ◌==◌, List, [], ◌∷◌, ◌++◌, length, subst, sym, ◌∙◌, refl, ap, arith, IsTrue}
use Rattle.std.specs.Prelude.{◌↔◌}
use Rattle.std.proofs.lemmas.Bool.{false≢true, eqb-true}
use Rattle.std.proofs.lemmas.List.{append-nil}
use Rattle.nextest_filtering_globs.specs.declared.token.GlobToken.{GlobToken}
use Rattle.nextest_filtering_globs.specs.declared.token.GlobToken.TheVariants as token
use Rattle.nextest_filtering_globs.specs.Syntax.{depth_behind}
use Rattle.nextest_filtering_globs.specs.Meaning.{Token, literal, any, zero_or_more, class, alternates, Tokens, no_tokens, next_token, flat_token, flat, MatchesOne, MatchesAll, Matches}
use Rattle.nextest_filtering_globs.specs.Inside.{fits, is_single, ClosesFrom, IsBalanced, Leaves}
use Rattle.nextest_filtering_globs.proofs.Classes.{of_class, class_of, same_number}

-- the part of a glob that such a token is
abbrev pub single : GlobToken → Token
single (token.Literal c) = literal c
single (token.Class negated ranges) = class negated ranges
single other = any

pub single_flat : (t : GlobToken) → is_single t ≡ true → flat_token (single t) ≡ t ∷ []
single_flat (token.Literal c) s = refl
single_flat token.Any s = refl
single_flat token.ZeroOrMore s = absurd (false≢true s)
single_flat (token.Class negated ranges) s = refl
single_flat token.Open s = absurd (false≢true s)
single_flat token.Or s = absurd (false≢true s)
single_flat token.Close s = absurd (false≢true s)

-- it matches a character that it fits
pub single_matches : (t : GlobToken) (c : ℕ) → is_single t ≡ true → fits t c ≡ true → MatchesOne (single t) (c ∷ [])
single_matches (token.Literal d) c s f = ap (λ x. x ∷ []) (eqb-true c d f)
single_matches token.Any c s f = (c, refl)
single_matches token.ZeroOrMore c s f = absurd (false≢true s)
single_matches (token.Class negated ranges) c s f = (c, refl, of_class negated ranges c f)
single_matches token.Open c s f = absurd (false≢true s)
single_matches token.Or c s f = absurd (false≢true s)
single_matches token.Close c s f = absurd (false≢true s)

-- and nothing else
pub single_fits : (t : GlobToken) (text : List ℕ) → is_single t ≡ true → MatchesOne (single t) text
    → (c : ℕ) × (text ≡ c ∷ []) × (fits t c ≡ true)
single_fits (token.Literal d) text s m = (d, m, same_number d)
single_fits token.Any text s m = (m.0, m.1, refl)
single_fits token.ZeroOrMore text s m = absurd (false≢true s)
single_fits (token.Class negated ranges) text s m = (m.0, m.1, class_of negated ranges m.0 m.2)
single_fits token.Open text s m = absurd (false≢true s)
single_fits token.Or text s m = absurd (false≢true s)
single_fits token.Close text s m = absurd (false≢true s)

-- only such a token fits a character
pub fitting_single : (t : GlobToken) (c : ℕ) → fits t c ≡ true → is_single t ≡ true
fitting_single (token.Literal d) c f = refl
fitting_single token.Any c f = refl
fitting_single token.ZeroOrMore c f = absurd (false≢true f)
fitting_single (token.Class negated ranges) c f = refl
fitting_single token.Open c f = absurd (false≢true f)
fitting_single token.Or c f = absurd (false≢true f)
fitting_single token.Close c f = absurd (false≢true f)

pub single_depth : (depth : ℕ) (t : GlobToken) → is_single t ≡ true → depth_behind depth t ≡ depth
single_depth depth (token.Literal c) s = refl
single_depth depth token.Any s = refl
single_depth depth token.ZeroOrMore s = refl
single_depth depth (token.Class negated ranges) s = refl
single_depth depth token.Open s = absurd (false≢true s)
single_depth depth token.Or s = refl
single_depth depth token.Close s = absurd (false≢true s)

-- a tree that begins with such a token
single_first : (t : GlobToken) (more : List GlobToken) (tree : Tokens) → is_single t ≡ true → flat tree ≡ t ∷ more
    → (left : Tokens) × (tree ≡ next_token (single t) left) × (flat left ≡ more)
single_first t more no_tokens s e = absurd cc
single_first t more (next_token (literal c) left) s e =
    let same : token.Literal c ≡ t = cc in
    (left, ap (λ x. next_token (single x) left) same, cc)
single_first t more (next_token any left) s e =
    let same : token.Any ≡ t = cc in
    (left, ap (λ x. next_token (single x) left) same, cc)
single_first t more (next_token zero_or_more left) s e =
    let same : token.ZeroOrMore ≡ t = cc in
    absurd (false≢true (ap is_single same ∙ s))
single_first t more (next_token (class negated ranges) left) s e =
    let same : token.Class negated ranges ≡ t = cc in
    (left, ap (λ x. next_token (single x) left) same, cc)
single_first t more (next_token (alternates all) left) s e =
    let same : token.Open ≡ t = cc in
    absurd (false≢true (ap is_single same ∙ s))

pub first_matched : (t : GlobToken) (more : List GlobToken) (text : List ℕ) → is_single t ≡ true → Matches (t ∷ more) text
    → (c : ℕ) × (rest : List ℕ) × (text ≡ c ∷ rest) × (fits t c ≡ true) × Matches more rest
first_matched t more text s m =
    let tree = single_first t more m.0 s m.1 in
    let parts : MatchesAll (next_token (single t) tree.0) text = subst (λ x. MatchesAll x text) tree.1 m.2 in
    let first = single_fits t parts.0 s parts.3 in
    (first.0, parts.1, parts.2 ∙ ap (λ x. x ++ parts.1) first.1, first.2, (tree.0, tree.2, parts.4))

pub first_matches : (t : GlobToken) (more : List GlobToken) (c : ℕ) (rest : List ℕ) → is_single t ≡ true → fits t c ≡ true
    → Matches more rest → Matches (t ∷ more) (c ∷ rest)
first_matches t more c rest s f m = (
  next_token (single t) m.0,
  ap (λ x. x ++ flat m.0) (single_flat t s) ∙ ap (λ x. t ∷ x) m.1,
  (c ∷ [], rest, refl, single_matches t c s f, m.2),
)

same_rest : (c d : ℕ) (rest more : List ℕ) → c ∷ rest ≡ d ∷ more → rest ≡ more
same_rest c d rest more e = cc

same_first : (c d : ℕ) (rest more : List ℕ) → c ∷ rest ≡ d ∷ more → c ≡ d
same_first c d rest more e = cc

-- nothing is taken off yet
pub leaves_all : (tokens : List GlobToken) (text : List ℕ) → Leaves tokens text tokens text
leaves_all tokens text = (λ h. h, (λ m. m, λ m. m))

-- a token and a character more are taken off at the beginning
pub leaves_behind : (tokens : List GlobToken) (text : List ℕ) (t : GlobToken) (left more : List GlobToken)
    (rest behind : List ℕ) (c : ℕ) → left ≡ t ∷ more → rest ≡ c ∷ behind → is_single t ≡ true → fits t c ≡ true
    → Leaves tokens text left rest → Leaves tokens text more behind
leaves_behind tokens text t left more rest behind c e k s f h = (
  λ b. let begun : ClosesFrom 0 (t ∷ more) = subst IsBalanced e (h.0 b) in
      subst (λ d. ClosesFrom d more) (single_depth 0 t s) begun.1,
  (
    λ m. let first = first_matched t more rest s (subst (λ x. Matches x rest) e (h.1.0 m)) in
        subst (Matches more) (same_rest first.0 c first.1 behind (sym first.2 ∙ k)) first.4,
    λ m. h.1.1 (subst (λ x. Matches x rest) (sym e)
        (subst (Matches (t ∷ more)) (sym k) (first_matches t more c behind s f m))),
  ),
)

-- the first character doesn't fit
pub none_behind : (tokens : List GlobToken) (text : List ℕ) (t : GlobToken) (left more : List GlobToken) (rest : List ℕ)
    → left ≡ t ∷ more → is_single t ≡ true
    → ((c : ℕ) (behind : List ℕ) → rest ≡ c ∷ behind → fits t c ≡ true → ⊥)
    → Leaves tokens text left rest → Matches tokens text → ⊥
none_behind tokens text t left more rest e s none h m =
    let first = first_matched t more rest s (subst (λ x. Matches x rest) e (h.1.0 m)) in
    none first.0 first.1 first.2 first.3

-- no token matches the empty text alone
pub flat_empty : (tree : Tokens) (text : List ℕ) → flat tree ≡ [] → MatchesAll tree text → text ≡ []
flat_empty no_tokens text e m = m
flat_empty (next_token (literal c) more) text e m = absurd cc
flat_empty (next_token any more) text e m = absurd cc
flat_empty (next_token zero_or_more more) text e m = absurd cc
flat_empty (next_token (class negated ranges) more) text e m = absurd cc
flat_empty (next_token (alternates all) more) text e m = absurd cc

some_there : (n : ℕ) → (suc n == 0) ≡ true → ⊥
some_there n h = let e = eqb-true (suc n) 0 h in omega (arith, e)

-- where no token is left, the text is to be empty
pub none_left : (tokens : List GlobToken) (text : List ℕ) (is_empty : Bool) → (length tokens == 0) ≡ true
    → is_empty ≡ (length text == 0) → IsTrue is_empty ↔ Matches tokens text
none_left [] [] is_empty h e = (λ b. (no_tokens, refl, refl), λ m. e)
none_left [] (c ∷ text) is_empty h e =
    (λ b. absurd (some_there (length text) (sym e ∙ b)), λ m. let none = flat_empty m.0 (c ∷ text) m.1 m.2 in absurd cc)
none_left (t ∷ tokens) text is_empty h e = absurd (some_there (length tokens) h)

-- an asterisk matches any text
pub asterisk_matches : (tokens more : List GlobToken) → tokens ≡ token.ZeroOrMore ∷ more → (length more == 0) ≡ true
    → (text : List ℕ) → Matches tokens text
asterisk_matches tokens [] e h text = (next_token zero_or_more no_tokens, sym e, (text, [], sym (append-nil text), tt, refl))
asterisk_matches tokens (t ∷ more) e h text = absurd (some_there (length more) h)
