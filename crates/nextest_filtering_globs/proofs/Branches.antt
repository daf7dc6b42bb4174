-- Alternatives at the end of a glob.
use Rattle.std.proofs.Common.{◌≡◌, ℕ, ◌+◌, ◌-◌, ◌<◌, true, false, List, [], ◌∷◌, ◌++◌, ◌⊎◌, length, take, drop, get_or, subst, sym, ◌∙◌, refl, ap, arith}
use Rattle.std.specs.Prelude.{◌↔◌, Option, None, Some, MatchOption}
use Rattle.std.specs.Borrow.{Bor}
use Rattle.std.proofs.lemmas.Bool.{false≢true}
use Rattle.std.proofs.lemmas.List.{append_assoc, append-nil, length-drop, take_all, take-append-drop}
use mathlib.Core.Logic.{inl, inr}
use Rattle.nextest_filtering_globs.specs.declared.token.GlobToken.{GlobToken}
use Rattle.nextest_filtering_globs.specs.declared.token.GlobToken.TheVariants as token
use Rattle.nextest_filtering_globs.specs.Syntax.{depth_behind}
use Rattle.nextest_filtering_globs.specs.Meaning.{alternates, Tokens, no_tokens, next_token, Alternatives, last_alternative, next_alternative, flat_token, flat, flat_alternatives, MatchesAll, MatchesSome, Matches}
use Rattle.nextest_filtering_globs.specs.Inside.{fits, in_braces, is_plain, is_single, ArePlain, AreSingle, ClosesFrom, IsBalanced, Leaves}
use Rattle.nextest_filtering_globs.proofs.Fold.{meant}
use Rattle.nextest_filtering_globs.proofs.Lasts.{leaves_before, none_before}
use Rattle.nextest_filtering_globs.proofs.Loops.{from_here}
use Rattle.nextest_filtering_globs.proofs.Singles.{single, single_depth, single_flat}
use Rattle.nextest_filtering_globs.proofs.Trees.{in_front, in_front_is, pieces}

-- one tree after another
join : Tokens → Tokens → Tokens
join no_tokens behind = behind
join (next_token first more) behind = next_token first (join more behind)

flat_join : (front behind : Tokens) → flat (join front behind) ≡ flat front ++ flat behind
unfolding join
flat_join no_tokens behind = refl
flat_join (next_token first more) behind =
    ap (λ x. flat_token first ++ x) (flat_join more behind)
    ∙ sym (append_assoc (flat_token first) (flat more) (flat behind))

joined : (front behind : Tokens) (text : List ℕ) → MatchesAll (join front behind) text
    → (x : List ℕ) × (y : List ℕ) × (text ≡ x ++ y) × MatchesAll front x × MatchesAll behind y
unfolding join
joined no_tokens behind text m = ([], text, refl, refl, m)
joined (next_token first more) behind text m =
    let parts = joined more behind m.1 m.4 in (
      m.0 ++ parts.0,
      parts.1,
      m.2 ∙ (ap (λ z. m.0 ++ z) parts.2 ∙ sym (append_assoc m.0 parts.0 parts.1)),
      (m.0, parts.0, refl, m.3, parts.3),
      parts.4,
    )

joins : (front behind : Tokens) (x y : List ℕ) → MatchesAll front x → MatchesAll behind y
    → MatchesAll (join front behind) (x ++ y)
unfolding join
joins no_tokens behind x y m k = subst (λ z. MatchesAll behind (z ++ y)) (sym m) k
joins (next_token first more) behind x y m k =
    (m.0, m.1 ++ y, ap (λ z. z ++ y) m.2 ∙ append_assoc m.0 m.1 y, m.3, joins more behind m.1 y m.4 k)

same_flat : (front behind : Tokens) (xs ys : List GlobToken) → flat front ≡ xs → flat behind ≡ ys
    → flat (join front behind) ≡ xs ++ ys
same_flat front behind xs ys e k = flat_join front behind ∙ (ap (λ z. z ++ flat behind) e ∙ ap (λ z. xs ++ z) k)

-- tokens of one character each are a tree
singles_tree : (tokens : List GlobToken) → AreSingle tokens → (tree : Tokens) × (flat tree ≡ tokens)
singles_tree [] h = (no_tokens, refl)
singles_tree (t ∷ more) h =
    let behind = singles_tree more h.1 in
    (next_token (single t) behind.0, ap (λ x. x ++ flat behind.0) (single_flat t h.0) ∙ ap (λ x. t ∷ x) behind.1)

one_plain : (t : GlobToken) → is_plain t ≡ true → (is_single t ≡ true) ⊎ (t ≡ token.Or)
one_plain (token.Literal c) p = inl refl
one_plain token.Any p = inl refl
one_plain token.ZeroOrMore p = absurd (false≢true p)
one_plain (token.Class negated ranges) p = inl refl
one_plain token.Open p = absurd (false≢true p)
one_plain token.Or p = inr refl
one_plain token.Close p = absurd (false≢true p)

-- tokens between braces are alternatives
plain_tree : (tokens : List GlobToken) → ArePlain tokens
    → (all : Alternatives) × (flat_alternatives all ≡ tokens ++ token.Close ∷ [])
plain_tree [] h = (last_alternative no_tokens, refl)
plain_tree (t ∷ more) h =
    let behind = plain_tree more h.1 in
    elim (one_plain t h.0) [
      | inl s ↦ (
        in_front (single t) behind.0,
        in_front_is (single t) behind.0 ∙ (ap (λ x. x ++ flat_alternatives behind.0) (single_flat t s) ∙ ap (λ x. t ∷ x) behind.1),
      )
      | inr k ↦ (
        next_alternative no_tokens behind.0,
        ap (λ x. token.Or ∷ x) behind.1 ∙ ap (λ x. x ∷ (more ++ token.Close ∷ [])) (sym k),
      )
    ]

braces_flat : (all : Alternatives) (tokens : List GlobToken) → flat_alternatives all ≡ tokens ++ token.Close ∷ []
    → flat (next_token (alternates all) no_tokens) ≡ in_braces tokens
braces_flat all tokens e = append-nil (token.Open ∷ flat_alternatives all) ∙ ap (λ x. token.Open ∷ x) e

-- what tokens with alternatives at their end match
some_matched : (front : Tokens) (all : Alternatives) (xs ys : List GlobToken) (text : List ℕ) → flat front ≡ xs
    → flat_alternatives all ≡ ys ++ token.Close ∷ [] → Matches (xs ++ in_braces ys) text
    → (x : List ℕ) × (y : List ℕ) × (text ≡ x ++ y) × MatchesAll front x × MatchesSome all y
some_matched front all xs ys text e k m =
    let behind = next_token (alternates all) no_tokens in
    let parts = joined front behind text (meant (xs ++ in_braces ys) (join front behind) text
    (same_flat front behind xs (in_braces ys) e (braces_flat all ys k)) m) in
    let last = parts.4 in
    let whole : parts.1 ≡ last.0 = last.2 ∙ (ap (λ z. last.0 ++ z) last.4 ∙ append-nil last.0) in
    (parts.0, parts.1, parts.2, parts.3, subst (MatchesSome all) (sym whole) last.3)

some_matches : (front : Tokens) (all : Alternatives) (xs ys : List GlobToken) (x y : List ℕ) → flat front ≡ xs
    → flat_alternatives all ≡ ys ++ token.Close ∷ [] → MatchesAll front x → MatchesSome all y
    → Matches (xs ++ in_braces ys) (x ++ y)
some_matches front all xs ys x y e k m some =
    let behind = next_token (alternates all) no_tokens in (
      join front behind,
      same_flat front behind xs (in_braces ys) e (braces_flat all ys k),
      joins front behind x y m (y, [], sym (append-nil y), some, refl),
    )

all_matched : (front behind : Tokens) (xs ys : List GlobToken) (text : List ℕ) → flat front ≡ xs → flat behind ≡ ys
    → Matches (xs ++ ys) text
    → (x : List ℕ) × (y : List ℕ) × (text ≡ x ++ y) × MatchesAll front x × MatchesAll behind y
all_matched front behind xs ys text e k m =
    joined front behind text (meant (xs ++ ys) (join front behind) text (same_flat front behind xs ys e k) m)

all_match : (front behind : Tokens) (xs ys : List GlobToken) (x y : List ℕ) → flat front ≡ xs → flat behind ≡ ys
    → MatchesAll front x → MatchesAll behind y → Matches (xs ++ ys) (x ++ y)
all_match front behind xs ys x y e k m n = (join front behind, same_flat front behind xs ys e k, joins front behind x y m n)

-- the last alternative
pub only_one : (front word : List GlobToken) (text : List ℕ) → IsBalanced front → AreSingle word
    → Matches (front ++ in_braces word) text ↔ Matches (front ++ word) text
only_one front word text b s =
    let begun = pieces 0 front b in
    let tree = singles_tree word s in
    let all = last_alternative tree.0 in
    let same : flat_alternatives all ≡ word ++ token.Close ∷ [] = ap (λ x. x ++ token.Close ∷ []) tree.1 in (
      λ m. let parts = some_matched begun.0 all front word text begun.1 same m in
          subst (Matches (front ++ word)) (sym parts.2)
          (all_match begun.0 tree.0 front word parts.0 parts.1 begun.1 tree.1 parts.3 parts.4),
      λ m. let parts = all_matched begun.0 tree.0 front word text begun.1 tree.1 m in
          subst (Matches (front ++ in_braces word)) (sym parts.2)
          (some_matches begun.0 all front word parts.0 parts.1 begun.1 same parts.3 parts.4),
    )

-- one alternative, and others
pub one_or_more : (front word more : List GlobToken) (text : List ℕ) → IsBalanced front → AreSingle word → ArePlain more
    → Matches (front ++ in_braces (word ++ token.Or ∷ more)) text
    ↔ Matches (front ++ word) text ⊎ Matches (front ++ in_braces more) text
one_or_more front word more text b s p =
    let begun = pieces 0 front b in
    let tree = singles_tree word s in
    let others = plain_tree more p in
    let all = next_alternative tree.0 others.0 in
    let tokens = word ++ token.Or ∷ more in
    let same : flat_alternatives all ≡ tokens ++ token.Close ∷ [] =
    ap (λ x. x ++ token.Or ∷ flat_alternatives others.0) tree.1
    ∙ (ap (λ x. word ++ token.Or ∷ x) others.1 ∙ sym (append_assoc word (token.Or ∷ more) (token.Close ∷ []))) in (
      λ m. let parts = some_matched begun.0 all front tokens text begun.1 same m in
          elim parts.4 [
            | inl k ↦ inl (subst (Matches (front ++ word)) (sym parts.2)
                (all_match begun.0 tree.0 front word parts.0 parts.1 begun.1 tree.1 parts.3 k))
            | inr k ↦ inr (subst (Matches (front ++ in_braces more)) (sym parts.2)
                (some_matches begun.0 others.0 front more parts.0 parts.1 begun.1 others.1 parts.3 k))
          ],
      λ m. elim m [
        | inl k ↦
            let parts = all_matched begun.0 tree.0 front word text begun.1 tree.1 k in
            subst (Matches (front ++ in_braces tokens)) (sym parts.2)
            (some_matches begun.0 all front tokens parts.0 parts.1 begun.1 same parts.3 (inl parts.4))
        | inr k ↦
            let parts = some_matched begun.0 others.0 front more text begun.1 others.1 k in
            subst (Matches (front ++ in_braces tokens)) (sym parts.2)
            (some_matches begun.0 all front tokens parts.0 parts.1 begun.1 same parts.3 (inr parts.4))
      ],
    )

-- from one place on
pub plain_here : (tokens : List GlobToken) (place : ℕ) (t : GlobToken) → place < length tokens
    → t ≡ get_or tokens place t → is_plain t ≡ true → ArePlain (drop (place + 1) tokens) → ArePlain (drop place tokens)
plain_here tokens place t within is p h =
    subst ArePlain (ap (λ x. x ∷ drop (place + 1) tokens) is ∙ sym (from_here tokens place t within)) (p, h)

plain_behind : (front behind : List GlobToken) → ArePlain (front ++ behind) → ArePlain behind
plain_behind [] behind h = h
plain_behind (t ∷ front) behind h = plain_behind front behind h.1

-- the sign behind an alternative
sign_at : (tokens : List GlobToken) (place : ℕ) (t : GlobToken) → place < length tokens
    → t ≡ get_or tokens place t → is_single t ≡ false → ArePlain tokens
    → (tokens ≡ take place tokens ++ token.Or ∷ drop (place + 1) tokens) × ArePlain (drop (place + 1) tokens)
sign_at tokens place t within is s h =
    let divided : tokens ≡ take place tokens ++ t ∷ drop (place + 1) tokens =
    sym (take-append-drop place tokens) ∙ ap (λ x. take place tokens ++ x)
    (from_here tokens place t within ∙ ap (λ x. x ∷ drop (place + 1) tokens) (sym is)) in
    let behind = plain_behind (take place tokens) (t ∷ drop (place + 1) tokens) (subst ArePlain divided h) in
    elim (one_plain t behind.0) [
      | inl k ↦ absurd (false≢true (sym s ∙ k))
      | inr k ↦ (divided ∙ ap (λ x. take place tokens ++ x ∷ drop (place + 1) tokens) k, behind.1)
    ]

-- the last token of a word
pub singles_last : (more : List GlobToken) (t : GlobToken) (left : List GlobToken) → left ≡ more ++ t ∷ []
    → AreSingle left → AreSingle more × (is_single t ≡ true)
singles_last more t left e h = by_front more (subst AreSingle e h) where
  by_front : (front : List GlobToken) → AreSingle (front ++ t ∷ []) → AreSingle front × (is_single t ≡ true)
  by_front [] k = (tt, k.0)
  by_front (first ∷ front) k = let behind = by_front front k.1 in ((k.0, behind.0), behind.1)

-- a token and a character more are taken off, whatever stands in front
pub word_before : (word : List GlobToken) (text : List ℕ) (t : GlobToken) (left more : List GlobToken)
    (rest before : List ℕ) (c : ℕ) → left ≡ more ++ t ∷ [] → rest ≡ before ++ c ∷ [] → is_single t ≡ true
    → fits t c ≡ true → ((front : List GlobToken) → Leaves (front ++ word) text (front ++ left) rest)
    → (front : List GlobToken) → Leaves (front ++ word) text (front ++ more) before
word_before word text t left more rest before c e k s f h front =
    leaves_before (front ++ word) text t (front ++ left) (front ++ more) rest before c
    (ap (λ x. front ++ x) e ∙ sym (append_assoc front more (t ∷ []))) k s f (h front)

pub no_word_before : (word : List GlobToken) (text : List ℕ) (t : GlobToken) (left more : List GlobToken) (rest : List ℕ)
    → left ≡ more ++ t ∷ [] → is_single t ≡ true
    → ((before : List ℕ) (c : ℕ) → rest ≡ before ++ c ∷ [] → fits t c ≡ true → ⊥)
    → ((front : List GlobToken) → Leaves (front ++ word) text (front ++ left) rest)
    → (front : List GlobToken) → Matches (front ++ word) text → ⊥
no_word_before word text t left more rest e s none h front =
    none_before (front ++ word) text t (front ++ left) (front ++ more) rest
    (ap (λ x. front ++ x) e ∙ sym (append_assoc front more (t ∷ []))) s none (h front)

pub word_taken : (word : List GlobToken) (text : List ℕ) (left : List GlobToken) (rest : List ℕ) → length left ≡ 0
    → ((front : List GlobToken) → Leaves (front ++ word) text (front ++ left) rest)
    → (front : List GlobToken) → Leaves (front ++ word) text front rest
word_taken word text [] rest e h front =
    subst (λ x. Leaves (front ++ word) text x rest) (append-nil front) (h front)
word_taken word text (t ∷ left) rest e h front = absurd (omega (arith, e))

-- tokens in front of alternatives close their braces
depth_kept : (depth : ℕ) (tokens : List GlobToken) → ArePlain tokens → ClosesFrom (depth + 1) (tokens ++ token.Close ∷ [])
    → depth ≡ 0
depth_kept depth [] h k = omega (arith, k.1)
depth_kept depth (t ∷ more) h k = depth_kept depth more h.1 (subst (λ d. ClosesFrom d (more ++ token.Close ∷ [])) same k.1)
  where
    same : depth_behind (depth + 1) t ≡ depth + 1
    same = elim (one_plain t h.0) [
      | inl s ↦ single_depth (depth + 1) t s
      | inr o ↦ ap (depth_behind (depth + 1)) o
    ]

pub front_closes : (depth : ℕ) (front tokens : List GlobToken) → ArePlain tokens
    → ClosesFrom depth (front ++ in_braces tokens) → ClosesFrom depth front
front_closes depth [] tokens h k = depth_kept depth tokens h k.1
front_closes depth (first ∷ front) tokens h k =
    (k.0, front_closes (depth_behind depth first) front tokens h k.1)

-- the tokens in front, the alternatives and their braces
pub divided : (tokens left front_open front inner : List GlobToken) → tokens ≡ left ++ token.Close ∷ []
    → left ≡ front_open ++ inner → front_open ≡ front ++ token.Open ∷ [] → tokens ≡ front ++ in_braces inner
divided tokens left front_open front inner e k o =
    e ∙ (ap (λ x. x ++ token.Close ∷ []) (k ∙ ap (λ x. x ++ inner) o)
    ∙ (append_assoc (front ++ token.Open ∷ []) inner (token.Close ∷ [])
    ∙ append_assoc front (token.Open ∷ []) (inner ++ token.Close ∷ [])))

-- what is left of a list behind a place, all of it
all_behind : (tokens : List GlobToken) (place : ℕ) → take (length tokens - place) (drop place tokens) ≡ drop place tokens
all_behind tokens place = take_all (length tokens - place) (drop place tokens) (omega (arith, length-drop place tokens))

pub sign_behind : (tokens : List GlobToken) (place : ℕ) (t : GlobToken) → place < length tokens
    → t ≡ get_or tokens place t → is_single t ≡ false → ArePlain tokens
    → (tokens ≡ take place tokens ++ token.Or ∷ take (length tokens - (place + 1)) (drop (place + 1) tokens))
    × ArePlain (take (length tokens - (place + 1)) (drop (place + 1) tokens))
sign_behind tokens place t within is s h =
    subst (λ x. (tokens ≡ take place tokens ++ token.Or ∷ x) × ArePlain x) (sym (all_behind tokens (place + 1)))
    (sign_at tokens place t within is s h)

-- one of the alternatives matches with the tokens in front
pub one_matches : (front word left : List GlobToken) (text : List ℕ) (behind : Option (Bor (List GlobToken)))
    → IsBalanced front → AreSingle word
    → MatchOption behind (left ≡ word) (λ more. (left ≡ word ++ token.Or ∷ more.now) × ArePlain more.now)
    → Matches (front ++ word) text → Matches (front ++ in_braces left) text
one_matches front word left text None b s h m =
    subst (λ x. Matches (front ++ in_braces x) text) (sym h) ((only_one front word text b s).1 m)
one_matches front word left text (Some more) b s h m =
    subst (λ x. Matches (front ++ in_braces x) text) (sym h.0) ((one_or_more front word more.now text b s h.1).1 (inl m))

-- the last alternative doesn't match
pub none_matches : (front word left all : List GlobToken) (text : List ℕ) (behind : Option (Bor (List GlobToken)))
    → behind ≡ None → IsBalanced front → AreSingle word
    → MatchOption behind (left ≡ word) (λ more. (left ≡ word ++ token.Or ∷ more.now) × ArePlain more.now)
    → (Matches (front ++ word) text → ⊥)
    → Matches (front ++ in_braces all) text ↔ Matches (front ++ in_braces left) text
    → Matches (front ++ in_braces all) text → ⊥
none_matches front word left all text None e b s h none same m =
    none ((only_one front word text b s).0 (subst (λ x. Matches (front ++ in_braces x) text) h (same.0 m)))
none_matches front word left all text (Some more) e b s h none same m = absurd cc

-- one doesn't match, and others follow
pub others_ahead : (front word left all more : List GlobToken) (text : List ℕ) → IsBalanced front → AreSingle word
    → left ≡ word ++ token.Or ∷ more → ArePlain more → (Matches (front ++ word) text → ⊥)
    → Matches (front ++ in_braces all) text ↔ Matches (front ++ in_braces left) text
    → Matches (front ++ in_braces all) text ↔ Matches (front ++ in_braces more) text
others_ahead front word left all more text b s e p none same =
    let both = one_or_more front word more text b s p in (
      λ m. elim (both.0 (subst (λ x. Matches (front ++ in_braces x) text) e (same.0 m))) [
        | inl k ↦ absurd (none k)
        | inr k ↦ k
      ],
      λ m. same.1 (subst (λ x. Matches (front ++ in_braces x) text) (sym e) (both.1 (inr m))),
    )

pub is_led : (left word : List GlobToken) (behind : Option (Bor (List GlobToken))) (more : Bor (List GlobToken))
    → behind ≡ Some more
    → MatchOption behind (left ≡ word) (λ it. (left ≡ word ++ token.Or ∷ it.now) × ArePlain it.now)
    → (left ≡ word ++ token.Or ∷ more.now) × ArePlain more.now
is_led left word behind more e h =
    subst (λ x. MatchOption x (left ≡ word) (λ it. (left ≡ word ++ token.Or ∷ it.now) × ArePlain it.now)) e h
