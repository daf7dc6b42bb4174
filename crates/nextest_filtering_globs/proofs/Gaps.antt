-- Words between asterisks.
use Rattle.std.proofs.Common.{◌≡◌, ℕ, ◌+◌, ◌<◌, true, List, [], ◌∷◌, ◌++◌, length, take, get_or, subst, sym, ◌∙◌, refl, ap, arith}
use Rattle.std.specs.Prelude.{◌↔◌}
use Rattle.std.proofs.lemmas.Bool.{eqb-true}
use Rattle.std.proofs.lemmas.List.{append_assoc, take_more}
use Rattle.nextest_filtering_globs.specs.declared.token.GlobToken.{GlobToken}
use Rattle.nextest_filtering_globs.specs.declared.token.GlobToken.TheVariants as token
use Rattle.nextest_filtering_globs.specs.Meaning.{literal, any, zero_or_more, class, alternates, Tokens, no_tokens, next_token, flat, MatchesAll, Matches}
use Rattle.nextest_filtering_globs.specs.Inside.{fits, is_single, AreSingle, ClosesFrom, GoesOn, IsAhead, IsBalanced, IsFound, IsWord, Leaves}
use Rattle.nextest_filtering_globs.proofs.Singles.{first_matched, first_matches, single_depth}

-- a tree that begins with an asterisk
asterisk_first : (more : List GlobToken) (tree : Tokens) → flat tree ≡ token.ZeroOrMore ∷ more
    → (left : Tokens) × (tree ≡ next_token zero_or_more left) × (flat left ≡ more)
asterisk_first more no_tokens e = absurd cc
asterisk_first more (next_token (literal c) left) e = absurd cc
asterisk_first more (next_token any left) e = absurd cc
asterisk_first more (next_token zero_or_more left) e = (left, refl, cc)
asterisk_first more (next_token (class negated ranges) left) e = absurd cc
asterisk_first more (next_token (alternates all) left) e = absurd cc

-- an asterisk takes up a gap, and the tokens behind it match what is left
gap_taken : (more : List GlobToken) (text : List ℕ) → Matches (token.ZeroOrMore ∷ more) text
    → (gap : List ℕ) × (rest : List ℕ) × (text ≡ gap ++ rest) × Matches more rest
gap_taken more text m =
    let tree = asterisk_first more m.0 m.1 in
    let parts : MatchesAll (next_token zero_or_more tree.0) text = subst (λ x. MatchesAll x text) tree.1 m.2 in
    (parts.0, parts.1, parts.2, (tree.0, tree.2, parts.4))

takes_gap : (more : List GlobToken) (gap rest : List ℕ) → Matches more rest → Matches (token.ZeroOrMore ∷ more) (gap ++ rest)
takes_gap more gap rest m = (next_token zero_or_more m.0, ap (λ x. token.ZeroOrMore ∷ x) m.1, (gap, rest, refl, tt, m.2))

-- a character more in the gap
gap_more : (more : List GlobToken) (c : ℕ) (rest : List ℕ) → Matches (token.ZeroOrMore ∷ more) rest
    → Matches (token.ZeroOrMore ∷ more) (c ∷ rest)
gap_more more c rest m =
    let taken = gap_taken more rest m in
    subst (Matches (token.ZeroOrMore ∷ more)) (ap (λ x. c ∷ x) (sym taken.2)) (takes_gap more (c ∷ taken.0) taken.1 taken.3)

-- the tokens behind an asterisk don't match from here on, so the gap has the first character
gap_less : (more : List GlobToken) (c : ℕ) (rest : List ℕ) → (Matches more (c ∷ rest) → ⊥)
    → Matches (token.ZeroOrMore ∷ more) (c ∷ rest) → Matches (token.ZeroOrMore ∷ more) rest
gap_less more c rest none m =
    let taken = gap_taken more (c ∷ rest) m in
    by_gap taken.0 taken.1 taken.2 taken.3
  where
    by_gap : (gap later : List ℕ) → c ∷ rest ≡ gap ++ later → Matches more later → Matches (token.ZeroOrMore ∷ more) rest
    by_gap [] later e k = absurd (none (subst (Matches more) (sym e) k))
    by_gap (d ∷ gap) later e k =
        let same : rest ≡ gap ++ later = cc in
        subst (Matches (token.ZeroOrMore ∷ more)) (sym same) (takes_gap more gap later k)

-- behind an asterisk, one token of one character and any one character fewer
one_fewer : (t : GlobToken) (more : List GlobToken) (c : ℕ) (rest : List ℕ) → is_single t ≡ true
    → Matches (token.ZeroOrMore ∷ t ∷ more) (c ∷ rest) → Matches (token.ZeroOrMore ∷ more) rest
one_fewer t more c rest s m =
    let taken = gap_taken (t ∷ more) (c ∷ rest) m in
    let first = first_matched t more taken.1 s taken.3 in
    by_gap taken.0 first.0 first.1 (taken.2 ∙ ap (λ x. taken.0 ++ x) first.2) first.4
  where
    by_gap : (gap : List ℕ) (d : ℕ) (later : List ℕ) → c ∷ rest ≡ gap ++ d ∷ later → Matches more later
        → Matches (token.ZeroOrMore ∷ more) rest
    by_gap [] d later e k =
        let same : rest ≡ later = cc in
        subst (Matches (token.ZeroOrMore ∷ more)) (sym same) (takes_gap more [] later k)
    by_gap (b ∷ gap) d later e k =
        let behind : rest ≡ gap ++ d ∷ later = cc in
        let same : rest ≡ (gap ++ d ∷ []) ++ later = behind ∙ sym (append_assoc gap (d ∷ []) later) in
        subst (Matches (token.ZeroOrMore ∷ more)) (sym same) (takes_gap more (gap ++ d ∷ []) later k)

-- two asterisks are as one
as_one : (more : List GlobToken) (text : List ℕ) → Matches (token.ZeroOrMore ∷ token.ZeroOrMore ∷ more) text
    → Matches (token.ZeroOrMore ∷ more) text
as_one more text m =
    let outer = gap_taken (token.ZeroOrMore ∷ more) text m in
    let inner = gap_taken more outer.1 outer.3 in
    subst (Matches (token.ZeroOrMore ∷ more))
    (append_assoc outer.0 inner.0 inner.1 ∙ (ap (λ x. outer.0 ++ x) (sym inner.2) ∙ sym outer.2))
    (takes_gap more (outer.0 ++ inner.0) inner.1 inner.3)

-- nothing of a word was taken yet
pub goes_on_none : (word : List GlobToken) (text : List ℕ) → GoesOn word text word text
goes_on_none word text more = ((λ m. m, λ m. m), λ m. m)

-- one token more
pub goes_on_one : (word : List GlobToken) (text : List ℕ) (t : GlobToken) (left more_left : List GlobToken)
    (rest behind : List ℕ) (c : ℕ) → left ≡ t ∷ more_left → rest ≡ c ∷ behind → is_single t ≡ true → fits t c ≡ true
    → GoesOn word text left rest → GoesOn word text more_left behind
goes_on_one word text t left more_left rest behind c e k s f h more =
    let before = h more in
    let tokens : left ++ more ≡ t ∷ (more_left ++ more) = ap (λ x. x ++ more) e in (
      (
        λ m. let first = first_matched t (more_left ++ more) rest s (subst (λ x. Matches x rest) tokens (before.0.0 m)) in
            let both : first.0 ∷ first.1 ≡ c ∷ behind = sym first.2 ∙ k in
            let same : first.1 ≡ behind = cc in
            subst (Matches (more_left ++ more)) same first.4,
        λ m. before.0.1 (subst (λ x. Matches x rest) (sym tokens)
            (subst (Matches (t ∷ (more_left ++ more))) (sym k) (first_matches t (more_left ++ more) c behind s f m))),
      ),
      λ m. one_fewer t (more_left ++ more) c behind s
          (subst (Matches (token.ZeroOrMore ∷ t ∷ (more_left ++ more))) k
          (subst (λ x. Matches (token.ZeroOrMore ∷ x) rest) tokens (before.1 m))),
    )

-- all of it was taken
pub goes_on_all : (word : List GlobToken) (text : List ℕ) (left : List GlobToken) (rest : List ℕ) → length left ≡ 0
    → GoesOn word text left rest → GoesOn word text [] rest
goes_on_all word text [] rest e h = h
goes_on_all word text (t ∷ left) rest e h = absurd (omega (arith, e))

-- the next token doesn't fit
pub stops : (word : List GlobToken) (text : List ℕ) (t : GlobToken) (left more_left : List GlobToken) (rest : List ℕ)
    → left ≡ t ∷ more_left → is_single t ≡ true
    → ((c : ℕ) (behind : List ℕ) → rest ≡ c ∷ behind → fits t c ≡ true → ⊥)
    → GoesOn word text left rest → (more : List GlobToken) → Matches (word ++ more) text → ⊥
stops word text t left more_left rest e s none h more m =
    let tokens : left ++ more ≡ t ∷ (more_left ++ more) = ap (λ x. x ++ more) e in
    let first = first_matched t (more_left ++ more) rest s (subst (λ x. Matches x rest) tokens ((h more).0.0 m)) in
    none first.0 first.1 first.2 first.3

pub singles_of : (t : GlobToken) (left more : List GlobToken) → left ≡ t ∷ more → AreSingle left
    → (is_single t ≡ true) × AreSingle more
singles_of t left more e h = subst AreSingle e h

pub ahead_all : (word : List GlobToken) (text : List ℕ) → IsAhead word text text
ahead_all word text more = (λ m. m, λ m. m)

pub ahead_more : (word : List GlobToken) (text rest later : List ℕ) → IsAhead word text rest → IsAhead word rest later
    → IsAhead word text later
ahead_more word text rest later h k more = (λ m. (k more).0 ((h more).0 m), λ m. (h more).1 ((k more).1 m))

-- it doesn't stand here
pub ahead_later : (word : List GlobToken) (text rest later : List ℕ) (c : ℕ) → rest ≡ c ∷ later
    → ((more : List GlobToken) → Matches (word ++ more) rest → ⊥) → IsAhead word text rest → IsAhead word text later
ahead_later word text rest later c e none h more = (
  λ m. gap_less (word ++ more) c later (λ k. none more (subst (Matches (word ++ more)) (sym e) k))
      (subst (Matches (token.ZeroOrMore ∷ (word ++ more))) e ((h more).0 m)),
  λ m. (h more).1 (subst (Matches (token.ZeroOrMore ∷ (word ++ more))) (sym e) (gap_more (word ++ more) c later m)),
)

-- it stands nowhere
pub ahead_none : (word : List GlobToken) (text rest : List ℕ) → length rest ≡ 0
    → ((more : List GlobToken) → Matches (word ++ more) rest → ⊥) → IsAhead word text rest
    → (more : List GlobToken) → Matches (token.ZeroOrMore ∷ (word ++ more)) text → ⊥
ahead_none word text rest e none h more m =
    let taken = gap_taken (word ++ more) rest ((h more).0 m) in
    let same : taken.1 ≡ rest = no_gap taken.0 rest taken.1 e taken.2 in
    none more (subst (Matches (word ++ more)) same taken.3)
  where
    no_gap : (gap all later : List ℕ) → length all ≡ 0 → all ≡ gap ++ later → later ≡ all
    no_gap [] all later k g = sym g
    no_gap (c ∷ gap) all later k g = absurd (omega (arith, k, ap length g))

-- it stands here
pub ahead_found : (word : List GlobToken) (text rest behind : List ℕ) → GoesOn word rest [] behind → IsAhead word text rest
    → IsFound word text behind
ahead_found word text rest behind goes h more =
    let both = goes (token.ZeroOrMore ∷ more) in
    let ahead = h (token.ZeroOrMore ∷ more) in (
      λ m. as_one more behind (both.1 (ahead.0 m)),
      λ m. ahead.1 (takes_gap (word ++ token.ZeroOrMore ∷ more) [] rest (both.0.1 m)),
    )

closes_behind : (word left : List GlobToken) → AreSingle word → ClosesFrom 0 (word ++ left) → ClosesFrom 0 left
closes_behind [] left s h = h
closes_behind (t ∷ word) left s h =
    closes_behind word left s.1 (subst (λ d. ClosesFrom d (word ++ left)) (single_depth 0 t s.0) h.1)

-- an asterisk and a word are taken off
pub leaves_word : (tokens : List GlobToken) (text : List ℕ) (left word more : List GlobToken) (rest behind : List ℕ)
    → IsWord left word more → IsFound word rest behind → Leaves tokens text left rest → Leaves tokens text more behind
leaves_word tokens text left word more rest behind w found h =
    let here : Matches (token.ZeroOrMore ∷ (word ++ more)) rest ↔ Matches more behind =
    subst (λ x. Matches (token.ZeroOrMore ∷ (word ++ x)) rest ↔ Matches x behind) (sym w.1) (found w.0) in (
      λ b. closes_behind word more w.3 (subst IsBalanced w.2 (h.0 b)).1,
      (
        λ m. here.0 (subst (λ x. Matches x rest) w.2 (h.1.0 m)),
        λ m. h.1.1 (subst (λ x. Matches x rest) (sym w.2) (here.1 m)),
      ),
    )

-- a word stands nowhere
pub no_word : (tokens : List GlobToken) (text : List ℕ) (left word more : List GlobToken) (rest : List ℕ)
    → IsWord left word more
    → ((behind : List GlobToken) → Matches (token.ZeroOrMore ∷ (word ++ behind)) rest → ⊥)
    → Leaves tokens text left rest → Matches tokens text → ⊥
no_word tokens text left word more rest w none h m = none more (subst (λ x. Matches x rest) w.2 (h.1.0 m))

-- a token more of those that match one character each
pub singles_more : (tokens : List GlobToken) (t : GlobToken) → AreSingle tokens → is_single t ≡ true
    → AreSingle (tokens ++ t ∷ [])
singles_more [] t h s = (s, tt)
singles_more (first ∷ tokens) t h s = (h.0, singles_more tokens t h.1 s)

pub singles_at : (tokens : List GlobToken) (place : ℕ) (t : GlobToken) → place < length tokens
    → t ≡ get_or tokens place t → is_single t ≡ true → AreSingle (take place tokens) → AreSingle (take (place + 1) tokens)
singles_at tokens place t within is s h =
    subst AreSingle (ap (λ x. take place tokens ++ x ∷ []) is ∙ sym (take_more tokens place t within))
    (singles_more (take place tokens) t h s)

-- another character stands here than the word's first
pub letter_later : (letter c : ℕ) (text rest later : List ℕ) → rest ≡ c ∷ later → (c ≡ letter → ⊥)
    → IsAhead (token.Literal letter ∷ []) text rest → IsAhead (token.Literal letter ∷ []) text later
letter_later letter c text rest later e other h = ahead_later (token.Literal letter ∷ []) text rest later c e none h where
  none : (more : List GlobToken) → Matches (token.Literal letter ∷ more) rest → ⊥
  none more m =
      let first = first_matched (token.Literal letter) more rest refl m in
      let both : first.0 ∷ first.1 ≡ c ∷ later = sym first.2 ∙ e in
      let same : first.0 ≡ c = cc in
      other (sym same ∙ eqb-true first.0 letter first.3)

-- a word is where its first letter is
pub by_letter : (word more : List GlobToken) (letter : ℕ) (text rest : List ℕ) → word ≡ token.Literal letter ∷ more
    → IsAhead (token.Literal letter ∷ []) text rest → IsAhead word text rest
by_letter word more letter text rest e h = subst (λ x. IsAhead x text rest) (sym e) (λ behind. h (more ++ behind))
