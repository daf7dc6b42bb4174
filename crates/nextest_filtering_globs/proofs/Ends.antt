-- Where matches of a tree may end, by sets of places, is what the tree means.
use Rattle.std.proofs.Common.{◌≡◌, ℕ, Bool, true, false, List, [], ◌∷◌, ◌++◌, ◌⊎◌, subst, sym, ◌∙◌, refl, ap}
use Rattle.std.proofs.lemmas.List.{append_assoc}
use Rattle.std.proofs.lemmas.Bool.{false≢true, eqb-true}
use mathlib.Core.Logic.{inl, inr}
use Rattle.nextest_filtering_globs.specs.declared.token.GlobToken.{GlobToken}
use Rattle.nextest_filtering_globs.specs.declared.token.GlobToken.TheVariants as token
use Rattle.nextest_filtering_globs.specs.Meaning.{Token, literal, any, zero_or_more, class, alternates, Tokens, no_tokens, next_token, Alternatives, last_alternative, next_alternative, MatchesOne, MatchesAll, MatchesSome}
use Rattle.nextest_filtering_globs.specs.Inside.{fits, next_places, later, either_of, none_of}
use Rattle.nextest_filtering_globs.proofs.Classes.{of_class, class_of, same_number}
use Rattle.nextest_filtering_globs.proofs.Sets.{Covers, Has, moved_has, has_moved, length-moved, later_has, has_later, length-later, either_has, has_first, has_second, length-either, none_has, length-none}

-- the places where a match from one of these may end
abbrev mutual
  pub ends_one : List ℕ → Token → List Bool → List Bool
  ends_one text (literal c) places = next_places (fits (token.Literal c)) false text places
  ends_one text any places = next_places (fits token.Any) false text places
  ends_one text zero_or_more places = later false places
  ends_one text (class negated ranges) places = next_places (fits (token.Class negated ranges)) false text places
  ends_one text (alternates all) places = ends_some text all places (none_of places)

  pub ends_all : List ℕ → Tokens → List Bool → List Bool
  ends_all text no_tokens places = places
  ends_all text (next_token first more) places = ends_all text more (ends_one text first places)

  -- with those that were reached before
  pub ends_some : List ℕ → Alternatives → List Bool → List Bool → List Bool
  ends_some text (last_alternative tokens) places reached = either_of (ends_all text tokens places) reached
  ends_some text (next_alternative first more) places reached =
      ends_some text more places (either_of reached (ends_all text first places))

mutual
  pub covers_one : (text : List ℕ) (t : Token) (places : List Bool) → Covers text places
      → Covers text (ends_one text t places)
  covers_one text (literal c) places e = length-moved (fits (token.Literal c)) false text places e
  covers_one text any places e = length-moved (fits token.Any) false text places e
  covers_one text zero_or_more places e = length-later false places ∙ e
  covers_one text (class negated ranges) places e = length-moved (fits (token.Class negated ranges)) false text places e
  covers_one text (alternates all) places e = covers_some text all places (none_of places) e (length-none places ∙ e)

  pub covers_all : (text : List ℕ) (ts : Tokens) (places : List Bool) → Covers text places
      → Covers text (ends_all text ts places)
  covers_all text no_tokens places e = e
  covers_all text (next_token first more) places e =
      covers_all text more (ends_one text first places) (covers_one text first places e)

  pub covers_some : (text : List ℕ) (all : Alternatives) (places reached : List Bool) → Covers text places
      → Covers text reached → Covers text (ends_some text all places reached)
  covers_some text (last_alternative tokens) places reached e k =
      length-either (ends_all text tokens places) reached ∙ covers_all text tokens places e
  covers_some text (next_alternative first more) places reached e k =
      covers_some text more places (either_of reached (ends_all text first places)) e
      (length-either reached (ends_all text first places) ∙ k)

-- a match of these characters ends there, from a place of the set
pub record Reached (Meant : List ℕ → Type 0) (text : List ℕ) (places : List Bool) (rest : List ℕ) : Type 0 where
  pub word : List ℕ
  pub begun : Has text places (word ++ rest)
  pub meant : Meant word

reached : (Meant : List ℕ → Type 0) (text : List ℕ) (places : List Bool) (rest word : List ℕ)
    → Has text places (word ++ rest) → Meant word → Reached Meant text places rest
reached Meant text places rest word h k = record { word = word; begun = h; meant = k }

-- one character
moved_reached : (Meant : List ℕ → Type 0) (t : GlobToken) (text : List ℕ) (places : List Bool) (rest : List ℕ)
    → Covers text places → ((c : ℕ) → fits t c ≡ true → Meant (c ∷ []))
    → Has text (next_places (fits t) false text places) rest → Reached Meant text places rest
moved_reached Meant t text places rest e means h =
    elim (moved_has (fits t) false text places rest e h) [
      | inl k ↦ absurd (false≢true k.0)
      | inr k ↦ reached Meant text places rest (k.0 ∷ []) k.1 (means k.0 k.2)
    ]

reached_moved : (t : GlobToken) (text : List ℕ) (places : List Bool) (rest word : List ℕ) (c : ℕ)
    → Covers text places → word ≡ c ∷ [] → fits t c ≡ true → Has text places (word ++ rest)
    → Has text (next_places (fits t) false text places) rest
reached_moved t text places rest word c e w f h =
    has_moved (fits t) false text places c rest e (subst (λ x. Has text places (x ++ rest)) w h) f

later_reached : (text : List ℕ) (places : List Bool) (rest : List ℕ) → Covers text places
    → Has text (later false places) rest → Reached (MatchesOne zero_or_more) text places rest
later_reached text places rest e h =
    elim (later_has false text places rest e h) [
      | inl k ↦ absurd (false≢true k.0)
      | inr k ↦ reached (MatchesOne zero_or_more) text places rest k.0 k.1 tt
    ]

-- what was reached before, or a match
Either : (Meant : List ℕ → Type 0) (text : List ℕ) (places reached : List Bool) (rest : List ℕ) → Type 0
Either Meant text places before rest = Has text before rest ⊎ Reached Meant text places rest

mutual
  pub one_reached : (text : List ℕ) (t : Token) (places : List Bool) (rest : List ℕ) → Covers text places
      → Has text (ends_one text t places) rest → Reached (MatchesOne t) text places rest
  one_reached text (literal c) places rest e h =
      moved_reached (MatchesOne (literal c)) (token.Literal c) text places rest e
      (λ d f. ap (λ x. x ∷ []) (eqb-true d c f)) h
  one_reached text any places rest e h =
      moved_reached (MatchesOne any) token.Any text places rest e (λ d f. (d, refl)) h
  one_reached text zero_or_more places rest e h = later_reached text places rest e h
  one_reached text (class negated ranges) places rest e h =
      moved_reached (MatchesOne (class negated ranges)) (token.Class negated ranges) text places rest e
      (λ d f. (d, refl, of_class negated ranges d f)) h
  one_reached text (alternates all) places rest e h =
      elim (some_reached text all places (none_of places) rest e (length-none places ∙ e) h) [
        | inl k ↦ absurd (none_has text places rest k)
        | inr k ↦ reached (MatchesOne (alternates all)) text places rest k.word k.begun k.meant
      ]

  pub all_reached : (text : List ℕ) (ts : Tokens) (places : List Bool) (rest : List ℕ) → Covers text places
      → Has text (ends_all text ts places) rest → Reached (MatchesAll ts) text places rest
  all_reached text no_tokens places rest e h = reached (MatchesAll no_tokens) text places rest [] h refl
  all_reached text (next_token first more) places rest e h =
      let back = all_reached text more (ends_one text first places) rest (covers_one text first places e) h in
      let front = one_reached text first places (back.word ++ rest) e back.begun in
      reached (MatchesAll (next_token first more)) text places rest (front.word ++ back.word)
      (subst (λ x. Has text places x) (sym (append_assoc front.word back.word rest)) front.begun)
      (front.word, back.word, refl, front.meant, back.meant)

  pub some_reached : (text : List ℕ) (all : Alternatives) (places before : List Bool) (rest : List ℕ)
      → Covers text places → Covers text before → Has text (ends_some text all places before) rest
      → Has text before rest ⊎ Reached (MatchesSome all) text places rest
  some_reached text (last_alternative tokens) places before rest e k h =
      elim (either_has text (ends_all text tokens places) before rest h) [
        | inl m ↦ let r = all_reached text tokens places rest e m in
            inr (reached (MatchesSome (last_alternative tokens)) text places rest r.word r.begun r.meant)
        | inr m ↦ inl m
      ]
  some_reached text (next_alternative first more) places before rest e k h =
      elim (some_reached text more places (either_of before (ends_all text first places)) rest e
      (length-either before (ends_all text first places) ∙ k) h) [
        | inl m ↦ elim (either_has text before (ends_all text first places) rest m) [
          | inl n ↦ inl n
          | inr n ↦ let r = all_reached text first places rest e n in
              inr (reached (MatchesSome (next_alternative first more)) text places rest r.word r.begun (inl r.meant))
        ]
        | inr m ↦
            inr (reached (MatchesSome (next_alternative first more)) text places rest m.word m.begun (inr m.meant))
      ]

mutual
  pub reached_one : (text : List ℕ) (t : Token) (places : List Bool) (rest word : List ℕ) → Covers text places
      → Has text places (word ++ rest) → MatchesOne t word → Has text (ends_one text t places) rest
  reached_one text (literal c) places rest word e h m =
      reached_moved (token.Literal c) text places rest word c e m (same_number c) h
  reached_one text any places rest word e h m = reached_moved token.Any text places rest word m.0 e m.1 refl h
  reached_one text zero_or_more places rest word e h m = has_later false text places word rest e h
  reached_one text (class negated ranges) places rest word e h m =
      reached_moved (token.Class negated ranges) text places rest word m.0 e m.1 (class_of negated ranges m.0 m.2) h
  reached_one text (alternates all) places rest word e h m =
      reached_some text all places (none_of places) rest word e (length-none places ∙ e) h m

  pub reached_all : (text : List ℕ) (ts : Tokens) (places : List Bool) (rest word : List ℕ) → Covers text places
      → Has text places (word ++ rest) → MatchesAll ts word → Has text (ends_all text ts places) rest
  reached_all text no_tokens places rest word e h m = subst (λ x. Has text places (x ++ rest)) m h
  reached_all text (next_token first more) places rest word e h m =
      reached_all text more (ends_one text first places) rest m.1 (covers_one text first places e)
      (reached_one text first places (m.1 ++ rest) m.0 e
      (subst (λ x. Has text places x) (ap (λ x. x ++ rest) m.2 ∙ append_assoc m.0 m.1 rest) h) m.3)
      m.4

  pub reached_some : (text : List ℕ) (all : Alternatives) (places before : List Bool) (rest word : List ℕ)
      → Covers text places → Covers text before → Has text places (word ++ rest) → MatchesSome all word
      → Has text (ends_some text all places before) rest
  reached_some text (last_alternative tokens) places before rest word e k h m =
      has_first text (ends_all text tokens places) before rest (reached_all text tokens places rest word e h m)
  reached_some text (next_alternative first more) places before rest word e k h (inl m) =
      before_kept text more places (either_of before (ends_all text first places)) rest e
      (length-either before (ends_all text first places) ∙ k)
      (has_second text before (ends_all text first places) rest k (reached_all text first places rest word e h m))
  reached_some text (next_alternative first more) places before rest word e k h (inr m) =
      reached_some text more places (either_of before (ends_all text first places)) rest word e
      (length-either before (ends_all text first places) ∙ k) h m

  pub before_kept : (text : List ℕ) (all : Alternatives) (places before : List Bool) (rest : List ℕ)
      → Covers text places → Covers text before → Has text before rest → Has text (ends_some text all places before) rest
  before_kept text (last_alternative tokens) places before rest e k h =
      has_second text (ends_all text tokens places) before rest (covers_all text tokens places e) h
  before_kept text (next_alternative first more) places before rest e k h =
      before_kept text more places (either_of before (ends_all text first places)) rest e
      (length-either before (ends_all text first places) ∙ k)
      (has_first text before (ends_all text first places) rest h)
