-- Where a text ends, and what holds of a loop that looks for an end.
use Rattle.std.proofs.Common.{◌≡◌, ℕ, ◌+◌, ◌<◌, ◌≤◌, Bool, true, false, not, ◌&&◌, cond, eqb, ltb, List, [], ◌∷◌, ◌++◌, length, take, drop, get_or, refl, sym, ap, ◌∙◌, subst}
use Rattle.std.specs.List.{AllByRecursion, flat_map}
use Rattle.std.specs.Char.{digit_value}
use Rattle.std.specs.Str.Parse.{AllDigits}
use Rattle.std.proofs.lemmas.Bool.{ne_eqb, cond-true, cond-false, cond_both, and_from, and_parts, or_from, not-true, not_from_false, lt-ltb, false≢true}
use Rattle.std.proofs.lemmas.List.{append-nil, append_assoc, append_cancel_left, take_more, drop_more, take_all, drop_all}
use Rattle.nextest_filtering_escapes.specs.Text.{Piece, Plain, Escaped, Unicode, IsPiece, IsText, spelling, is_end}
use Rattle.nextest_filtering_escapes.specs.Ends.{Stops, IsEnded, is_unended}

-- ---- loops over bytes: what a reading finds from the left is what it passed, and what it finds ahead

-- one byte more
pub front_more : (input front : List ℕ) (i byte : ℕ) (found next : List ℕ → List ℕ) → i < length input → byte ≡ get_or input i 0
    → found (byte ∷ drop (i + 1) input) ≡ byte ∷ next (drop (i + 1) input)
    → front ≡ take i input ++ found (drop i input) → front ≡ take (i + 1) input ++ next (drop (i + 1) input)
front_more input front i byte found next small is step known =
    let behind : drop i input ≡ byte ∷ drop (i + 1) input = rw is (drop_more input i 0 small) in
    let passed : take (i + 1) input ≡ take i input ++ byte ∷ [] = take_more input i 0 small ∙ ap (λ (b : ℕ). take i input ++ b ∷ []) (sym is) in
    known ∙ ap (λ (x : List ℕ). take i input ++ found x) behind ∙ ap (λ (x : List ℕ). take i input ++ x) step
    ∙ sym (append_assoc (take i input) (byte ∷ []) (next (drop (i + 1) input)))
    ∙ ap (λ (x : List ℕ). x ++ next (drop (i + 1) input)) (sym passed)

-- the end
pub front_ends : (input front : List ℕ) (i byte : ℕ) (found : List ℕ → List ℕ) → i < length input → byte ≡ get_or input i 0
    → found (byte ∷ drop (i + 1) input) ≡ [] → front ≡ take i input ++ found (drop i input) → front ≡ take i input
front_ends input front i byte found small is step known =
    let behind : drop i input ≡ byte ∷ drop (i + 1) input = rw is (drop_more input i 0 small) in
    known ∙ ap (λ (x : List ℕ). take i input ++ found x) behind ∙ ap (λ (x : List ℕ). take i input ++ x) step ∙ append-nil (take i input)

-- all was passed
pub front_all : (input front : List ℕ) (i : ℕ) (found : List ℕ → List ℕ) → length input ≤ i → found [] ≡ []
    → front ≡ take i input ++ found (drop i input) → front ≡ input
front_all input front i found past none known =
    known ∙ ap (λ (x : List ℕ). take i input ++ found x) (drop_all i input past) ∙ ap (λ (x : List ℕ). take i input ++ x) none
    ∙ append-nil (take i input) ∙ take_all i input past

-- ---- texts

-- what stands before the first end that isn't escaped; the first byte is escaped where a `\` came
-- before it
abbrev pub text_front : Bool → List ℕ → List ℕ
text_front escaped [] = []
text_front true (byte ∷ rest) = byte ∷ text_front false rest
text_front false (byte ∷ rest) = cond (is_end byte) [] (byte ∷ text_front (eqb byte 92) rest)

pub unended_front : (escaped : Bool) (bytes : List ℕ) → is_unended escaped (text_front escaped bytes) ≡ true
unended_front true [] = refl
unended_front false [] = refl
unended_front true (byte ∷ rest) = unended_front false rest
unended_front false (byte ∷ rest) =
    cond_both (is_end byte) [] (byte ∷ text_front (eqb byte 92) rest) (λ (x : List ℕ). is_unended false x ≡ true) (λ _. refl)
    (λ other. and_from (not (is_end byte)) _ (not_from_false (is_end byte) other) (unended_front (eqb byte 92) rest))

-- the byte behind it is an end that isn't escaped
front_ended : (escaped : Bool) (input : List ℕ) (byte : ℕ) (rest : List ℕ) → input ≡ text_front escaped input ++ byte ∷ rest
    → is_unended escaped (text_front escaped input ++ byte ∷ []) ≡ false
front_ended true [] byte rest whole = cc
front_ended false [] byte rest whole = cc
front_ended true (b ∷ input) byte rest whole = front_ended false input byte rest (cc)
front_ended false (b ∷ input) byte rest whole =
    cond_both (is_end b) [] (b ∷ text_front (eqb b 92) input) (λ (x : List ℕ). b ∷ input ≡ x ++ byte ∷ rest → is_unended false (x ++ byte ∷ []) ≡ false)
    (λ ends same. let is : byte ≡ b = cc in ap (λ (e : Bool). not e && is_unended (eqb byte 92) []) (ap is_end is ∙ ends))
    (λ other same.
    ap (λ (e : Bool). not e && is_unended (eqb b 92) (text_front (eqb b 92) input ++ byte ∷ [])) other
    ∙ front_ended (eqb b 92) input byte rest (cc))
    whole

pub text_ended : (input front behind : List ℕ) → text_front false input ≡ front → input ≡ front ++ behind → IsEnded front behind
text_ended input front [] is whole = tt
text_ended input front (byte ∷ behind) is whole =
    subst (λ (x : List ℕ). is_unended false (x ++ byte ∷ []) ≡ false) is
    (front_ended false input byte behind (whole ∙ ap (λ (x : List ℕ). x ++ byte ∷ behind) (sym is)))

-- a byte that is no end and no `\`
passes : (byte : ℕ) (more : List ℕ) → is_end byte ≡ false → eqb byte 92 ≡ false → text_front false (byte ∷ more) ≡ byte ∷ text_front false more
passes byte more other bare =
    cond-false (is_end byte) [] (byte ∷ text_front (eqb byte 92) more) other ∙ ap (λ (b : Bool). byte ∷ text_front b more) bare

pub digit_not : (byte other : ℕ) → digit_value byte < 16 → ltb (digit_value other) 16 ≡ false → eqb byte other ≡ false
digit_not byte other small large = ne_eqb byte other
    (λ same. false≢true (sym large ∙ lt-ltb (digit_value other) 16 (subst (λ (b : ℕ). digit_value b < 16) same small)))

digits_front : (digits more : List ℕ) → AllDigits 16 digits → text_front false ((digits ++ 125 ∷ []) ++ more) ≡ (digits ++ 125 ∷ []) ++ text_front false more
digits_front [] more are = refl
digits_front (byte ∷ digits) more are =
    passes byte ((digits ++ 125 ∷ []) ++ more) (or_from (eqb byte 41) (eqb byte 44) (digit_not byte 41 are.0 refl) (digit_not byte 44 are.0 refl)) (digit_not byte 92 are.0 refl)
    ∙ ap (λ (x : List ℕ). byte ∷ x) (digits_front digits more are.1)

piece_front : (p : Piece) (more : List ℕ) → IsPiece p → text_front false (spelling p ++ more) ≡ spelling p ++ text_front false more
piece_front (Plain byte) more is =
    let parts = and_parts (not (eqb byte 92)) (not (is_end byte)) is in
    passes byte more (not-true (is_end byte) parts.1) (not-true (eqb byte 92) parts.0)
piece_front (Escaped letter meant) more is = refl
piece_front (Unicode digits scalar) more is = ap (λ (x : List ℕ). 92 ∷ 117 ∷ 123 ∷ x) (digits_front digits more is.0.2)

stops_front : (rest : List ℕ) → Stops rest → text_front false rest ≡ []
stops_front [] stops = refl
stops_front (byte ∷ rest) stops = cond-true (is_end byte) [] (byte ∷ text_front (eqb byte 92) rest) stops

pieces_front : (ps : List Piece) (rest : List ℕ) → AllByRecursion IsPiece ps → Stops rest → text_front false (flat_map spelling ps ++ rest) ≡ flat_map spelling ps
pieces_front [] rest each stops = stops_front rest stops
pieces_front (p ∷ ps) rest each stops =
    ap (λ (x : List ℕ). text_front false x) (append_assoc (spelling p) (flat_map spelling ps) rest)
    ∙ piece_front p (flat_map spelling ps ++ rest) each.0
    ∙ ap (λ (x : List ℕ). spelling p ++ x) (pieces_front ps rest each.1 stops)

-- a text with an end behind it is the front
pub text_only : (input raw text rest : List ℕ) → IsText raw text → Stops rest → input ≡ raw ++ rest → text_front false input ≡ raw
text_only input raw text rest has stops whole =
    ap (λ (x : List ℕ). text_front false x) (whole ∙ ap (λ (x : List ℕ). x ++ rest) has.spelled)
    ∙ pieces_front has.pieces rest has.each stops ∙ sym has.spelled

-- so a front and what follows are all that such a text and its end can be
pub text_parts : (input front behind raw text rest : List ℕ) → input ≡ front ++ behind → text_front false input ≡ front
    → IsText raw text → Stops rest → input ≡ raw ++ rest → (raw ≡ front) × (rest ≡ behind)
text_parts input front behind raw text rest whole is has stops parted =
    let same : raw ≡ front = sym (text_only input raw text rest has stops parted) ∙ is in
    (same, append_cancel_left front rest behind (ap (λ (x : List ℕ). x ++ rest) (sym same) ∙ sym parted ∙ whole))

-- ---- the steps of the loop

pub text_found : (input : List ℕ) (i byte : ℕ) (escaped : Bool) → i < length input → byte ≡ get_or input i 0 → escaped ≡ false → is_end byte ≡ true
    → text_front false input ≡ take i input ++ text_front escaped (drop i input) → text_front false input ≡ take i input
text_found input i byte escaped small is bare ends known =
    front_ends input (text_front false input) i byte (text_front escaped) small is
    (ap (λ (b : Bool). text_front b (byte ∷ drop (i + 1) input)) bare ∙ cond-true (is_end byte) [] (byte ∷ text_front (eqb byte 92) (drop (i + 1) input)) ends) known

pub text_skipped : (input : List ℕ) (i byte : ℕ) (escaped : Bool) → i < length input → byte ≡ get_or input i 0 → escaped ≡ true
    → text_front false input ≡ take i input ++ text_front escaped (drop i input)
    → text_front false input ≡ take (i + 1) input ++ text_front false (drop (i + 1) input)
text_skipped input i byte escaped small is taken known =
    front_more input (text_front false input) i byte (text_front escaped) (text_front false) small is
    (ap (λ (b : Bool). text_front b (byte ∷ drop (i + 1) input)) taken) known

pub text_passed : (input : List ℕ) (i byte : ℕ) (escaped : Bool) → i < length input → byte ≡ get_or input i 0 → escaped ≡ false → is_end byte ≡ false
    → text_front false input ≡ take i input ++ text_front escaped (drop i input)
    → text_front false input ≡ take (i + 1) input ++ text_front (eqb byte 92) (drop (i + 1) input)
text_passed input i byte escaped small is bare other known =
    front_more input (text_front false input) i byte (text_front escaped) (text_front (eqb byte 92)) small is
    (ap (λ (b : Bool). text_front b (byte ∷ drop (i + 1) input)) bare ∙ cond-false (is_end byte) [] (byte ∷ text_front (eqb byte 92) (drop (i + 1) input)) other) known

pub text_all : (input : List ℕ) (i : ℕ) (escaped : Bool) → length input ≤ i
    → text_front false input ≡ take i input ++ text_front escaped (drop i input) → text_front false input ≡ input
text_all input i true past known = front_all input (text_front false input) i (text_front true) past refl known
text_all input i false past known = front_all input (text_front false input) i (text_front false) past refl known
