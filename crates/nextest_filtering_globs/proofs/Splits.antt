-- A class is read in one way.
use Rattle.std.proofs.Common.{◌≡◌, ℕ, ◌+◌, ◌<◌, ◌≤◌, Bool, true, false, List, [], ◌∷◌, ◌++◌, length, take, drop, get_or, arith, add-one, subst, sym, ◌∙◌, refl, ap, IsTrue}
use Rattle.std.proofs.lemmas.Bool.{both_ways}
use Rattle.std.proofs.lemmas.List.{take-append-drop}
use Rattle.std.proofs.Math.Seq.{drop-cons}
use Rattle.nextest_filtering_globs.specs.declared.token.ClassRange.{ClassRange}
use Rattle.nextest_filtering_globs.specs.Signs.{is_complement_sign}
use Rattle.nextest_filtering_globs.specs.Syntax.{AllRise, IsClassBody, IsUnclosed, SpellsClass, SpellsRanges, begins_complement, class_ranges}
use Rattle.nextest_filtering_globs.specs.Reading.{IsFirstBracket, IsSigned, IsSplit}
use Rattle.nextest_filtering_globs.proofs.Beginnings.{head_same, tail_same}

-- the first closing bracket is one place
pub one_bracket : (xs ys r s : List ℕ) → IsUnclosed xs → IsUnclosed ys → xs ++ 93 ∷ r ≡ ys ++ 93 ∷ s → (xs ≡ ys)
    × (r ≡ s)
one_bracket [] [] r s open_x open_y e = (refl, tail_same e)
one_bracket [] (y ∷ ys) r s open_x open_y e = absurd (open_y.0 (sym (head_same e)))
one_bracket (x ∷ xs) [] r s open_x open_y e = absurd (open_x.0 (head_same e))
one_bracket (x ∷ xs) (y ∷ ys) r s open_x open_y e =
    let more = one_bracket xs ys r s open_x.1 open_y.1 (tail_same e) in
    let same : x ≡ y = head_same e in
    ((ap (λ z. z ∷ xs) same ∙ ap (λ zs. y ∷ zs) more.0), more.1)

pub one_split : (text xs ys r s : List ℕ) → IsSplit text xs r → IsSplit text ys s → (xs ≡ ys) × (r ≡ s)
one_split text [] ys r s h k = absurd h.1
one_split text (x ∷ xs) [] r s h k = absurd k.1
one_split text (x ∷ xs) (y ∷ ys) r s h k =
    let e : x ∷ (xs ++ 93 ∷ r) ≡ y ∷ (ys ++ 93 ∷ s) = sym h.0 ∙ k.0 in
    let more = one_bracket xs ys r s h.1 k.1 (tail_same e) in
    let same : x ≡ y = head_same e in
    ((ap (λ z. z ∷ xs) same ∙ ap (λ zs. y ∷ zs) more.0), more.1)

pub one_ranges : (a b : List ClassRange) (text r s : List ℕ) → SpellsRanges a text r → SpellsRanges b text s
    → (a ≡ b) × (r ≡ s)
one_ranges a b text r s h k =
    let both = one_split text h.0 k.0 r s (h.1, h.2) (k.1, k.2) in
    ((h.3 ∙ (ap class_ranges both.0 ∙ sym k.3)), both.1)

-- what begins with the sign of a complement is one
signed : (text inner : List ℕ) (sign : ℕ) → text ≡ sign ∷ inner → IsTrue (is_complement_sign sign)
    → begins_complement text ≡ true
signed text inner sign e h = ap begins_complement e ∙ h

pub one_class : (m n : Bool) (a b : List ClassRange) (text r s : List ℕ) → SpellsClass m a text r
    → SpellsClass n b text s
    → (m ≡ n) × (a ≡ b) × (r ≡ s)
one_class true true a b text r s h k =
    let inner_same : h.1 ≡ k.1 = tail_same (sym h.2 ∙ k.2) in
    let both = one_ranges a b k.1 r s (subst (λ x. SpellsRanges a x r) inner_same h.4) k.4 in
    (refl, both.0, both.1)
one_class true false a b text r s h k = absurd (both_ways (begins_complement text) k.0 (signed text h.1 h.0 h.2 h.3))
one_class false true a b text r s h k = absurd (both_ways (begins_complement text) h.0 (signed text k.1 k.0 k.2 k.3))
one_class false false a b text r s h k =
    let both = one_ranges a b text r s h.1 k.1 in
    (refl, both.0, both.1)

-- a class up to its first closing bracket
pub split_there : (text behind : List ℕ) (first place : ℕ) → text ≡ first ∷ behind → IsFirstBracket behind place
    → IsSplit text (take (place + 1) text) (drop (place + 1) behind)
split_there text behind first place e h =
    let below : place < length behind = h.0 in
    let opened : drop place behind ≡ get_or behind place 0 ∷ drop (place + 1) behind =
    rw (add-one, drop-cons behind place 0) refl in
    let cut : drop place behind ≡ 93 ∷ drop (place + 1) behind = opened ∙ ap (λ x. x ∷ drop (place + 1) behind) h.2 in
    let whole : behind ≡ take place behind ++ 93 ∷ drop (place + 1) behind =
    sym (take-append-drop place behind) ∙ ap (λ x. take place behind ++ x) cut in
    let front : take (place + 1) text ≡ first ∷ take place behind = ap (take (place + 1)) e ∙ rw add-one refl in (
      e ∙ (ap (λ x. first ∷ x) whole ∙ ap (λ x. x ++ 93 ∷ drop (place + 1) behind) (sym front)),
      subst IsClassBody
          (sym front) h.1,
    )

not_closed : (xs more rest : List ℕ) → IsUnclosed xs → xs ≡ more ++ 93 ∷ rest → ⊥
not_closed [] [] rest unclosed e = cc
not_closed [] (y ∷ ys) rest unclosed e = cc
not_closed (x ∷ xs) [] rest unclosed e = unclosed.0 (head_same e)
not_closed (x ∷ xs) (y ∷ ys) rest unclosed e = not_closed xs ys rest unclosed.1 (tail_same e)

-- a class that isn't closed
pub split_nowhere : (text behind : List ℕ) (first : ℕ) (body rest : List ℕ) → text ≡ first ∷ behind
    → IsUnclosed behind → IsSplit text body rest → ⊥
split_nowhere text behind first [] rest e unclosed h = h.1
split_nowhere text behind first (x ∷ more) rest e unclosed h =
    not_closed behind more rest unclosed (tail_same (sym e ∙ h.0))

rise_behind : (xs ys : List ClassRange) → AllRise (xs ++ ys) → AllRise ys
rise_behind [] ys h = h
rise_behind (x ∷ xs) ys h = rise_behind xs ys h.1

-- a range among them that falls
pub one_falls : (whole xs behind more : List ClassRange) (r : ClassRange) → whole ≡ xs ++ behind → behind ≡ r ∷ more
    → r.last < r.first → AllRise whole → ⊥
one_falls whole xs behind more r e k falls h =
    let rest = subst AllRise k (rise_behind xs behind (subst AllRise e h)) in
    let rises : r.first ≤ r.last = rest.0 in
    omega arith

-- where a range among the characters falls, there is no class
pub none_rises : (text body rest : List ℕ) → IsSplit text body rest → (AllRise (class_ranges body) → ⊥)
    → (ranges : List ClassRange) (r : List ℕ) → SpellsRanges ranges text r → ⊥
none_rises text body rest split falls ranges r h =
    let same = one_split text h.0 body r rest (h.1, h.2) split in
    falls (subst (λ x. AllRise (class_ranges x)) same.0 (subst AllRise h.3 h.4))

-- where no ranges stand behind the sign, there is no class
pub none_signed : (text inner : List ℕ) (negated : Bool) → IsSigned text negated inner
    → ((ranges : List ClassRange) (r : List ℕ) → SpellsRanges ranges inner r → ⊥)
    → (other : Bool) (ranges : List ClassRange) (r : List ℕ) → SpellsClass other ranges text r → ⊥
none_signed text inner true sign none true ranges r h =
    none ranges r (subst (λ x. SpellsRanges ranges x r) (tail_same (sym h.2 ∙ sign.1)) h.4)
none_signed text inner true sign none false ranges r h =
    both_ways (begins_complement text) h.0 (signed text inner sign.0 sign.1 sign.2)
none_signed text inner false sign none true ranges r h =
    both_ways (begins_complement text) sign.0 (signed text h.1 h.0 h.2 h.3)
none_signed text inner false sign none false ranges r h =
    none ranges r (subst (λ x. SpellsRanges ranges x r) (sym sign.1) h.1)
