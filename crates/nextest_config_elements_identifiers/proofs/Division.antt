-- How a text is divided at its first `:`.
use Rattle.std.proofs.Common.{◌≡◌, ℕ, ◌<◌, Bool, true, false, List, [], ◌∷◌, ◌++◌, length, get_or, Option, Some, None, eqb-true, not, refl, sym, ap, ◌∙◌, subst, inl, inr, arith}
use Rattle.std.specs.Borrow.{Bor}
use Rattle.std.specs.List.{list_any, before_first, after_first, position_or_len}
use Rattle.std.specs.Option.{MatchOption}
use Rattle.std.proofs.lemmas.Bool.{false≢true, cases_lt}
use Rattle.std.proofs.lemmas.List.{get_or-take}
use Rattle.std.proofs.lemmas.List.Folds.{list_any_none, length-prefix_len}
use Rattle.std.proofs.lemmas.List.Sums.{split_at_first, fails_before_first, passes_at_first, prefix_len-le-length}
use Rattle.nextest_config_elements_identifiers.specs.Parts.{is_colon, division_of, behind}

-- one byte more in front, where a first `:` comes before the end
before_more : (byte : ℕ) (text : List ℕ) (test : Bool) → is_colon byte ≡ test
    → (position_or_len is_colon text < length text → list_any is_colon text ≡ true)
    → position_or_len is_colon (byte ∷ text) < length (byte ∷ text) → list_any is_colon (byte ∷ text) ≡ true
before_more byte text true is more before = rw is refl
before_more byte text false is more before = let known = rw is at before in rw is (more (omega (arith, known)))

-- a text with a first `:` has one
any_before : (text : List ℕ) → position_or_len is_colon text < length text → list_any is_colon text ≡ true
any_before [] before = absurd (omega (arith, before))
any_before (byte ∷ text) before = before_more byte text (is_colon byte) refl (any_before text) before

-- one byte more in front, where none is a `:`
none_more : (byte : ℕ) (text : List ℕ) (test : Bool) → is_colon byte ≡ test
    → (position_or_len is_colon text ≡ length text → list_any is_colon text ≡ false)
    → position_or_len is_colon (byte ∷ text) ≡ length (byte ∷ text) → list_any is_colon (byte ∷ text) ≡ false
none_more byte text true is more none = absurd (let known = rw is at none in omega (arith, known))
none_more byte text false is more none = let known = rw is at none in rw is (more (omega (arith, known)))

-- a text without a first `:` has none
any_none : (text : List ℕ) → position_or_len is_colon text ≡ length text → list_any is_colon text ≡ false
any_none [] none = refl
any_none (byte ∷ text) none = none_more byte text (is_colon byte) refl (any_none text) none

-- the parts that `split_once` lends are the parts of the text
pub parted_once : (text : List ℕ) (lent : Option (Bor (List ℕ) × Bor (List ℕ)))
    → MatchOption lent (position_or_len is_colon text ≡ length text) (λ parts. (parts.0.now ≡ before_first is_colon text)
    × (parts.1.now ≡ after_first is_colon text) × (position_or_len is_colon text < length text))
    → behind lent ≡ division_of text
parted_once text None none = rw (any_none text none) refl
parted_once text (Some parts) known = rw (any_before text known.2, known.0, known.1) refl

-- a text with a `:` has a first one
first_there : (text : List ℕ) → list_any is_colon text ≡ true → position_or_len is_colon text < length text
first_there text some = elim (cases_lt (position_or_len is_colon text) (length text)) [
  | inl there ↦ there
  | inr past ↦ absurd (false≢true (sym (any_none text (let most = prefix_len-le-length (λ byte. not (is_colon byte)) text in omega (arith, past, most))) ∙ some))
]

-- the parts of a text with a `:` around it; the first has none
divided : (text : List ℕ) → list_any is_colon text ≡ true
    → (text ≡ before_first is_colon text ++ (58 ∷ after_first is_colon text)) × (list_any is_colon (before_first is_colon text) ≡ false)
divided text some =
    let there : position_or_len is_colon text < length text = first_there text some in
    let place = position_or_len is_colon text in
    let colon : get_or text place 58 ≡ 58 = eqb-true _ _ (passes_at_first is_colon text 58 there) in (
      split_at_first is_colon text 58 there ∙ ap (λ byte. before_first is_colon text ++ (byte ∷ after_first is_colon text)) colon,
      list_any_none is_colon (before_first is_colon text) (λ k d lt.
          let below : k < place = let len = length-prefix_len (λ byte. not (is_colon byte)) text in omega (arith, len, lt) in
          ap is_colon (get_or-take place text k d below) ∙ fails_before_first is_colon text k d below),
    )

-- the parts that a text is divided into make it up, with a `:` between them, and the first has none
pub parted_whole : (text : List ℕ) (parts : List ℕ × List ℕ) → division_of text ≡ Some parts
    → (text ≡ parts.0 ++ (58 ∷ parts.1)) × (list_any is_colon parts.0 ≡ false)
parted_whole text parts is = go (list_any is_colon text) refl
  where
    go : (test : Bool) → list_any is_colon text ≡ test → (text ≡ parts.0 ++ (58 ∷ parts.1)) × (list_any is_colon parts.0 ≡ false)
    go false e = let known = rw e at is in cc
    go true e =
        let known = rw e at is in
        let same : (before_first is_colon text, after_first is_colon text) ≡ parts = cc in
        subst (λ (both : List ℕ × List ℕ). (text ≡ both.0 ++ (58 ∷ both.1)) × (list_any is_colon both.0 ≡ false)) same (divided text e)
