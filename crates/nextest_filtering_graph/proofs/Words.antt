-- Bits of rows.
use Rattle.std.proofs.Common.{◌≡◌, ℕ, ◌+◌, ◌*◌, ◌/◌, ◌%◌, ◌^◌, ◌<◌, ◌≤◌, ◌≢◌, ◌⊎◌, List, get_or, length, replicate, sum, eqb, Bool, true, false, ◌∙◌, ap, max, sym, subst, inl, inr, refl, arith, eq-eqb, eqb-true, w64, get_or-set_same, get_or-set_other}
use Rattle.std.proofs.Math.ListN.{set}
use Rattle.std.proofs.lemmas.Bool.{cases_eq, cases_lt}
use Rattle.std.proofs.lemmas.List.{get_or-replicate, get_or_past, length-replicate}
use Rattle.std.proofs.lemmas.Nat.{div-mul-add, le_or_l}
use Rattle.std.proofs.lemmas.List.Sums.{sum_by-set}
use Rattle.std.proofs.lemmas.Nat.Bits.{bit_at_or, bit_at-lt, bit_at-zero, shr_and_one, bit_at_set_same, bit_at_set_other}
use Rattle.std.specs.Prelude.{bit_and, bit_or, ◌↔◌}
use Rattle.std.specs.Int.{bit_at}
use Rattle.nextest_filtering_graph.specs.Rows.{HasBit}

pub has_bit_tests : (words : List ℕ) (width i j : ℕ)
    → (eqb (bit_and (get_or words (i * width + j / 64) 0 / 2 ^ (j % 64)) 1) 1 ≡ true) ↔ HasBit words width i j
unfolding HasBit
has_bit_tests words width i j = rw shr_and_one (eqb-true _ 1, eq-eqb _ 1)

-- a place in the words is that of one row and one word of it
pub one_place : (width i q k r : ℕ) → q < width → r < width → i * width + q ≡ k * width + r → (i ≡ k) × (q ≡ r)
one_place width i q k r first second same =
    let row : i ≡ k = sym (div-mul-add i width q first) ∙ ap (λ n. n / width) same ∙ div-mul-add k width r second in
    let words : i * width ≡ k * width = ap (λ n. n * width) row in
    (row, omega arith)

-- one bit is set, and the others stay
pub bit_set : (words : List ℕ) (width from to : ℕ) → from * width + width ≤ length words → to < 64 * width
    → (i j : ℕ) → j < 64 * width
    → let new = set words (from * width + to / 64) (bit_or (get_or words (from * width + to / 64) 0) (1 * 2 ^ (to % 64) % 2 ^ 64)) in
    HasBit new width i j ↔ (HasBit words width i j ⊎ ((i ≡ from) × (j ≡ to)))
unfolding HasBit
bit_set words width from to row bit i j small =
    let place : ℕ = from * width + to / 64 in
    let old : ℕ = get_or words place 0 in
    let mark : ℕ = 1 * 2 ^ (to % 64) % 2 ^ 64 in
    let new : List ℕ = set words place (bit_or old mark) in
    let within : place < length words = omega arith in
    let in_word : j / 64 < width = omega arith in
    let to_word : to / 64 < width = omega arith in
    elim (cases_eq (i * width + j / 64) place) [
      | inl same ↦
          let found : (i ≡ from) × (j / 64 ≡ to / 64) = one_place width i (j / 64) from (to / 64) in_word to_word same in
          let here : get_or new (i * width + j / 64) 0 ≡ bit_or old mark = ap (λ n. get_or new n 0) same ∙ get_or-set_same words place (bit_or old mark) 0 within in
          let was : get_or words (i * width + j / 64) 0 ≡ old = ap (λ n. get_or words n 0) same in
          elim (cases_eq (j % 64) (to % 64)) [
            | inl bits ↦
                let one : bit_at (bit_or old mark) (j % 64) ≡ 1 = ap (bit_at (bit_or old mark)) bits ∙ bit_at_set_same w64 old (to % 64) (omega arith) in
                (λ _. inr (found.0, omega arith), λ _. ap (λ n. bit_at n (j % 64)) here ∙ one)
            | inr apart ↦
                let other : bit_at (bit_or old mark) (j % 64) ≡ bit_at old (j % 64) = bit_at_set_other w64 old (to % 64) (omega arith) (j % 64) apart in
                let kept : bit_at (get_or new (i * width + j / 64) 0) (j % 64) ≡ bit_at (get_or words (i * width + j / 64) 0) (j % 64)
                = ap (λ n. bit_at n (j % 64)) here ∙ other ∙ ap (λ n. bit_at n (j % 64)) (sym was) in (
                  λ has. inl (sym kept ∙ has),
                  λ cases. elim cases [ inl has ↦ kept ∙ has | inr both ↦ absurd (apart (ap (λ n. n % 64) both.1)) ],
                )
          ]
      | inr apart ↦
          let kept : get_or new (i * width + j / 64) 0 ≡ get_or words (i * width + j / 64) 0 = get_or-set_other words place (i * width + j / 64) (bit_or old mark) 0 apart in (
            λ has. inl (ap (λ n. bit_at n (j % 64)) (sym kept) ∙ has),
            λ cases. elim cases [
              | inl has ↦ ap (λ n. bit_at n (j % 64)) kept ∙ has
              | inr both ↦ absurd (apart (ap (λ n. n * width + j / 64) both.0 ∙ ap (λ n. from * width + n / 64) both.1))
            ],
          )
    ]

-- one row has what another had, and the others stay
pub rows_joined : (old new : List ℕ) (width from to : ℕ)
    → ((k : ℕ) → k < width → get_or new (from * width + k) 0 ≡ bit_or (get_or old (from * width + k) 0) (get_or old (to * width + k) 0))
    → ((place : ℕ) → ((k : ℕ) → k < width → place ≢ from * width + k) → get_or new place 0 ≡ get_or old place 0)
    → (i j : ℕ) → j < 64 * width → HasBit new width i j ↔ (HasBit old width i j ⊎ ((i ≡ from) × HasBit old width to j))
unfolding HasBit
rows_joined old new width from to joined others i j small =
    let in_word : j / 64 < width = omega arith in
    elim (cases_eq i from) [
      | inl same ↦
          let a : ℕ = bit_at (get_or old (i * width + j / 64) 0) (j % 64) in
          let b : ℕ = bit_at (get_or old (to * width + j / 64) 0) (j % 64) in
          let here : get_or new (i * width + j / 64) 0 ≡ bit_or (get_or old (i * width + j / 64) 0) (get_or old (to * width + j / 64) 0)
          = subst (λ (n : ℕ). get_or new (n * width + j / 64) 0 ≡ bit_or (get_or old (n * width + j / 64) 0) (get_or old (to * width + j / 64) 0)) (sym same) (joined (j / 64) in_word) in
          let both : bit_at (get_or new (i * width + j / 64) 0) (j % 64) ≡ max a b
          = ap (λ n. bit_at n (j % 64)) here ∙ bit_at_or (get_or old (i * width + j / 64) 0) (get_or old (to * width + j / 64) 0) (j % 64) in
          let low_a : a < 2 = bit_at-lt (get_or old (i * width + j / 64) 0) (j % 64) in
          let low_b : b < 2 = bit_at-lt (get_or old (to * width + j / 64) 0) (j % 64) in (
            λ has. elim (cases_eq a 1) [ inl one ↦ inl one | inr zero ↦ inr (same, omega arith) ],
            λ cases. elim cases [ inl has ↦ omega arith | inr one ↦ let at : b ≡ 1 = one.1 in omega arith ],
          )
      | inr apart ↦
          let kept : get_or new (i * width + j / 64) 0 ≡ get_or old (i * width + j / 64) 0
          = others (i * width + j / 64) (λ k within e. apart (one_place width i (j / 64) from k in_word within e).0) in (
            λ has. inl (ap (λ n. bit_at n (j % 64)) (sym kept) ∙ has),
            λ cases. elim cases [ inl has ↦ ap (λ n. bit_at n (j % 64)) kept ∙ has | inr both ↦ absurd (apart both.0) ],
          )
    ]

-- the words of a row that were joined so far, and one more
pub one_more_word : (old words new : List ℕ) (width from to word : ℕ) → word < width
    → ((k : ℕ) → k < word → get_or words (from * width + k) 0 ≡ bit_or (get_or old (from * width + k) 0) (get_or old (to * width + k) 0))
    → ((place : ℕ) → ((k : ℕ) → k < word → place ≢ from * width + k) → get_or words place 0 ≡ get_or old place 0)
    → get_or new (from * width + word) 0 ≡ bit_or (get_or words (from * width + word) 0) (get_or words (to * width + word) 0)
    → ((place : ℕ) → place ≢ from * width + word → get_or new place 0 ≡ get_or words place 0)
    → ((k : ℕ) → k < word + 1 → get_or new (from * width + k) 0 ≡ bit_or (get_or old (from * width + k) 0) (get_or old (to * width + k) 0))
    × ((place : ℕ) → ((k : ℕ) → k < word + 1 → place ≢ from * width + k) → get_or new place 0 ≡ get_or old place 0)
one_more_word old words new width from to word within joined others here rest =
    let untouched : (row : ℕ) → get_or words (row * width + word) 0 ≡ get_or old (row * width + word) 0
    = λ row. others (row * width + word) (λ k less e. let at = one_place width row word from k within (omega arith) e in omega arith) in (
      λ k less. elim (cases_eq k word) [
        | inl same ↦
            subst (λ (n : ℕ). get_or new (from * width + n) 0 ≡ bit_or (get_or old (from * width + n) 0) (get_or old (to * width + n) 0)) (sym same)
            (here ∙ ap (λ n. bit_or n (get_or words (to * width + word) 0)) (untouched from) ∙ ap (bit_or (get_or old (from * width + word) 0)) (untouched to))
        | inr apart ↦ rest (from * width + k) (λ e. apart (omega arith)) ∙ joined k (omega arith)
      ],
      λ place none. rest place (none word (omega arith)) ∙ others place (λ k less. none k (omega arith)),
    )

-- a word that another is put in place of, which has its bits, and more
pub sum_grows : (old words : List ℕ) (place more : ℕ) → place < length words → sum old ≤ sum words
    → bit_or (get_or words place 0) more ≢ get_or words place 0
    → sum old < sum (set words place (bit_or (get_or words place 0) more))
sum_grows old words place more within before other =
    let new : ℕ = bit_or (get_or words place 0) more in
    let larger : get_or words place 0 ≤ new = le_or_l (get_or words place 0) more in
    let sums : sum (set words place new) + get_or words place 0 ≡ sum words + new = sum_by-set (λ n. n) words place new 0 within in
    omega arith

pub sum_at_least : (old words : List ℕ) (changed : Bool) → (changed ≡ false → words ≡ old) → (changed ≡ true → sum old < sum words) → sum old ≤ sum words
sum_at_least old words true kept grown = let more : sum old < sum words = grown refl in omega arith
sum_at_least old words false kept grown = let same : sum words ≡ sum old = ap sum (kept refl) in omega arith

zero_at : (n k : ℕ) → let zero : ℕ = 0 in get_or (replicate n zero) k zero ≡ zero
zero_at n k = elim (cases_lt k n) [
  | inl within ↦ get_or-replicate {A = ℕ} n k 0 0 within
  | inr past ↦ get_or_past {X = ℕ} (replicate n 0) k 0 (omega (arith, length-replicate {A = ℕ} n 0))
]

-- words that are all 0 have no bit
pub no_bits : (n width i j : ℕ) → ¬ (HasBit (replicate n 0) width i j)
unfolding HasBit
no_bits n width i j has =
    let none : bit_at (get_or (replicate n 0) (i * width + j / 64) 0) (j % 64) ≡ 0
    = ap (λ x. bit_at x (j % 64)) (zero_at n (i * width + j / 64)) ∙ bit_at-zero (j % 64) in
    omega arith
