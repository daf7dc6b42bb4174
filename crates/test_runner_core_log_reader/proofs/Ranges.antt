-- Ranges of a buffer, and line feeds in them.
use Rattle.std.proofs.Common.{suc, zero, ◌≡◌, ◌≢◌, ℕ, ◌+◌, ◌-◌, ◌<◌, ◌≤◌, List, [], ◌∷◌, ◌++◌, length, take, drop, get_or, Option, Some, None, refl, sym, ap, ◌∙◌, arith, add-one, length-drop, drop-cons}
use Rattle.std.specs.List.{slice_range}
use Rattle.std.proofs.lemmas.List.{drop-drop, drop-take, length-take}
use Rattle.std.proofs.Math.Seq.{take-add}
use Rattle.std.proofs.lemmas.Bool.Decides.{nat_tests}
use Rattle.memchr.specs.Find.{IsFirstByte, is_byte}
use Rattle.test_runner_core_log_reader.specs.Feeds.{IsPlain, IsFirstFeed}

-- two ranges side by side
pub range_join : (xs : List ℕ) (i j k : ℕ) → i ≤ j → j ≤ k → slice_range xs i k ≡ slice_range xs i j ++ slice_range xs j k
range_join xs i j k a b =
    ap (λ (n : ℕ). take n (drop i xs)) (let e : k - i ≡ (j - i) + (k - j) = omega arith in e)
    ∙ take-add (j - i) (k - j) (drop i xs)
    ∙ ap (λ (ys : List ℕ). take (j - i) (drop i xs) ++ take (k - j) ys) (drop-drop (j - i) i xs ∙ ap (λ (n : ℕ). drop n xs) (let e : i + (j - i) ≡ j = omega arith in e))

pub length-range : (xs : List ℕ) (i j : ℕ) → j ≤ length xs → length (slice_range xs i j) ≡ j - i
length-range xs i j within = omega (arith, length-take (j - i) (drop i xs), length-drop i xs)

-- the first bytes of a range
pub take-range : (xs : List ℕ) (i j n : ℕ) → n ≤ j - i → take n (slice_range xs i j) ≡ slice_range xs i (i + n)
take-range xs i j n less =
    take-take n (j - i) (drop i xs) less ∙ ap (λ (m : ℕ). take m (drop i xs)) (let e : n ≡ i + n - i = omega arith in e)
  where
    take-take : (a b : ℕ) (ys : List ℕ) → a ≤ b → take a (take b ys) ≡ take a ys
    take-take zero b ys le = refl
    take-take (suc a) zero ys le = absurd (omega arith)
    take-take (suc a) (suc b) [] le = refl
    take-take (suc a) (suc b) (y ∷ ys) le = ap (λ (zs : List ℕ). y ∷ zs) (take-take a b ys (omega arith))

-- the others
pub drop-range : (xs : List ℕ) (i j n : ℕ) → i + n ≤ j → drop n (slice_range xs i j) ≡ slice_range xs (i + n) j
drop-range xs i j n less =
    ap (λ (m : ℕ). drop n (take m (drop i xs))) (let e : j - i ≡ n + (j - (i + n)) = omega arith in e)
    ∙ drop-take n (j - (i + n)) (drop i xs) ∙ ap (take (j - (i + n))) (drop-drop n i xs)

-- plain bytes

pub plain-append : (xs ys : List ℕ) → IsPlain xs → IsPlain ys → IsPlain (xs ++ ys)
plain-append [] ys a b = b
plain-append (x ∷ xs) ys a b = (a.0, plain-append xs ys a.1 b)

plain_by_index : (xs : List ℕ) → ((k : ℕ) → k < length xs → get_or xs k 0 ≢ 10) → IsPlain xs
plain_by_index [] h = tt
plain_by_index (x ∷ xs) h = (h 0 (omega arith), plain_by_index xs (λ k less. h (suc k) (omega arith)))

take_by_index : (xs : List ℕ) (n : ℕ) → ((k : ℕ) → k < n → get_or xs k 0 ≢ 10) → IsPlain (take n xs)
take_by_index [] zero h = tt
take_by_index [] (suc n) h = tt
take_by_index (x ∷ xs) zero h = tt
take_by_index (x ∷ xs) (suc n) h = (h 0 (omega arith), take_by_index xs n (λ k less. h (suc k) (omega arith)))

-- what a search for a line feed found
pub first_feed_is : (bytes : List ℕ) (found : Option ℕ) → IsFirstByte (is_byte 10) bytes found → IsFirstFeed bytes found
first_feed_is bytes None none = plain_by_index bytes (λ k less same. none k (omega arith) less (grind (arith, nat_tests)))
first_feed_is bytes (Some at) found =
    let here : get_or bytes at 0 ≡ 10 = let e = found.1 in grind (arith, nat_tests) in (
      found.0.high,
      take_by_index bytes at (λ k less same. found.0.before k (omega arith) less (grind (arith, nat_tests))),
      drop-cons bytes at 0 found.0.high ∙ ap (λ (x : ℕ). x ∷ drop (suc at) bytes) here ∙ ap (λ (n : ℕ). 10 ∷ drop n bytes) (sym (add-one at)),
    )
