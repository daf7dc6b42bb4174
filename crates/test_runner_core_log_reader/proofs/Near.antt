-- How few bytes wait behind the first line feed.
use Rattle.std.proofs.Common.{◌≡◌, ℕ, ◌+◌, ◌-◌, ◌<◌, ◌≤◌, List, ◌∷◌, ◌++◌, length, drop, eqb, sym, ap, ◌∙◌, subst, arith, length-drop}
use Rattle.std.specs.List.{position_or_len, slice_range}
use Rattle.std.proofs.lemmas.List.{length-take}
use Rattle.test_runner_core_streams.specs.declared.traits.TheConstants.{READ_LIMIT}
use Rattle.test_runner_core_log_reader.specs.Feeds.{IsPlain, behind_feed}
use Rattle.test_runner_core_log_reader.specs.Cursor.{Cursor, IsNear, Unmoved}
use Rattle.test_runner_core_log_reader.proofs.Filling.{more_range}
use Rattle.test_runner_core_log_reader.proofs.FirstLine.{behind_line, behind_plain}

-- of what one read gives, the bytes behind the first line feed are fewer, since that is one of them
pub near_given : (bytes : List ℕ) → length bytes ≤ READ_LIMIT → length (behind_feed bytes) < READ_LIMIT
near_given bytes few = omega (arith, length-drop (position_or_len (λ byte. eqb byte 10) bytes + 1) bytes)

-- the same behind plain bytes
pub near_behind : (plain bytes : List ℕ) → IsPlain plain → length bytes ≤ READ_LIMIT → length (behind_feed (plain ++ bytes)) < READ_LIMIT
near_behind plain bytes none few =
    subst (λ (ys : List ℕ). length ys < READ_LIMIT) (sym (behind_plain plain bytes none)) (near_given bytes few)

-- what waits behind a line that is taken off
pub few_behind : (waiting line more : List ℕ) → waiting ≡ line ++ 10 ∷ more → IsPlain line → length (behind_feed waiting) < READ_LIMIT → length more < READ_LIMIT
few_behind waiting line more whole plain near =
    subst (λ (ys : List ℕ). length ys < READ_LIMIT) (ap behind_feed whole ∙ behind_line line more plain) near

-- few bytes have few behind the first line feed
pub near_few : (bytes : List ℕ) → length bytes < READ_LIMIT → length (behind_feed bytes) < READ_LIMIT
near_few bytes few = near_given bytes (omega arith)

-- the same bytes wait
pub near_same : (xs ys : List ℕ) → ys ≡ xs → length (behind_feed xs) < READ_LIMIT → length (behind_feed ys) < READ_LIMIT
near_same xs ys same near = subst (λ (zs : List ℕ). length (behind_feed zs) < READ_LIMIT) (sym same) near

pub near_unmoved : (old new : Cursor) → Unmoved old new → IsNear old → IsNear new
near_unmoved old new same near = near_same old.waiting new.waiting same.waiting near

-- one read behind plain bytes of a buffer, which may have been moved within it
pub near_read : (xs zs : List ℕ) (start end begin count : ℕ) → slice_range zs begin (begin + (end - start)) ≡ slice_range xs start end → IsPlain (slice_range xs start end)
    → count ≤ READ_LIMIT → length (behind_feed (slice_range zs begin (begin + (end - start) + count))) < READ_LIMIT
near_read xs zs start end begin count same plain few =
    let from = begin + (end - start) in
    let moved : List ℕ = slice_range zs from (from + count) in
    let size : length moved ≤ READ_LIMIT = omega (arith, length-take (from + count - from) (drop from zs)) in
    near_same (slice_range xs start end ++ moved) (slice_range zs begin (from + count)) (more_range xs zs start end begin count same)
    (near_behind (slice_range xs start end) moved plain size)
