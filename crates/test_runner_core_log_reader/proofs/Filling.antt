-- What a read behind the bytes that wait leaves.
use Rattle.std.proofs.Common.{◌≡◌, ℕ, ◌+◌, ◌-◌, ◌≤◌, List, [], ◌++◌, length, take, drop, Option, Result, Ok, Err, OnErr, refl, sym, ap, ◌∙◌, subst, arith, append_assoc, append-nil, length-append}
use Rattle.std.specs.List.{slice_range}
use Rattle.std.specs.Io.KnownBytes.{Consumes, Keeps}
use Rattle.std.proofs.lemmas.Slice.{between_is}
use Rattle.std.proofs.lemmas.List.{take_at}
use Rattle.test_runner_core_log_reader.specs.Feeds.{IsPlain}
use Rattle.test_runner_core_log_reader.specs.Cursor.{Cursor}
use Rattle.test_runner_core_streams.specs.Left.{WhateverFollows}
use Rattle.test_runner_core_log_reader.specs.Calls.{WaitsMore}
use Rattle.test_runner_core_log_reader.proofs.Left.{gives_consumed, gives_kept}
use Rattle.test_runner_core_log_reader.proofs.Ranges.{range_join, take-range}

-- what holds in any case holds at an `Err`
pub on_err : {T E : Type 0} (result : Result T E) (P : Type 0) → P → OnErr result P
on_err (Ok value) P h = tt
on_err (Err error) P h = h

-- the bytes that waited are where they were put, whatever came behind them
pub kept_range : (xs ys zs : List ℕ) (start end begin : ℕ) → slice_range ys begin (begin + (end - start)) ≡ slice_range xs start end
    → take (begin + (end - start)) zs ≡ take (begin + (end - start)) ys → slice_range zs begin (begin + (end - start)) ≡ slice_range xs start end
kept_range xs ys zs start end begin moved kept =
    between_is zs begin (begin + (end - start)) ∙ ap (drop begin) kept ∙ sym (between_is ys begin (begin + (end - start))) ∙ moved

-- what was looked at among them has no line feed still
pub kept_plain : (xs zs : List ℕ) (start scanned end begin : ℕ) → start ≤ scanned → scanned ≤ end
    → slice_range zs begin (begin + (end - start)) ≡ slice_range xs start end → IsPlain (slice_range xs start scanned) → IsPlain (slice_range zs begin (begin + (scanned - start)))
kept_plain xs zs start scanned end begin a b same plain =
    let there : take (scanned - start) (slice_range zs begin (begin + (end - start))) ≡ slice_range zs begin (begin + (scanned - start)) =
    take-range zs begin (begin + (end - start)) (scanned - start) (omega arith) in
    let here : take (scanned - start) (slice_range xs start end) ≡ slice_range xs start scanned =
    take-range xs start end (scanned - start) (omega arith) ∙ ap (slice_range xs start) (let e : start + (scanned - start) ≡ scanned = omega arith in e) in
    subst IsPlain (sym (sym there ∙ ap (take (scanned - start)) same ∙ here)) plain

-- the bytes that came wait behind them
pub more_range : (xs zs : List ℕ) (start end begin count : ℕ) → slice_range zs begin (begin + (end - start)) ≡ slice_range xs start end
    → slice_range zs begin (begin + (end - start) + count) ≡ slice_range xs start end ++ slice_range zs (begin + (end - start)) (begin + (end - start) + count)
more_range xs zs start end begin count same =
    range_join zs begin (begin + (end - start)) (begin + (end - start) + count) (omega arith) (omega arith)
    ∙ ap (λ (ys : List ℕ). ys ++ slice_range zs (begin + (end - start)) (begin + (end - start) + count)) same

-- what is ahead stays, where the bytes that came wait behind those that waited
pub ahead_moved : (old new : List ℕ) (left rest : Option (List ℕ)) (moved : List ℕ) → new ≡ old ++ moved → Consumes left rest moved
    → WhateverFollows left rest (λ ahead behind. new ++ behind ≡ old ++ ahead)
ahead_moved old new left rest moved w h =
    λ behind gives. (moved ++ behind, gives_consumed left rest moved behind h gives, ap (λ (ys : List ℕ). ys ++ behind) w ∙ append_assoc old moved behind)

-- or where none came
pub ahead_kept : (old new : List ℕ) (left rest : Option (List ℕ)) → new ≡ old → Keeps left rest → WhateverFollows left rest (λ ahead behind. new ++ behind ≡ old ++ ahead)
ahead_kept old new left rest w h = λ behind gives. (behind, gives_kept left rest behind h gives, ap (λ (ys : List ℕ). ys ++ behind) w)

pub waits_more : (old new : Cursor) (moved : List ℕ) (count : ℕ) → new.waiting ≡ old.waiting ++ moved → length moved ≡ count → WaitsMore old new count
waits_more old new moved count w size =
    record {
      front = ap (take (length old.waiting)) w ∙ take_at old.waiting moved (length old.waiting) refl;
      size = ap length w ∙ length-append old.waiting moved ∙ ap (λ (n : ℕ). length old.waiting + n) size;
    }

pub waits_same : (old new : Cursor) → new.waiting ≡ old.waiting → WaitsMore old new 0
waits_same old new w = waits_more old new [] 0 (w ∙ sym (append-nil old.waiting)) refl
