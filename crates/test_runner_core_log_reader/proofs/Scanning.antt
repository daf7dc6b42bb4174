-- What a look at the bytes that wait tells.
use Rattle.std.proofs.Common.{◌≡◌, ℕ, ◌+◌, ◌-◌, ◌<◌, ◌≤◌, Bool, true, false, cond, ltb, leb, eqb, ◌&&◌, ◌||◌, List, [], ◌∷◌, ◌++◌, length, take, drop, Option, Some, None, Ok, refl, sym, ap, ◌∙◌, subst, arith, append_assoc, length-append}
use Rattle.std.specs.List.{slice_range}
use Rattle.std.specs.Option.{option_map_or}
use Rattle.std.proofs.lemmas.List.{take-append-drop, length-take}
use Rattle.std.proofs.Math.Seq.{take-append-add, drop-append-add}
use Rattle.std.proofs.lemmas.Bool.Decides.{nat_tests}
use Rattle.test_runner_core_log_reader.specs.declared.limits.TheConstants.{LINE_LIMIT, LOG_LIMIT}
use Rattle.test_runner_core_log_reader.specs.declared.fault.LineFault.{LineFault}
use Rattle.test_runner_core_log_reader.specs.declared.fault.LineFault.TheVariants as faults
use Rattle.test_runner_core_log_reader.specs.declared.next.Next.TheVariants as found
use Rattle.test_runner_core_log_reader.specs.Feeds.{IsPlain, IsFirstFeed}
use Rattle.test_runner_core_log_reader.specs.Items.{Line, Refused, line_fault, items}
use Rattle.test_runner_core_log_reader.specs.Cursor.{Cursor, Unmoved}
use Rattle.test_runner_core_log_reader.specs.Calls.{idle_reads, Scanned, scan_of}
use Rattle.test_runner_core_log_reader.proofs.Items.{items_line, items_limit}
use Rattle.test_runner_core_log_reader.proofs.Ranges.{range_join, take-range, drop-range, length-range, plain-append}

-- no line feed in what was looked at before, and none in the rest
pub all_plain : (xs : List ℕ) (start scanned end : ℕ) → start ≤ scanned → scanned ≤ end
    → IsPlain (slice_range xs start scanned) → IsPlain (slice_range xs scanned end) → IsPlain (slice_range xs start end)
all_plain xs start scanned end a b before after =
    subst IsPlain (sym (range_join xs start scanned end a b)) (plain-append (slice_range xs start scanned) (slice_range xs scanned end) before after)

-- none before the line feed that was found in the rest
pub plain_before : (xs : List ℕ) (start scanned end at : ℕ) → start ≤ scanned → scanned ≤ end → end ≤ length xs
    → IsPlain (slice_range xs start scanned) → IsFirstFeed (slice_range xs scanned end) (Some at) → IsPlain (slice_range xs start (scanned + at))
plain_before xs start scanned end at a b filled before feed =
    let size = length-range xs scanned end filled in
    let within : at ≤ end - scanned = let h = feed.0 in omega arith in
    all_plain xs start scanned (scanned + at) a (omega arith) before (subst IsPlain (take-range xs scanned end at within) feed.1)

-- a line feed found in the rest
pub feed_behind : (xs : List ℕ) (start scanned end at : ℕ) → start ≤ scanned → scanned ≤ end → end ≤ length xs
    → IsPlain (slice_range xs start scanned) → IsFirstFeed (slice_range xs scanned end) (Some at)
    → IsFirstFeed (slice_range xs start end) (Some (scanned + at - start))
feed_behind xs start scanned end at a b filled before feed =
    let place : scanned - start + at ≡ scanned + at - start = omega arith in
    subst (λ (n : ℕ). IsFirstFeed (slice_range xs start end) (Some n)) place
    (subst (λ (ys : List ℕ). IsFirstFeed ys (Some (scanned - start + at))) (sym (range_join xs start scanned end a b))
    (subst (λ (n : ℕ). IsFirstFeed (slice_range xs start scanned ++ slice_range xs scanned end) (Some (n + at)))
    (length-range xs start scanned (omega arith)) (feed_after (slice_range xs start scanned) (slice_range xs scanned end) at before feed)))
  where
    feed_after : (ys zs : List ℕ) (n : ℕ) → IsPlain ys → IsFirstFeed zs (Some n) → IsFirstFeed (ys ++ zs) (Some (length ys + n))
    feed_after ys zs n plain here = (
      let within = here.0 in omega (arith, length-append ys zs),
      subst IsPlain (sym (take-append-add ys zs n)) (plain-append ys (take n zs) plain here.1),
      drop-append-add ys zs n ∙ here.2
          ∙ ap (λ (ws : List ℕ). 10 ∷ ws) (sym (drop-append-add ys zs (n + 1)) ∙ ap (λ (m : ℕ). drop m (ys ++ zs)) (let e : length ys + (n + 1) ≡ length ys + n + 1 = omega arith in e)),
    )

-- the bytes up to the first line feed are the line, those behind it wait
pub cut_at : (xs : List ℕ) (start end at : ℕ) → start ≤ end → end ≤ length xs → IsFirstFeed (slice_range xs start end) (Some at)
    → (at < end - start) × (slice_range xs start end ≡ slice_range xs start (start + at) ++ 10 ∷ slice_range xs (start + at + 1) end)
    × IsPlain (slice_range xs start (start + at)) × (length (slice_range xs start (start + at)) ≡ at)
cut_at xs start end at order filled feed =
    let size = length-range xs start end filled in
    let within : at < end - start = let h = feed.0 in omega arith in
    let front : take at (slice_range xs start end) ≡ slice_range xs start (start + at) = take-range xs start end at (omega arith) in
    let back : drop (at + 1) (slice_range xs start end) ≡ slice_range xs (start + at + 1) end =
    drop-range xs start end (at + 1) (omega arith) ∙ ap (λ (n : ℕ). slice_range xs n end) (let e : start + (at + 1) ≡ start + at + 1 = omega arith in e) in (
      within,
      sym (take-append-drop at (slice_range xs start end)) ∙ ap (λ (ys : List ℕ). ys ++ drop at (slice_range xs start end)) front
          ∙ ap (λ (ys : List ℕ). slice_range xs start (start + at) ++ ys) (feed.2 ∙ ap (λ (ys : List ℕ). 10 ∷ ys) back),
      subst IsPlain front feed.1,
      length-range xs start (start + at) (omega arith) ∙ omega arith,
    )

-- a line that a line feed ends has no fault, or one at a limit
ended_is_idle : (before size : ℕ) (fault : LineFault) → line_fault before size true ≡ Some fault → idle_reads (Ok (found.Refused fault)) ≡ 0
ended_is_idle before size fault h =
    by_tests (ltb LINE_LIMIT size && leb (before + LINE_LIMIT) LOG_LIMIT) (ltb LOG_LIMIT (before + size + 1)) fault h
  where
    by_tests : (a b : Bool) (f : LineFault) → cond a (Some faults.LineTooLong) (cond b (Some faults.LogTooLong) None) ≡ Some f → idle_reads (Ok (found.Refused f)) ≡ 0
    by_tests a b faults.LineTooLong e = refl
    by_tests a b faults.LogTooLong e = refl
    by_tests true b faults.NoLineEnd e = cc
    by_tests false true faults.NoLineEnd e = cc
    by_tests false false faults.NoLineEnd e = cc

-- the line that was found is refused, whatever follows
pub refused_line : (before : ℕ) (waiting line more : List ℕ) (fault : LineFault) → waiting ≡ line ++ 10 ∷ more → IsPlain line → line_fault before (length line) true ≡ Some fault
    → ((rest : List ℕ) → items before (waiting ++ rest) ≡ Refused fault ∷ []) × (idle_reads (Ok (found.Refused fault)) ≡ 0)
refused_line before waiting line more fault whole plain h = (
  λ rest.
      ap (items before) (ap (λ (ys : List ℕ). ys ++ rest) whole ∙ append_assoc line (10 ∷ more) rest)
      ∙ items_line before line (more ++ rest) plain
      ∙ ap (λ (o : Option LineFault). option_map_or (λ f. Refused f ∷ []) o (Line line ∷ items (before + length line + 1) (more ++ rest))) h,
  ended_is_idle before (length line) fault h,
)

-- the same of the place of the line feed
pub refused_at : (before : ℕ) (waiting : List ℕ) (at : ℕ) (fault : LineFault) → IsFirstFeed waiting (Some at) → line_fault before at true ≡ Some fault
    → ((rest : List ℕ) → items before (waiting ++ rest) ≡ Refused fault ∷ []) × (idle_reads (Ok (found.Refused fault)) ≡ 0)
refused_at before waiting at fault feed h =
    let size : at ≡ length (take at waiting) = let within = feed.0 in omega (arith, length-take at waiting) in
    refused_line before waiting (take at waiting) (drop (at + 1) waiting) fault
    (sym (take-append-drop at waiting) ∙ ap (λ (ys : List ℕ). take at waiting ++ ys) feed.2) feed.1
    (ap (λ (n : ℕ). line_fault before n true) (sym size) ∙ h)

-- nothing is wrong yet, or only that no line feed came
abbrev pub NotLimit : Option LineFault → Type 0
NotLimit None = Unit {0}
NotLimit (Some faults.LineTooLong) = ⊥
NotLimit (Some faults.LogTooLong) = ⊥
NotLimit (Some faults.NoLineEnd) = Unit {0}

-- bytes without a line feed that aren't past a limit
pub below_limit : (before size : ℕ) (o : Option LineFault) → line_fault before size false ≡ o → NotLimit o → (before + size ≤ LOG_LIMIT) × (size ≤ LINE_LIMIT)
below_limit before size o h other =
    by_tests (ltb LINE_LIMIT size && leb (before + LINE_LIMIT) LOG_LIMIT) (ltb LOG_LIMIT (before + size + 0)) (false || eqb size 0) refl refl o h other
  where
    by_tests : (a b c : Bool) → (ltb LINE_LIMIT size && leb (before + LINE_LIMIT) LOG_LIMIT) ≡ a → ltb LOG_LIMIT (before + size + 0) ≡ b → (o : Option LineFault)
        → cond a (Some faults.LineTooLong) (cond b (Some faults.LogTooLong) (cond c None (Some faults.NoLineEnd))) ≡ o → NotLimit o → (before + size ≤ LOG_LIMIT) × (size ≤ LINE_LIMIT)
    by_tests true b c e f o h other = absurd (subst NotLimit (sym h) other)
    by_tests false true c e f o h other = absurd (subst NotLimit (sym h) other)
    by_tests false false c e f o h other = (grind (arith, nat_tests), grind (arith, nat_tests))

-- what bytes without a line feed tell
pub nothing_found : (old new : Cursor) → Unmoved old new → IsPlain old.waiting → (o : Option LineFault) → line_fault old.handed (length old.waiting) false ≡ o
    → Scanned (scan_of o) old new
nothing_found old new same plain None h = (same, plain, (below_limit old.handed (length old.waiting) None h tt).0, (below_limit old.handed (length old.waiting) None h tt).1)
nothing_found old new same plain (Some faults.LineTooLong) h = (same, λ rest. items_limit old.handed old.waiting rest faults.LineTooLong plain tt h, refl)
nothing_found old new same plain (Some faults.LogTooLong) h = (same, λ rest. items_limit old.handed old.waiting rest faults.LogTooLong plain tt h, refl)
nothing_found old new same plain (Some faults.NoLineEnd) h = (same, plain, (below_limit old.handed (length old.waiting) (Some faults.NoLineEnd) h tt).0, (below_limit old.handed (length old.waiting) (Some faults.NoLineEnd) h tt).1)
