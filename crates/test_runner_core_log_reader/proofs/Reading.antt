-- What stays true while lines are looked for and the reader is asked for more, and what a call
-- hands out by it.
use Rattle.std.proofs.Common.{◌≡◌, ℕ, ◌+◌, ◌≤◌, Bool, true, false, cond, ltb, leb, eqb, ◌&&◌, ◌||◌, List, [], ◌∷◌, ◌++◌, length, Option, Some, None, Ok, refl, sym, ap, ◌∙◌, subst, arith, append_assoc, append-nil}
use Rattle.std.specs.Option.{option_map_or}
use Rattle.std.specs.Io.KnownBytes.{IsAtEnd}
use Rattle.std.proofs.lemmas.List.{take_all}
use Rattle.std.proofs.lemmas.Bool.Decides.{nat_tests}
use Rattle.test_runner_core_log_reader.specs.declared.limits.TheConstants.{LINE_LIMIT, LOG_LIMIT}
use Rattle.test_runner_core_log_reader.specs.declared.fault.LineFault.{LineFault}
use Rattle.test_runner_core_log_reader.specs.declared.fault.LineFault.TheVariants as faults
use Rattle.test_runner_core_log_reader.specs.declared.next.Next.TheVariants as found
use Rattle.test_runner_core_log_reader.specs.declared.next.Scan.TheVariants as scanned
use Rattle.test_runner_core_log_reader.specs.Feeds.{IsPlain}
use Rattle.test_runner_core_streams.specs.Left.{MayGive}
use Rattle.test_runner_core_log_reader.specs.Items.{Line, Refused, line_fault, items}
use Rattle.test_runner_core_log_reader.specs.Cursor.{Cursor, IsNear, bytes_received, items_ahead, tells_next}
use Rattle.test_runner_core_log_reader.specs.Calls.{KeepsAhead, Hands, Scanned, WaitsMore, idle_reads, end_of}
use Rattle.test_runner_core_log_reader.proofs.Left.{gives_none}
use Rattle.test_runner_core_log_reader.proofs.Items.{items_line, items_end}

-- what is ahead is what was ahead, few bytes wait behind the first line feed, each call brought a
-- byte, none failed, and the log's limit holds; there was no call, and the reader has what it had,
-- where the bytes that waited told what is next
pub record Reading (old : Cursor) (left : Option (List ℕ)) (old_calls old_failures : ℕ) (new : Cursor) (rest : Option (List ℕ)) (calls failures : ℕ) : Type 0 where
  pub ahead : KeepsAhead old left new rest
  pub handed : new.handed ≡ old.handed
  pub near : IsNear new
  pub grown : calls + bytes_received old ≤ old_calls + bytes_received new
  pub limit : bytes_received new ≤ LOG_LIMIT + 1
  pub unfailed : failures ≡ old_failures
  pub unread : tells_next old ≡ true → (calls ≡ old_calls) × (tells_next new ≡ true)
  pub still : tells_next old ≡ true → rest ≡ left

pub ahead_refl : (cursor : Cursor) (left : Option (List ℕ)) → KeepsAhead cursor left cursor left
ahead_refl cursor left = λ behind gives. (behind, gives, refl)

pub ahead_unmoved : (old mid new : Cursor) (left rest : Option (List ℕ)) → KeepsAhead old left mid rest → new.waiting ≡ mid.waiting → KeepsAhead old left new rest
ahead_unmoved old mid new left rest h w = λ behind gives. let was = h behind gives in (was.0, was.1, ap (λ (ys : List ℕ). ys ++ behind) w ∙ was.2)

pub ahead_then : (old mid new : Cursor) (left middle rest : Option (List ℕ)) → KeepsAhead old left mid middle → KeepsAhead mid middle new rest → KeepsAhead old left new rest
ahead_then old mid new left middle rest a b = λ behind gives. let was = b behind gives in let first = a was.0 was.1 in (first.0, first.1, was.2 ∙ first.2)

-- a line that was found is the first item
pub hands_line : (old mid new : Cursor) (left rest : Option (List ℕ)) → KeepsAhead old left mid rest → mid.handed ≡ old.handed → Scanned scanned.Line mid new
    → Hands old left new rest (Ok found.Line)
hands_line old mid new left rest ahead handed line = λ behind gives.
    let was = ahead behind gives in (
      was.0,
      was.1,
      ap (λ (n : ℕ). items n (old.waiting ++ was.0)) (sym handed)
          ∙ ap (items mid.handed) (sym was.2 ∙ ap (λ (ys : List ℕ). ys ++ behind) line.0 ∙ append_assoc new.line (10 ∷ new.waiting) behind)
          ∙ items_line mid.handed new.line (new.waiting ++ behind) line.1
          ∙ ap (λ (o : Option LineFault). option_map_or (λ f. Refused f ∷ []) o (Line new.line ∷ items (mid.handed + length new.line + 1) (new.waiting ++ behind))) line.2
          ∙ ap (λ (n : ℕ). Line new.line ∷ items n (new.waiting ++ behind)) (sym line.3),
    )

-- at the end, what waits is all that is ahead
hands_what_waits : (old new : Cursor) (left rest : Option (List ℕ)) (ahead : List ℕ) (o : Option LineFault) → MayGive left ahead → MayGive rest []
    → items_ahead new [] ≡ items_ahead old ahead → items_ahead new [] ≡ option_map_or (λ f. Refused f ∷ []) o [] → Hands old left new rest (Ok (end_of o))
hands_what_waits old new left rest ahead None gave gives same is = ([], gives, (ahead, gave, (sym same ∙ is, same)))
hands_what_waits old new left rest ahead (Some fault) gave gives same is = ([], gives, (ahead, gave, (sym same ∙ is, same)))

pub hands_end : (old mid new : Cursor) (left rest : Option (List ℕ)) → KeepsAhead old left new rest → new.handed ≡ old.handed → IsPlain mid.waiting → WaitsMore mid new 0 → IsAtEnd rest
    → Hands old left new rest (Ok (end_of (line_fault new.handed (length new.waiting) false)))
hands_end old mid new left rest ahead handed plain more over =
    let size = more.size in
    let same : new.waiting ≡ mid.waiting = sym (take_all (length mid.waiting) new.waiting (omega arith)) ∙ more.front in
    let gives = gives_none rest over in
    let was = ahead [] gives in
    hands_what_waits old new left rest was.0 (line_fault new.handed (length new.waiting) false) was.1 gives
    (ap (items new.handed) was.2 ∙ ap (λ (n : ℕ). items n (old.waiting ++ was.0)) handed)
    (ap (items new.handed) (append-nil new.waiting) ∙ items_end new.handed new.waiting (subst IsPlain (sym same) plain))

-- below the limits, the end takes one call that brings no byte
pub end_is_idle : (before size : ℕ) → before + size ≤ LOG_LIMIT → size ≤ LINE_LIMIT → idle_reads (Ok (end_of (line_fault before size false))) ≡ 1
end_is_idle before size within short =
    by_tests (ltb LINE_LIMIT size && leb (before + LINE_LIMIT) LOG_LIMIT) (ltb LOG_LIMIT (before + size + 0)) (false || eqb size 0) (grind (arith, nat_tests)) (grind (arith, nat_tests))
  where
    by_tests : (a b c : Bool) → a ≡ false → b ≡ false
        → idle_reads (Ok (end_of (cond a (Some faults.LineTooLong) (cond b (Some faults.LogTooLong) (cond c None (Some faults.NoLineEnd)))))) ≡ 1
    by_tests true b c e f = cc
    by_tests false true c e f = cc
    by_tests false false true e f = refl
    by_tests false false false e f = refl
