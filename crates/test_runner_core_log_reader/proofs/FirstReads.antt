-- What was taken of a stream for its first line, and how often the reader was asked.
use Rattle.std.proofs.Common.{◌≡◌, ℕ, ◌+◌, ◌≤◌, inl, inr, List, [], ◌∷◌, ◌++◌, length, drop, Option, Some, None, refl, sym, ap, ◌∙◌, arith, append_assoc, append-nil, length-append}
use Rattle.std.specs.Prelude.{◌⊎◌}
use Rattle.std.specs.Option.{IfSome}
use Rattle.std.proofs.lemmas.List.{take-append-drop}
use Rattle.test_runner_core_log_reader.specs.Feeds.{IsPlain, before_feed}
use Rattle.test_runner_core_log_reader.specs.Cursor.{Cursor, IsNear}
use Rattle.test_runner_core_log_reader.specs.Calls.{GetsNear, KeepsAhead, WaitsMore}
use Rattle.test_runner_core_log_reader.proofs.FirstLine.{before_line, before_plain, beginning, split_feed, stays_known}

-- what stands before the first line feed still does where more follows
before_grows : (bytes more : List ℕ) → length (before_feed bytes) ≤ length (before_feed (bytes ++ more))
before_grows bytes more = by_feed (split_feed bytes)
  where
    by_feed : IsPlain bytes ⊎ ((line : List ℕ) × ((rest : List ℕ) × (IsPlain line × (bytes ≡ line ++ 10 ∷ rest)))) → length (before_feed bytes) ≤ length (before_feed (bytes ++ more))
    by_feed (inl plain) =
        let all : before_feed bytes ≡ bytes = ap before_feed (sym (append-nil bytes)) ∙ before_plain bytes [] plain ∙ append-nil bytes in
        omega (arith, ap length all, ap length (before_plain bytes more plain), length-append bytes (before_feed more))
    by_feed (inr (line, (rest, (plain, is)))) =
        let few : before_feed bytes ≡ line = ap before_feed is ∙ before_line line rest plain in
        let many : before_feed (bytes ++ more) ≡ line =
        ap (λ (ys : List ℕ). before_feed (ys ++ more)) is ∙ ap before_feed (append_assoc line (10 ∷ rest) more) ∙ before_line line (rest ++ more) plain in
        omega (arith, ap length few, ap length many)

-- plain bytes that waited are of the first line, whatever came behind them
waited_is_first : (old new : Cursor) (count : ℕ) → IsPlain old.waiting → WaitsMore old new count → length old.waiting ≤ length (before_feed new.waiting)
waited_is_first old new count plain more =
    let behind = drop (length old.waiting) new.waiting in
    let whole : new.waiting ≡ old.waiting ++ behind =
    sym (take-append-drop (length old.waiting) new.waiting) ∙ ap (λ (ys : List ℕ). ys ++ behind) more.front in
    omega (arith, ap length (ap before_feed whole ∙ before_plain old.waiting behind plain), length-append old.waiting (before_feed behind))

-- each call but the last brought some of the first line
pub asked_once_more : (old new : Cursor) (count calls mid first : ℕ) → IsPlain old.waiting → WaitsMore old new count → mid ≤ first + length old.waiting → calls ≤ mid + 1
    → calls ≤ first + length (before_feed new.waiting) + 1
asked_once_more old new count calls mid first plain more grown called = omega (arith, waited_is_first old new count plain more)

-- the same of the whole stream, where its bytes are known
pub reads_first : (stream rest : Option (List ℕ)) (lines : Cursor) (calls first : ℕ) → KeepsAhead beginning stream lines rest → calls ≤ first + length (before_feed lines.waiting) + 1
    → IfSome stream (λ bytes. calls ≤ first + length (before_feed bytes) + 1)
reads_first None rest lines calls first ahead few = tt
reads_first (Some bytes) None lines calls first ahead few = absurd (stays_known beginning lines bytes ahead)
reads_first (Some bytes) (Some rest) lines calls first ahead few =
    let was = ahead rest refl in
    let whole : lines.waiting ++ rest ≡ bytes = was.2 ∙ was.1 in
    omega (arith, before_grows lines.waiting rest, ap (λ (ys : List ℕ). length (before_feed ys)) whole)

-- what was taken is what waits
pub gets_near : (stream rest : Option (List ℕ)) (lines : Cursor) → KeepsAhead beginning stream lines rest → IsNear lines → GetsNear stream rest
gets_near None rest lines ahead near = (lines.waiting, tt, near)
gets_near (Some bytes) None lines ahead near = absurd (stays_known beginning lines bytes ahead)
gets_near (Some bytes) (Some rest) lines ahead near =
    let was = ahead rest refl in (lines.waiting, sym was.1 ∙ sym was.2, near)
