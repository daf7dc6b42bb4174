-- The first line of a stream, and what stays true while it is looked for.
use Rattle.std.proofs.Common.{◌≡◌, ◌≢◌, ℕ, ◌+◌, ◌<◌, ◌≤◌, Bool, true, false, inl, inr, not, cond, eqb, List, [], ◌∷◌, ◌++◌, length, take, drop, Option, Some, None, refl, sym, ap, ◌∙◌, subst, arith, zero-add, append-nil, append_assoc, length-append}
use Rattle.std.specs.Prelude.{◌⊎◌}
use Rattle.std.specs.List.{position_or_len}
use Rattle.std.proofs.lemmas.Bool.Decides.{eqb_tells}
use Rattle.std.specs.Option.{unwrap_or}
use Rattle.std.specs.Io.KnownBytes.{IsAtEnd}
use Rattle.std.proofs.Math.Seq.{take-append-add, drop-append-add}
use Rattle.std.proofs.lemmas.List.{take-append-drop, take_all, length-take}
use Rattle.test_runner_core_log_reader.specs.declared.limits.TheConstants.{FIRST_LINE_LIMIT, LOG_LIMIT}
use Rattle.test_runner_core_log_reader.specs.Feeds.{IsPlain, IsFirstFeed, before_feed, behind_feed}
use Rattle.test_runner_core_log_reader.specs.Cursor.{Cursor, IsNear, bytes_received}
use Rattle.test_runner_core_log_reader.specs.Calls.{Cut, GetsPlain, KeepsAhead, PartsAtFirst, WaitsMore}
use Rattle.test_runner_core_log_reader.proofs.Items.{is_no_feed}
use Rattle.test_runner_core_log_reader.proofs.Left.{gives_some}

-- where the first line feed stands behind plain bytes
at_plain : (plain more : List ℕ) → IsPlain plain → position_or_len (λ byte. eqb byte 10) (plain ++ more) ≡ length plain + position_or_len (λ byte. eqb byte 10) more
at_plain [] more h = sym (zero-add (position_or_len (λ byte. eqb byte 10) more))
at_plain (byte ∷ plain) more h =
    ap (λ (feed : Bool). cond (not feed) (1 + position_or_len (λ b. eqb b 10) (plain ++ more)) 0) (is_no_feed byte h.0)
    ∙ ap (λ (n : ℕ). 1 + n) (at_plain plain more h.1) ∙ omega arith

-- plain bytes stand before the first line feed
pub before_plain : (plain more : List ℕ) → IsPlain plain → before_feed (plain ++ more) ≡ plain ++ before_feed more
before_plain plain more h =
    ap (λ (n : ℕ). take n (plain ++ more)) (at_plain plain more h) ∙ take-append-add plain more (position_or_len (λ byte. eqb byte 10) more)

pub behind_plain : (plain more : List ℕ) → IsPlain plain → behind_feed (plain ++ more) ≡ behind_feed more
behind_plain plain more h =
    let n = position_or_len (λ byte. eqb byte 10) more in
    ap (λ (m : ℕ). drop m (plain ++ more)) (ap (λ (m : ℕ). m + 1) (at_plain plain more h) ∙ (let e : length plain + n + 1 ≡ length plain + (n + 1) = omega arith in e))
    ∙ drop-append-add plain more (n + 1)

-- a plain line stands before its line feed, and what follows behind it
pub before_line : (line more : List ℕ) → IsPlain line → before_feed (line ++ 10 ∷ more) ≡ line
before_line line more plain = before_plain line (10 ∷ more) plain ∙ append-nil line

pub behind_line : (line more : List ℕ) → IsPlain line → behind_feed (line ++ 10 ∷ more) ≡ more
behind_line line more plain = behind_plain line (10 ∷ more) plain

-- bytes are plain, or a plain line, its line feed and what follows
pub split_feed : (bytes : List ℕ) → IsPlain bytes ⊎ ((line : List ℕ) × ((more : List ℕ) × (IsPlain line × (bytes ≡ line ++ 10 ∷ more))))
split_feed [] = inl tt
split_feed (byte ∷ rest) = by_test (eqb_tells byte 10) (split_feed rest)
  where
    by_test : ((eqb byte 10 ≡ true) × (byte ≡ 10)) ⊎ ((eqb byte 10 ≡ false) × (byte ≢ 10)) → IsPlain rest ⊎ ((line : List ℕ) × ((more : List ℕ) × (IsPlain line × (rest ≡ line ++ 10 ∷ more))))
        → IsPlain (byte ∷ rest) ⊎ ((line : List ℕ) × ((more : List ℕ) × (IsPlain line × (byte ∷ rest ≡ line ++ 10 ∷ more))))
    by_test (inl (test, is)) behind = inr ([], (rest, (tt, ap (λ (b : ℕ). b ∷ rest) is)))
    by_test (inr (test, apart)) (inl plain) = inl (apart, plain)
    by_test (inr (test, apart)) (inr (line, (more, (plain, is)))) = inr (byte ∷ line, (more, ((apart, plain), ap (λ (t : List ℕ). byte ∷ t) is)))

-- a stream without a line feed is all before it, and any other is divided there
pub divides : (bytes : List ℕ) → (IsPlain bytes × (behind_feed bytes ≡ [])) ⊎ (IsPlain (before_feed bytes) × (bytes ≡ before_feed bytes ++ 10 ∷ behind_feed bytes))
divides bytes = by_feed (split_feed bytes)
  where
    by_feed : IsPlain bytes ⊎ ((line : List ℕ) × ((more : List ℕ) × (IsPlain line × (bytes ≡ line ++ 10 ∷ more))))
        → (IsPlain bytes × (behind_feed bytes ≡ [])) ⊎ (IsPlain (before_feed bytes) × (bytes ≡ before_feed bytes ++ 10 ∷ behind_feed bytes))
    by_feed (inl plain) = inl (plain, ap behind_feed (sym (append-nil bytes)) ∙ behind_plain bytes [] plain)
    by_feed (inr (line, (more, (plain, is)))) =
        let before : before_feed bytes ≡ line = ap before_feed is ∙ before_line line more plain in
        let behind : behind_feed bytes ≡ more = ap behind_feed is ∙ behind_line line more plain in
        inr (subst IsPlain (sym before) plain, is ∙ ap (λ (t : List ℕ). t ++ 10 ∷ more) (sym before) ∙ ap (λ (t : List ℕ). before_feed bytes ++ 10 ∷ t) (sym behind))

too_long : (plain more : List ℕ) → IsPlain plain → FIRST_LINE_LIMIT < length plain → FIRST_LINE_LIMIT < length (before_feed (plain ++ more))
too_long plain more h long =
    omega (arith, ap length (before_plain plain more h), length-append plain (before_feed more))

-- the same of the bytes up to a line feed
feed_too_far : (bytes more : List ℕ) (at : ℕ) → IsFirstFeed bytes (Some at) → FIRST_LINE_LIMIT < at → FIRST_LINE_LIMIT < length (before_feed (bytes ++ more))
feed_too_far bytes more at feed far =
    let size : length (take at bytes) ≡ at = let within = feed.0 in omega (arith, length-take at bytes) in
    let front = too_long (take at bytes) (drop at bytes ++ more) feed.1 (omega arith) in
    subst (λ (xs : List ℕ). FIRST_LINE_LIMIT < length (before_feed xs))
    (sym (append_assoc (take at bytes) (drop at bytes) more) ∙ ap (λ (xs : List ℕ). xs ++ more) (take-append-drop at bytes)) front

-- the line that waits is too long, whether its line feed came or not
pub first_too_long : (waiting more : List ℕ) (found : Option ℕ) (size : ℕ) → IsFirstFeed waiting found → size ≡ length waiting → FIRST_LINE_LIMIT < unwrap_or found size
    → FIRST_LINE_LIMIT < length (before_feed (waiting ++ more))
first_too_long waiting more None size plain all long = too_long waiting more plain (omega (arith, all, long))
first_too_long waiting more (Some at) size feed all long = feed_too_far waiting more at feed long

-- the beginning of a stream
abbrev pub beginning : Cursor
beginning = record { line = []; waiting = []; handed = 0 }

-- what is ahead is the whole stream, each call brought a byte and none failed; there is no call
-- past the limit, and each but the last brought some of the first line
pub record ReadingFirst (stream : Option (List ℕ)) (first_calls first_failures : ℕ) (lines : Cursor) (rest : Option (List ℕ)) (calls failures : ℕ) : Type 0 where
  pub ahead : KeepsAhead beginning stream lines rest
  pub handed : lines.handed ≡ 0
  pub near : IsNear lines
  pub grown : calls ≤ first_calls + length lines.waiting
  pub first : calls ≤ first_calls + length (before_feed lines.waiting) + 1
  pub bounded : calls ≤ first_calls + FIRST_LINE_LIMIT + 1
  pub limit : bytes_received lines ≤ LOG_LIMIT + 1
  pub unfailed : failures ≡ first_failures

-- known bytes stay known
pub stays_known : (old new : Cursor) (left : List ℕ) → KeepsAhead old (Some left) new None → ⊥
stays_known old new left ahead =
    let few = ahead [] tt in
    let more = ahead (0 ∷ []) tt in
    let same : new.waiting ++ [] ≡ new.waiting ++ 0 ∷ [] = few.2 ∙ ap (λ (bytes : List ℕ). old.waiting ++ bytes) (few.1 ∙ sym more.1) ∙ sym more.2 in
    absurd (omega (arith, ap length same, length-append new.waiting [], length-append new.waiting (0 ∷ [])))

-- what was got where no line feed waited
pub gets_plain : (stream rest : Option (List ℕ)) (mid last : Cursor) → KeepsAhead beginning stream last rest → IsPlain mid.waiting → WaitsMore mid last 0 → GetsPlain stream rest
gets_plain None rest mid last ahead plain same = ([], tt, tt)
gets_plain (Some bytes) None mid last ahead plain same = absurd (stays_known beginning last bytes ahead)
gets_plain (Some bytes) (Some rest) mid last ahead plain same =
    let size = same.size in
    let waiting : last.waiting ≡ mid.waiting = sym (take_all (length mid.waiting) last.waiting (omega arith)) ∙ same.front in
    let was = ahead rest refl in
    (last.waiting, sym was.1 ∙ sym was.2, subst IsPlain (sym waiting) plain)

-- a line that a line feed ends
pub parts_at_feed : (stream rest : Option (List ℕ)) (mid new : Cursor) → KeepsAhead beginning stream mid rest → Cut (length new.line) mid new
    → length new.line ≤ FIRST_LINE_LIMIT → PartsAtFirst stream (Some new) rest
parts_at_feed stream rest mid new ahead line short = λ behind gives.
    let was = ahead behind gives in
    let whole : new.line ++ 10 ∷ (new.waiting ++ behind) ≡ was.0 =
    sym (append_assoc new.line (10 ∷ new.waiting) behind) ∙ ap (λ (xs : List ℕ). xs ++ behind) (sym line.whole) ∙ was.2 in
    let front : before_feed was.0 ≡ new.line = ap before_feed (sym whole) ∙ before_line new.line (new.waiting ++ behind) line.plain in (
      was.0,
      was.1,
      (
        sym front,
        omega (arith, ap length front),
        sym (ap behind_feed (sym whole) ∙ behind_line new.line (new.waiting ++ behind) line.plain),
      ),
    )

-- a line that is too long whatever follows
pub parts_too_long : (stream rest : Option (List ℕ)) (lines : Cursor) → KeepsAhead beginning stream lines rest
    → ((more : List ℕ) → FIRST_LINE_LIMIT < length (before_feed (lines.waiting ++ more))) → PartsAtFirst stream None rest
parts_too_long stream rest lines ahead long =
    let some = gives_some rest in
    let was = ahead some.0 some.1 in
    (was.0, was.1, subst (λ (bytes : List ℕ). FIRST_LINE_LIMIT < length (before_feed bytes)) was.2 (long some.0))

-- where no byte came, what waits is what waited
waits_still : (mid last : Cursor) → WaitsMore mid last 0 → last.waiting ≡ mid.waiting
waits_still mid last more = let size = more.size in sym (take_all (length mid.waiting) last.waiting (omega arith)) ∙ more.front

-- the last line, which the stream's end ends. Where the reader's bytes aren't known, it may give
-- others behind it, as if there were a line feed
pub parts_at_end : (stream rest : Option (List ℕ)) (mid last new : Cursor) → KeepsAhead beginning stream last rest → IsPlain mid.waiting → length mid.waiting ≤ FIRST_LINE_LIMIT
    → WaitsMore mid last 0 → IsAtEnd rest → new.line ≡ last.waiting → new.waiting ≡ [] → PartsAtFirst stream (Some new) rest
parts_at_end None rest mid last new ahead plain short more over line empty = λ behind gives.
    let is = line ∙ waits_still mid last more in
    let front = before_line mid.waiting behind plain in (
      mid.waiting ++ 10 ∷ behind,
      tt,
      (is ∙ sym front, omega (arith, ap length front), ap (λ (xs : List ℕ). xs ++ behind) empty ∙ sym (behind_line mid.waiting behind plain)),
    )
parts_at_end (Some bytes) None mid last new ahead plain short more over line empty = absurd (stays_known beginning last bytes ahead)
parts_at_end (Some bytes) (Some rest) mid last new ahead plain short more over line empty = λ behind gives.
    let same = waits_still mid last more in
    let was = ahead rest refl in
    let whole : mid.waiting ++ [] ≡ bytes = ap (λ (xs : List ℕ). xs ++ []) (sym same) ∙ ap (λ (xs : List ℕ). last.waiting ++ xs) (sym over) ∙ was.2 ∙ was.1 in
    let front : before_feed bytes ≡ mid.waiting = ap before_feed (sym whole) ∙ before_plain mid.waiting [] plain ∙ append-nil mid.waiting in (
      bytes,
      refl,
      (
        line ∙ same ∙ sym front,
        omega (arith, ap length front),
        ap (λ (xs : List ℕ). xs ++ behind) empty ∙ gives ∙ over ∙ sym (ap behind_feed (sym whole) ∙ behind_plain mid.waiting [] plain),
      ),
    )
