-- The whole lines of bytes, and how lines that are handed out one after another make them up.
use Rattle.std.proofs.Common.{◌≡◌, ℕ, List, [], ◌∷◌, ◌++◌, Option, Ok, refl, sym, ap, ◌∙◌, append_assoc, append-nil}
use Rattle.std.specs.List.{AllByRecursion}
use Rattle.test_runner_core_streams.specs.Left.{OfSomeBytes, WhateverFollows}
use Rattle.test_runner_core_log_reader.specs.declared.next.Next.TheVariants as found
use Rattle.test_runner_core_log_reader.specs.Feeds.{IsPlain}
use Rattle.test_runner_core_log_reader.specs.Items.{ended_parts, whole_lines}
use Rattle.test_runner_core_log_reader.specs.Cursor.{Cursor}
use Rattle.test_runner_core_log_reader.specs.Calls.{HandsAhead, KeepsAhead}
use Rattle.test_runner_core_log_reader.proofs.Items.{parts_first, parts_plain, parts_line}
use Rattle.test_runner_core_log_reader.proofs.Left.{gives_some}

-- each line with its line feed behind it, one after another
abbrev pub with_feeds : List (List ℕ) → List ℕ
with_feeds [] = []
with_feeds (line ∷ more) = line ++ 10 ∷ with_feeds more

-- no line feed stands in any of the lines
abbrev pub ArePlain : List (List ℕ) → Type 0
ArePlain = AllByRecursion IsPlain

-- a line that a line feed ends is the first
pub whole_line : (line rest : List ℕ) → IsPlain line → whole_lines (line ++ 10 ∷ rest) ≡ line ∷ whole_lines rest
whole_line line rest plain =
    let found = parts_first rest in
    ap ended_parts (parts_line line rest plain) ∙ ap (λ (ps : List (List ℕ)). ended_parts (line ∷ ps)) found.2
    ∙ ap (λ (ps : List (List ℕ)). line ∷ ended_parts ps) (sym found.2)

-- there is none where no line feed is
pub whole_none : (bytes : List ℕ) → IsPlain bytes → whole_lines bytes ≡ []
whole_none bytes plain = ap whole_lines (sym (append-nil bytes)) ∙ ap ended_parts (parts_plain bytes [] [] [] plain refl)

-- lines, each with its line feed, and then bytes without one
pub whole_lines-with_feeds : (front : List (List ℕ)) (last : List ℕ) → ArePlain front → IsPlain last → whole_lines (with_feeds front ++ last) ≡ front
whole_lines-with_feeds [] last lines plain = whole_none last plain
whole_lines-with_feeds (line ∷ front) last lines plain =
    ap whole_lines (append_assoc line (10 ∷ with_feeds front) last) ∙ whole_line line (with_feeds front ++ last) lines.0
    ∙ ap (λ (more : List (List ℕ)). line ∷ more) (whole_lines-with_feeds front last lines.1 plain)

pub with_feeds-append : (front back : List (List ℕ)) → with_feeds (front ++ back) ≡ with_feeds front ++ with_feeds back
with_feeds-append [] back = refl
with_feeds-append (line ∷ front) back =
    ap (λ (bytes : List ℕ). line ++ 10 ∷ bytes) (with_feeds-append front back) ∙ sym (append_assoc line (10 ∷ with_feeds front) (with_feeds back))

-- one more line
pub with_feeds-more : (front : List (List ℕ)) (line : List ℕ) → with_feeds (front ++ line ∷ []) ≡ with_feeds front ++ (line ++ 10 ∷ [])
with_feeds-more front line = with_feeds-append front (line ∷ [])

pub plain_more : (front : List (List ℕ)) (line : List ℕ) → ArePlain front → IsPlain line → ArePlain (front ++ line ∷ [])
plain_more [] line lines plain = (plain, tt)
plain_more (first ∷ front) line lines plain = (lines.0, plain_more front line lines.1 plain)

-- lines and their line feeds are the first bytes that were ahead, and the others still are
abbrev pub TakesLines : Cursor → Option (List ℕ) → List (List ℕ) → Cursor → Option (List ℕ) → Type 0
TakesLines old left front new rest = WhateverFollows left rest (λ ahead behind. old.waiting ++ ahead ≡ with_feeds front ++ (new.waiting ++ behind)) × ArePlain front

pub takes_none : (cursor : Cursor) (left : Option (List ℕ)) → TakesLines cursor left [] cursor left
takes_none cursor left = (λ behind gives. (behind, gives, refl), tt)

-- a call that hands out a line
pub takes_line : (old mid new : Cursor) (left middle rest : Option (List ℕ)) (front : List (List ℕ)) → TakesLines old left front mid middle
    → HandsAhead mid middle new rest (Ok found.Line) → TakesLines old left (front ++ new.line ∷ []) new rest
takes_line old mid new left middle rest front before line = (
  λ behind gives.
      let was = line.0 behind gives in
      let first = before.0 was.0 was.1 in (
        first.0,
        first.1,
        first.2 ∙ ap (λ (bytes : List ℕ). with_feeds front ++ bytes) (was.2 ∙ sym (append_assoc new.line (10 ∷ []) (new.waiting ++ behind)))
            ∙ sym (append_assoc (with_feeds front) (new.line ++ 10 ∷ []) (new.waiting ++ behind))
            ∙ ap (λ (bytes : List ℕ). bytes ++ (new.waiting ++ behind)) (sym (with_feeds-more front new.line)),
      ),
  plain_more front new.line before.1 line.1,
)

-- any other call
pub takes_kept : (old mid new : Cursor) (left middle rest : Option (List ℕ)) (front : List (List ℕ)) → TakesLines old left front mid middle
    → KeepsAhead mid middle new rest → TakesLines old left front new rest
takes_kept old mid new left middle rest front before kept = (
  λ behind gives.
      let was = kept behind gives in
      let first = before.0 was.0 was.1 in (first.0, first.1, first.2 ∙ ap (λ (bytes : List ℕ). with_feeds front ++ bytes) (sym was.2)),
  before.1,
)

-- where no line feed waits, the lines that were taken are the whole lines of what was got
pub got_lines : (old new : Cursor) (left rest : Option (List ℕ)) (front : List (List ℕ)) → TakesLines old left front new rest → IsPlain new.waiting
    → OfSomeBytes left rest (λ bytes behind. (got : List ℕ) × (old.waiting ++ bytes ≡ got ++ behind) × (whole_lines got ≡ front))
got_lines old new left rest front taken plain =
    let some = gives_some rest in
    let was = taken.0 some.0 some.1 in (
      some.0,
      some.1,
      (
        was.0,
        was.1,
        (
          with_feeds front ++ new.waiting,
          was.2 ∙ sym (append_assoc (with_feeds front) new.waiting some.0),
          whole_lines-with_feeds front new.waiting taken.1 plain,
        ),
      ),
    )
