-- The panic messages that are taken, one more at a time.
use Rattle.std.proofs.Common.{◌≡◌, ◌≢◌, ◌↔◌, ◌+◌, ◌-◌, ◌<◌, ◌≤◌, ℕ, List, [], ◌∷◌, ◌++◌, Option, Some, None, length, take, drop, length-drop, get_or, length-append, refl, sym, ap, subst, ◌∙◌, inl, inr, arith}
use Rattle.std.specs.List.{All, AllPairs, Contains}
use Rattle.std.proofs.lemmas.Bool.{cases_lt, cases_eq}
use Rattle.std.proofs.lemmas.List.Elements.{All-nil, All-push, All-weaker, All-contains, Contains-push, Contains-push_cases, Contains-append_left, Contains-get_or}
use Rattle.std.proofs.lemmas.List.{take_rest}
use Rattle.std.proofs.lemmas.List.Quantifiers.{all_pairs_push}
use Rattle.nextest_run_events_slices.specs.Places.{Span, BeginsWith, IsLineStart, IsPanicHead, IsPanic, IsCovered, IsLastStart, IsLastPanic}
use Rattle.nextest_run_events_slices.proofs.PanicHeads.{same_headed}

-- a panic message takes up some bytes
pub some_bytes : (bytes : List ℕ) (span : Span) → IsPanic bytes span → span.start < span.stop
some_bytes bytes span is = omega (arith, is.stop, ap length is.is_head.reads)

-- one that starts where another does ends where it does
pub same_stop : (bytes : List ℕ) (one other : Span) → IsPanic bytes one → IsPanic bytes other → one.start ≡ other.start → one.stop ≡ other.stop
same_stop bytes one other is is' e =
    let there : drop one.start bytes ≡ is'.head ++ is'.rest = ap (λ n. drop n bytes) e ∙ is'.stands in
    let rest : is.rest ≡ is'.rest = same_headed (drop one.start bytes) is.rest is'.rest (is.head, is.is_head, is.stands) (is'.head, is'.is_head, there) in
    let whole : is.head ++ is.rest ≡ is'.head ++ is'.rest = sym is.stands ∙ there in
    omega (arith, is.stop, is'.stop, ap length rest, length-append is.head is.rest, length-append is'.head is'.rest, ap length whole)

pub same_span : (one other : Span) → one.start ≡ other.start → one.stop ≡ other.stop → one ≡ other
same_span one other e f = λ i. record { start = e i; stop = f i }

-- what a head at the front of the bytes from a place on tells of the panic message there
module _ (bytes : List ℕ) (at : ℕ) where
  pub no_panic : ((rest : List ℕ) → ¬ (BeginsWith IsPanicHead (take (length bytes - at) (drop at bytes)) rest)) → (span : Span) → IsPanic bytes span → span.start ≢ at
  no_panic none span is e =
      none is.rest (is.head, is.is_head, take_rest bytes at ∙ ap (λ n. drop n bytes) (sym e) ∙ is.stands)

  pub panic_there : (rest : List ℕ) → IsLineStart bytes at → at ≤ length bytes → BeginsWith IsPanicHead (take (length bytes - at) (drop at bytes)) rest
      → (length bytes - length rest ≤ length bytes) × IsPanic bytes (record { start = at; stop = length bytes - length rest })
  panic_there rest line within begins =
      let stands : drop at bytes ≡ begins.0 ++ rest = sym (take_rest bytes at) ∙ begins.2 in
      let long : length (drop at bytes) ≡ length begins.0 + length rest = ap length stands ∙ length-append begins.0 rest in
      let left = length-drop at bytes in (
        omega arith,
        record {
          line = line;
          head = begins.0;
          rest = rest;
          is_head = begins.1;
          stands = stands;
          stop = omega arith;
        },
      )

-- all that are taken of those which start below a place
pub record AreTakenBelow (bytes : List ℕ) (limit : ℕ) (taken : List Span) : Type 0 where
  pub rising : AllPairs (λ one other. one.start < other.start) taken
  pub panics : All (IsPanic bytes) taken
  pub ended : All (λ span. span.stop ≤ limit) taken
  pub whole : (span : Span) → IsPanic bytes span → span.start < limit → Contains taken span ↔ ¬ (IsCovered taken span)

-- the last of them starts here, if there is one
abbrev pub IsWalked : List ℕ → ℕ → Option ℕ → Type 0
IsWalked bytes limit last = (taken : List Span) × AreTakenBelow bytes limit taken × IsLastStart taken last

pub walked_none : (bytes : List ℕ) → IsWalked bytes 0 None
walked_none bytes = (
  [],
  record {
    rising = λ i j d below within. absurd (omega arith);
    panics = All-nil (IsPanic bytes);
    ended = All-nil (λ span. span.stop ≤ 0);
    whole = λ span is below. absurd (omega arith);
  },
  refl,
)

module _ (bytes : List ℕ) (limit : ℕ) (taken : List Span) (before : AreTakenBelow bytes limit taken) where
  -- where no line starts none is taken
  further : (next : ℕ) → limit ≤ next → ((place : ℕ) → limit ≤ place → place < next → ¬ (IsLineStart bytes place)) → AreTakenBelow bytes next taken
  further next above none = record {
    rising = before.rising;
    panics = before.panics;
    ended = All-weaker (λ span. span.stop ≤ limit) (λ span. span.stop ≤ next) (λ span le. omega arith) taken before.ended;
    whole = λ span is below. elim (cases_lt span.start limit) [
      | inl under ↦ before.whole span is under
      | inr from ↦ absurd (none span.start from below is.line)
    ];
  }

  passed : ((span : Span) → IsPanic bytes span → span.start ≢ limit) → AreTakenBelow bytes (limit + 1) taken
  passed none = record {
    rising = before.rising;
    panics = before.panics;
    ended = All-weaker (λ span. span.stop ≤ limit) (λ span. span.stop ≤ limit + 1) (λ span le. omega arith) taken before.ended;
    whole = λ span is below. elim (cases_eq span.start limit) [
      | inl here ↦ absurd (none span is here)
      | inr other ↦ before.whole span is (omega arith)
    ];
  }

  started_below : (span : Span) → Contains taken span → (span.start < limit) × (span.stop ≤ limit)
  started_below span inside =
      let ends = All-contains (λ s. s.stop ≤ limit) taken span before.ended inside in
      let long = some_bytes bytes span (All-contains (IsPanic bytes) taken span before.panics inside) in
      (omega arith, ends)

  module _ (new : Span) (is_new : IsPanic bytes new) (here : new.start ≡ limit) where
    below_taken : (span : Span) → IsPanic bytes span → span.start < limit → Contains (taken ++ new ∷ []) span → ¬ (IsCovered (taken ++ new ∷ []) span)
    below_taken span is under inside covered =
        elim (Contains-push_cases taken new covered.0 covered.1) [
          | inl old ↦
              elim (Contains-push_cases taken new span inside) [
                | inl there ↦ (before.whole span is under).0 there (covered.0, old, covered.2, covered.3)
                | inr same ↦ let e = ap (λ (s : Span). s.start) same in omega arith
              ]
          | inr same ↦ let e = ap (λ (s : Span). s.start) same in let low = covered.2 in omega arith
        ]

    below_covered : (span : Span) → IsPanic bytes span → span.start < limit → ¬ (IsCovered (taken ++ new ∷ []) span) → Contains (taken ++ new ∷ []) span
    below_covered span is under free' =
        Contains-append_left taken (new ∷ []) span
        ((before.whole span is under).1 (λ covered. free' (covered.0, Contains-append_left taken (new ∷ []) covered.0 covered.1, covered.2, covered.3)))

    free : (span : Span) → span.start ≡ limit → ¬ (IsCovered (taken ++ new ∷ []) span)
    free span same covered =
        elim (Contains-push_cases taken new covered.0 covered.1) [
          | inl old ↦ let there = started_below covered.0 old in let high = covered.3 in omega (arith, there.1)
          | inr e ↦ let starts = ap (λ (s : Span). s.start) e in let low = covered.2 in omega arith
        ]

    taken_now : (span : Span) → IsPanic bytes span → span.start ≡ limit → Contains (taken ++ new ∷ []) span
    taken_now span is same =
        let starts : new.start ≡ span.start = here ∙ sym same in
        subst (Contains (taken ++ new ∷ [])) (same_span new span starts (same_stop bytes new span is_new is starts)) (Contains-push taken new)

    above_not_taken : (span : Span) → limit < span.start → ¬ (Contains (taken ++ new ∷ []) span)
    above_not_taken span above inside =
        elim (Contains-push_cases taken new span inside) [
          | inl old ↦ let there = started_below span old in omega (arith, there.0)
          | inr e ↦ let starts = ap (λ (s : Span). s.start) e in omega arith
        ]

    one_more : AreTakenBelow bytes new.stop (taken ++ new ∷ [])
    one_more =
        let long = some_bytes bytes new is_new in
        record {
          rising = all_pairs_push (λ one other. one.start < other.start) taken new before.rising (λ k d inside.
              let there = started_below (get_or taken k d) (Contains-get_or taken k d inside) in
              omega (arith, there.0));
          panics = All-push (IsPanic bytes) taken new before.panics is_new;
          ended = All-push (λ span. span.stop ≤ new.stop) taken new (All-weaker (λ span. span.stop ≤ limit) (λ span. span.stop ≤ new.stop) (λ span le. omega arith) taken before.ended) (omega arith);
          whole = λ span is below. elim (cases_lt span.start limit) [
            | inl under ↦ (below_taken span is under, below_covered span is under)
            | inr from ↦ elim (cases_eq span.start limit) [
              | inl same ↦ (λ _. free span same, λ _. taken_now span is same)
              | inr other ↦ (
                λ inside. absurd (above_not_taken span (omega arith) inside),
                λ free'. absurd (free' (new, Contains-push taken new, omega arith, below)),
              )
            ]
          ];
        }

-- the walk goes on from a line's start, past its panic message or without one, to the next line's
-- start
module _ (bytes : List ℕ) (at : ℕ) (last : Option ℕ) (walked : IsWalked bytes at last) where
  pub walk_past : ((span : Span) → IsPanic bytes span → span.start ≢ at) → IsWalked bytes (at + 1) last
  walk_past none = (walked.0, passed bytes at walked.0 walked.1 none, walked.2)

  pub walk_over : (stop : ℕ) → IsPanic bytes (record { start = at; stop = stop }) → IsWalked bytes stop (Some at)
  walk_over stop is =
      let new : Span = record { start = at; stop = stop } in
      (walked.0 ++ new ∷ [], one_more bytes at walked.0 walked.1 new is refl, (walked.0, new, refl, refl))

  pub walk_on : (next : ℕ) → at ≤ next → ((place : ℕ) → at ≤ place → place < next → ¬ (IsLineStart bytes place)) → IsWalked bytes next last
  walk_on next above none = (walked.0, further bytes at walked.0 walked.1 next above none, walked.2)

  pub walk_end : ((place : ℕ) → at ≤ place → ¬ (IsLineStart bytes place)) → IsLastPanic bytes last
  walk_end none = (
    walked.0,
    record {
      rising = walked.1.rising;
      panics = walked.1.panics;
      whole = λ span is. elim (cases_lt span.start at) [
        | inl under ↦ walked.1.whole span is under
        | inr from ↦ absurd (none span.start from is.line)
      ];
    },
    walked.2,
  )
