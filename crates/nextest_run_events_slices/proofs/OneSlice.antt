-- An output has one list of taken panic messages, and one answer.
use Rattle.std.proofs.Common.{◌≡◌, ◌⊎◌, ◌+◌, ◌-◌, ◌<◌, ℕ, zero, suc, List, [], ◌∷◌, ◌++◌, Option, Some, None, length, take, drop, slice_index, refl, sym, ap, subst, ◌∙◌, inl, inr, arith}
use Rattle.std.specs.Char.{is_whitespace}
use Rattle.std.specs.List.{AllPairs, Contains, concat}
use Rattle.std.proofs.lemmas.Bool.{cases_lt}
use Rattle.std.proofs.lemmas.List.Elements.{All-contains, Contains-push}
use Rattle.bstr.specs.Text.{lines_of}
use Rattle.bstr.specs.Trim.{trim_end_by}
use Rattle.nextest_run_events_slices.specs.declared.slices.ByteSubslice.{ByteSubslice}
use Rattle.nextest_run_events_slices.specs.declared.slices.TestOutputErrorSlice.{TestOutputErrorSlice}
use Rattle.nextest_run_events_slices.specs.declared.slices.TestOutputErrorSlice.TheVariants.{PanicMessage, ErrorStr, ShouldPanic}
use Rattle.nextest_run_events_slices.specs.Laws.{IsSamePart, IsSameSlice}
use Rattle.nextest_run_events_slices.specs.Notes.{HasNoNote, line_at}
use Rattle.nextest_run_events_slices.specs.Places.{Span, IsPanic, AreTaken, IsLastPanic, IsPanicStart, IsErrorLineAbove, IsFirstError}
use Rattle.nextest_run_events_slices.specs.Slices.{IsSlice, IsPartFrom, IsPanicSlice, IsErrorSlice, IsNoteSlice, HasNoPanic, HasNoError}

-- what one list has of the spans that start below a place, the other has
members : (bytes : List ℕ) (n : ℕ) (one other : List Span) → AreTaken bytes one → AreTaken bytes other → (span : Span) → span.start < n → Contains one span → Contains other span
members bytes zero one other are are' span below inside = absurd (omega arith)
members bytes (suc n) one other are are' span below inside =
    let is = All-contains (IsPanic bytes) one span are.panics inside in
    (are'.whole span is).1 (λ covered.
    let low = covered.2 in
    (are.whole span is).0 inside (covered.0, members bytes n other one are' are covered.0 (omega arith) covered.1, covered.2, covered.3))

abbrev Starts : Span → Span → Type 0
Starts one other = one.start < other.start

cons_cases : (x : Span) (xs : List Span) (z : Span) → Contains (x ∷ xs) z → (x ≡ z) ⊎ Contains xs z
cons_cases x xs z (zero, inside, e) = inl e
cons_cases x xs z (suc k, inside, e) = inr (k, omega arith, e)

head_in : (x : Span) (xs : List Span) → Contains (x ∷ xs) x
head_in x xs = (0, omega arith, refl)

tail_in : (x : Span) (xs : List Span) (z : Span) → Contains xs z → Contains (x ∷ xs) z
tail_in x xs z (k, inside, e) = (suc k, omega arith, e)

after_head : (x : Span) (xs : List Span) (z : Span) → AllPairs Starts (x ∷ xs) → Contains xs z → x.start < z.start
after_head x xs z pairs (k, inside, e) = subst (λ (s : Span). x.start < s.start) e (pairs 0 (suc k) z (omega arith) (omega arith))

tail_pairs : (x : Span) (xs : List Span) → AllPairs Starts (x ∷ xs) → AllPairs Starts xs
tail_pairs x xs pairs i j d less within = pairs (suc i) (suc j) d (omega arith) (omega arith)

-- rising lists with the same members are the same
same_rising : (one other : List Span) → AllPairs Starts one → AllPairs Starts other → ((z : Span) → Contains one z → Contains other z) → ((z : Span) → Contains other z → Contains one z) → one ≡ other
same_rising [] [] up up' to from = refl
same_rising [] (y ∷ ys) up up' to from = let inside = from y (head_in y ys) in absurd (omega (arith, inside.1))
same_rising (x ∷ xs) [] up up' to from = let inside = to x (head_in x xs) in absurd (omega (arith, inside.1))
same_rising (x ∷ xs) (y ∷ ys) up up' to from =
    let heads : x ≡ y = elim (cons_cases y ys x (to x (head_in x xs))) [
      | inl same ↦ sym same
      | inr later ↦ elim (cons_cases x xs y (from y (head_in y ys))) [
        | inl same ↦ same
        | inr later' ↦ let low = after_head y ys x up' later in let high = after_head x xs y up later' in absurd (omega arith)
      ]
    ] in
    let starts : x.start ≡ y.start = ap (λ (s : Span). s.start) heads in
    let tails : xs ≡ ys = same_rising xs ys (tail_pairs x xs up) (tail_pairs y ys up')
    (λ z inside. elim (cons_cases y ys z (to z (tail_in x xs z inside))) [
      | inl same ↦ let low = after_head x xs z up inside in let e = ap (λ (s : Span). s.start) same in absurd (omega arith)
      | inr there ↦ there
    ])
    (λ z inside. elim (cons_cases x xs z (from z (tail_in y ys z inside))) [
      | inl same ↦ let low = after_head y ys z up' inside in let e = ap (λ (s : Span). s.start) same in absurd (omega arith)
      | inr there ↦ there
    ]) in
    (cc)

pub same_taken : (bytes : List ℕ) (one other : List Span) → AreTaken bytes one → AreTaken bytes other → one ≡ other
same_taken bytes one other are are' =
    same_rising one other are.rising are'.rising
    (λ z inside. members bytes (z.start + 1) one other are are' z (omega arith) inside)
    (λ z inside. members bytes (z.start + 1) other one are' are z (omega arith) inside)

same_last : (one other : List Span) (x y : Span) → one ++ x ∷ [] ≡ other ++ y ∷ [] → x ≡ y
same_last [] [] x y e = cc
same_last [] (b ∷ []) x y e = let l = ap length e in absurd (omega arith)
same_last [] (b ∷ c ∷ other) x y e = let l = ap length e in absurd (omega arith)
same_last (a ∷ []) [] x y e = let l = ap length e in absurd (omega arith)
same_last (a ∷ c ∷ one) [] x y e = let l = ap length e in absurd (omega arith)
same_last (a ∷ one) (b ∷ other) x y e = let tails : one ++ x ∷ [] ≡ other ++ y ∷ [] = cc in same_last one other x y tails

same_panic : (bytes : List ℕ) (at at' : ℕ) → IsLastPanic bytes (Some at) → IsLastPanic bytes (Some at') → at ≡ at'
same_panic bytes at at' one other =
    let lists = same_taken bytes one.0 other.0 one.1 other.1 in
    let ends : one.2.0 ++ one.2.1 ∷ [] ≡ other.2.0 ++ other.2.1 ∷ [] = sym one.2.2 ∙ lists ∙ other.2.2 in
    sym one.2.3 ∙ ap (λ (s : Span). s.start) (same_last one.2.0 other.2.0 one.2.1 other.2.1 ends) ∙ other.2.3

not_later : (bytes : List ℕ) (at start start' : ℕ) → IsErrorLineAbove bytes at start → IsErrorLineAbove bytes at start' → ¬ (start < start')
not_later bytes at start start' e e' less =
    elim (cases_lt (start' - 1) e.stop) [
      | inl inside ↦ e.line (start' - 1) (omega arith) inside e'.feed
      | inr past ↦
          let letter : slice_index bytes (start' + 0) ≡ 69 = e'.begins.reads 0 (omega arith) in
          let letter' : slice_index bytes start' ≡ 69 = ap (slice_index bytes) (omega arith) ∙ letter in
          elim (e.ends start' (omega (arith, e'.behind)) (omega (arith, e'.holds, e'.above))) [
            | inl feed ↦ omega arith
            | inr return ↦ omega arith
          ]
    ]

same_start : (bytes : List ℕ) (at start start' : ℕ) → IsPanicStart bytes at start → IsPanicStart bytes at start' → start ≡ start'
same_start bytes at start start' one other = elim one [
  | inl e ↦ elim other [
    | inl e' ↦ elim (cases_lt start start') [
      | inl less ↦ absurd (not_later bytes at start start' e e' less)
      | inr from ↦ elim (cases_lt start' start) [ inl less ↦ absurd (not_later bytes at start' start e' e less) | inr from' ↦ omega arith ]
    ]
    | inr none ↦ absurd (none.1 start e)
  ]
  | inr none ↦ elim other [
    | inl e' ↦ absurd (none.1 start' e')
    | inr none' ↦ none.0 ∙ sym none'.0
  ]
]

same_part : (bytes : List ℕ) (start start' : ℕ) (one other : ByteSubslice) → start ≡ start' → IsPartFrom bytes start one → IsPartFrom bytes start' other → IsSamePart one other
same_part bytes start start' one other e from from' = (
  from.0 ∙ e ∙ sym from'.0,
  from.1 ∙ ap (λ n. trim_end_by is_whitespace (drop n bytes)) e ∙ sym from'.1,
)

same_panics : (bytes : List ℕ) (one other : ByteSubslice) → IsPanicSlice bytes one → IsPanicSlice bytes other → IsSamePart one other
same_panics bytes one other is is' =
    let places = same_panic bytes is.at is'.at is.last is'.last in
    same_part bytes is.start is'.start one other (same_start bytes is'.at is.start is'.start (subst (λ at. IsPanicStart bytes at is.start) places is.begins) is'.begins) is.reads is'.reads

same_error : (bytes : List ℕ) (at at' : ℕ) → IsFirstError bytes (Some at) → IsFirstError bytes (Some at') → at ≡ at'
same_error bytes at at' one other = elim (cases_lt at at') [
  | inl less ↦ absurd (other.1 at less one.0)
  | inr from ↦ elim (cases_lt at' at) [ inl less ↦ absurd (one.1 at' less other.0) | inr from' ↦ omega arith ]
]

same_note : (bytes : List ℕ) (one other : ByteSubslice) → IsNoteSlice bytes one → IsNoteSlice bytes other → IsSamePart one other
same_note bytes one other is is' =
    let numbers : is.number ≡ is'.number = elim (cases_lt is.number is'.number) [
      | inl less ↦ absurd (is'.first is.number less is.has)
      | inr from ↦ elim (cases_lt is'.number is.number) [ inl less ↦ absurd (is.first is'.number less is'.has) | inr from' ↦ omega arith ]
    ] in (
      is.begins ∙ ap (λ n. length (concat (take n (lines_of bytes)))) numbers ∙ sym is'.begins,
      is.reads ∙ ap (line_at bytes) numbers ∙ sym is'.reads,
    )

some_panic : (bytes : List ℕ) (part : ByteSubslice) → IsPanicSlice bytes part → ¬ (HasNoPanic bytes)
some_panic bytes part is none =
    let walked = is.last in
    let inside : Contains walked.0 walked.2.1 = subst (λ (t : List Span). Contains t walked.2.1) (sym walked.2.2) (Contains-push walked.2.0 walked.2.1) in
    none walked.2.1 (All-contains (IsPanic bytes) walked.0 walked.2.1 walked.1.panics inside)

some_error : (bytes : List ℕ) (part : ByteSubslice) → IsErrorSlice bytes part → ¬ (HasNoError bytes)
some_error bytes part is none = none is.at is.first.0

some_note : (bytes : List ℕ) (part : ByteSubslice) → IsNoteSlice bytes part → ¬ (HasNoNote bytes)
some_note bytes part is none = none is.number is.within is.has

pub same_slice : (stdout stderr : List ℕ) (one other : Option TestOutputErrorSlice) → IsSlice stdout stderr one → IsSlice stdout stderr other → IsSameSlice one other
same_slice stdout stderr (Some (PanicMessage one)) (Some (PanicMessage other)) is is' = same_panics stderr one other is is'
same_slice stdout stderr (Some (PanicMessage one)) (Some (ErrorStr other)) is is' = some_panic stderr one is is'.0
same_slice stdout stderr (Some (PanicMessage one)) (Some (ShouldPanic other)) is is' = some_panic stderr one is is'.0
same_slice stdout stderr (Some (PanicMessage one)) None is is' = some_panic stderr one is is'.0
same_slice stdout stderr (Some (ErrorStr one)) (Some (PanicMessage other)) is is' = some_panic stderr other is' is.0
same_slice stdout stderr (Some (ErrorStr one)) (Some (ErrorStr other)) is is' =
    same_part stderr is.1.at is'.1.at one other (same_error stderr is.1.at is'.1.at is.1.first is'.1.first) is.1.reads is'.1.reads
same_slice stdout stderr (Some (ErrorStr one)) (Some (ShouldPanic other)) is is' = some_error stderr one is.1 is'.1
same_slice stdout stderr (Some (ErrorStr one)) None is is' = some_error stderr one is.1 is'.1
same_slice stdout stderr (Some (ShouldPanic one)) (Some (PanicMessage other)) is is' = some_panic stderr other is' is.0
same_slice stdout stderr (Some (ShouldPanic one)) (Some (ErrorStr other)) is is' = some_error stderr other is'.1 is.1
same_slice stdout stderr (Some (ShouldPanic one)) (Some (ShouldPanic other)) is is' = same_note stdout one other is.2 is'.2
same_slice stdout stderr (Some (ShouldPanic one)) None is is' = some_note stdout one is.2 is'.2
same_slice stdout stderr None (Some (PanicMessage other)) is is' = some_panic stderr other is' is.0
same_slice stdout stderr None (Some (ErrorStr other)) is is' = some_error stderr other is'.1 is.1
same_slice stdout stderr None (Some (ShouldPanic other)) is is' = some_note stdout other is'.2 is.2
same_slice stdout stderr None None is is' = tt
