-- What stands between slashes: where it ends, and what it stands for.
use Rattle.std.proofs.Common.{◌≡◌, ◌≢◌, ℕ, ◌+◌, ◌<◌, ◌≤◌, Bool, true, false, ◌&&◌, not, cond, eqb, List, [], ◌∷◌, ◌++◌, length, take, drop, get_or, suc, Option, Some, None, MatchOption, Bor, refl, sym, ap, ◌∙◌, subst, arith, inl, inr}
use Rattle.std.specs.List.{AllByRecursion, slice_range}
use Rattle.std.specs.Option.{unwrap_or}
use Rattle.std.proofs.lemmas.Bool.{eqb-true, eqb-false, ne_eqb, cond-true, cond-false, cases_Bool, and_left, and_right, and_from}
use Rattle.std.proofs.lemmas.List.{append_assoc, append_cancel_right, length-append, take-append-drop, drop_more}
use Rattle.std.proofs.lemmas.Grind.{common_steps}
use Rattle.nextest_filtering_escapes.proofs.Fronts.{front_ends, front_all}
use Rattle.std.proofs.lemmas.List.Concat.{flat_map-append}
use Rattle.nextest_filtering_escapes.specs.Printing.{regex_text_of, slashed_byte}
use Rattle.nextest_filtering_escapes.specs.Regex.{EndsBare, IsRegexText, HasRegexText}

-- ---- printing

pub slashed_slash : (byte : ℕ) (text : List ℕ) → eqb byte 47 ≡ true → regex_text_of (byte ∷ text) ≡ 92 ∷ 47 ∷ regex_text_of text
slashed_slash byte text slash = ap (λ (x : List ℕ). x ++ regex_text_of text) (cond-true (eqb byte 47) (92 ∷ 47 ∷ []) (byte ∷ []) slash)

pub slashed_other : (byte : ℕ) (text : List ℕ) → eqb byte 47 ≡ false → regex_text_of (byte ∷ text) ≡ byte ∷ regex_text_of text
slashed_other byte text other = ap (λ (x : List ℕ). x ++ regex_text_of text) (cond-false (eqb byte 47) (92 ∷ 47 ∷ []) (byte ∷ []) other)

pub slashed-append : (x y : List ℕ) → regex_text_of (x ++ y) ≡ regex_text_of x ++ regex_text_of y
slashed-append x y = flat_map-append slashed_byte x y

abbrev first_of : List ℕ → ℕ
first_of bytes = get_or bytes 0 0

-- what is printed begins with no `/`
pub no_slash_first : (text rest : List ℕ) → regex_text_of text ≡ 47 ∷ rest → ⊥
no_slash_first [] rest same = cc
no_slash_first (byte ∷ text) rest same =
    elim (cases_Bool (eqb byte 47)) [
      | inl slash ↦ eqb-false 92 47 refl (ap (λ (x : List ℕ). get_or x 0 0) (sym (slashed_slash byte text slash) ∙ same))
      | inr other ↦ eqb-false byte 47 other (ap (λ (x : List ℕ). get_or x 0 0) (sym (slashed_other byte text other) ∙ same))
    ]

slashed_nil : (text : List ℕ) → regex_text_of text ≡ [] → text ≡ []
slashed_nil [] same = refl
slashed_nil (byte ∷ text) same =
    elim (cases_Bool (eqb byte 47)) [
      | inl slash ↦ let whole = sym (slashed_slash byte text slash) ∙ same in cc
      | inr other ↦ let whole = sym (slashed_other byte text other) ∙ same in cc
    ]

pub slashed_same : (a b : List ℕ) → regex_text_of a ≡ regex_text_of b → a ≡ b
slashed_same [] b same = sym (slashed_nil b (sym same))
slashed_same (x ∷ a) [] same = slashed_nil (x ∷ a) same
slashed_same (x ∷ a) (y ∷ b) same =
    elim (cases_Bool (eqb x 47)) [
      | inl x_slash ↦ let left = slashed_slash x a x_slash in elim (cases_Bool (eqb y 47)) [
        | inl y_slash ↦ let both : 92 ∷ 47 ∷ regex_text_of a ≡ 92 ∷ 47 ∷ regex_text_of b = sym left ∙ same ∙ slashed_slash y b y_slash in
            let tails : regex_text_of a ≡ regex_text_of b = cc in
            let rest = slashed_same a b tails in
            let x_is = eqb-true x 47 x_slash in
            let y_is = eqb-true y 47 y_slash in
            cc
        | inr y_other ↦ let both : 92 ∷ 47 ∷ regex_text_of a ≡ y ∷ regex_text_of b = sym left ∙ same ∙ slashed_other y b y_other in
            let tails : regex_text_of b ≡ 47 ∷ regex_text_of a = cc in
            absurd (no_slash_first b (regex_text_of a) tails)
      ]
      | inr x_other ↦ let left = slashed_other x a x_other in elim (cases_Bool (eqb y 47)) [
        | inl y_slash ↦ let both : x ∷ regex_text_of a ≡ 92 ∷ 47 ∷ regex_text_of b = sym left ∙ same ∙ slashed_slash y b y_slash in
            let tails : regex_text_of a ≡ 47 ∷ regex_text_of b = cc in
            absurd (no_slash_first a (regex_text_of b) tails)
        | inr y_other ↦ let both : x ∷ regex_text_of a ≡ y ∷ regex_text_of b = sym left ∙ same ∙ slashed_other y b y_other in
            let tails : regex_text_of a ≡ regex_text_of b = cc in
            let heads : x ≡ y = cc in
            let rest = slashed_same a b tails in
            cc
      ]
    ]

pub one_regex : (raw a b : List ℕ) → IsRegexText raw a → IsRegexText raw b → a ≡ b
one_regex raw a b left right = slashed_same a b (sym left.0 ∙ right.0)

-- ---- the end

-- what stands before the first `/` that isn't escaped; the first byte is escaped where a `\` came
-- before it
abbrev pub regex_front : Bool → List ℕ → List ℕ
regex_front escaped [] = []
regex_front escaped (byte ∷ rest) = cond (eqb byte 47 && not escaped) [] (byte ∷ regex_front (eqb byte 92) rest)

pub ends_bare_nil : EndsBare []
ends_bare_nil [] same = cc
ends_bare_nil (byte ∷ front) same = cc

pub ends_bare_cons : (byte : ℕ) (text : List ℕ) → (text ≡ [] → byte ≢ 92) → EndsBare text → EndsBare (byte ∷ text)
ends_bare_cons byte text alone bare [] same = alone (cc) (cc)
ends_bare_cons byte text alone bare (first ∷ front) same = bare front (cc)

ends_bare_tail : (byte : ℕ) (text : List ℕ) → EndsBare (byte ∷ text) → EndsBare text
ends_bare_tail byte text bare front same = bare (byte ∷ front) (ap (λ (x : List ℕ). byte ∷ x) same)

-- what is printed of a regular expression ends at the `/` behind it
slashed_front : (text rest : List ℕ) (escaped : Bool) → EndsBare text → (text ≡ [] → escaped ≡ false)
    → regex_front escaped (regex_text_of text ++ 47 ∷ rest) ≡ regex_text_of text
slashed_front [] rest escaped bare alone = ap (λ (b : Bool). regex_front b (47 ∷ rest)) (alone refl)
slashed_front (byte ∷ text) rest escaped bare alone =
    elim (cases_Bool (eqb byte 47)) [
      | inl slash ↦
          ap (λ (x : List ℕ). regex_front escaped (x ++ 47 ∷ rest)) (slashed_slash byte text slash)
          ∙ ap (λ (x : List ℕ). 92 ∷ 47 ∷ x) (slashed_front text rest false (ends_bare_tail byte text bare) (λ _. refl))
          ∙ sym (slashed_slash byte text slash)
      | inr other ↦
          ap (λ (x : List ℕ). regex_front escaped (x ++ 47 ∷ rest)) (slashed_other byte text other)
          ∙ cond-false (eqb byte 47 && not escaped) [] (byte ∷ regex_front (eqb byte 92) (regex_text_of text ++ 47 ∷ rest)) (and_left (eqb byte 47) (not escaped) other)
          ∙ ap (λ (x : List ℕ). byte ∷ x) (slashed_front text rest (eqb byte 92) (ends_bare_tail byte text bare)
          (λ none. ne_eqb byte 92 (λ back. bare [] (cc))))
          ∙ sym (slashed_other byte text other)
    ]

pub regex_only : (input raw text rest : List ℕ) → IsRegexText raw text → input ≡ raw ++ 47 ∷ rest → regex_front false input ≡ raw
regex_only input raw text rest has whole =
    ap (λ (x : List ℕ). regex_front false x) (whole ∙ ap (λ (x : List ℕ). x ++ 47 ∷ rest) has.0)
    ∙ slashed_front text rest false has.1 (λ _. refl) ∙ sym has.0

-- the front, with the `\` before it if there is one
abbrev Has : Bool → List ℕ → Type 0
Has true front = HasRegexText (92 ∷ front)
Has false front = HasRegexText front

kept : (escaped : Bool) (byte : ℕ) (rest : List ℕ) (by_test : Bool) → eqb byte 92 ≡ by_test → (eqb byte 47 && not escaped) ≡ false
    → regex_front escaped (byte ∷ rest) ≡ byte ∷ regex_front by_test rest
kept escaped byte rest by_test test goes =
    cond-false (eqb byte 47 && not escaped) [] (byte ∷ regex_front (eqb byte 92) rest) goes
    ∙ ap (λ (b : Bool). byte ∷ regex_front b rest) test

tail_of : (byte : ℕ) (rest front tail whole : List ℕ) → byte ∷ rest ≡ whole ++ 47 ∷ tail → whole ≡ byte ∷ front → rest ≡ front ++ 47 ∷ tail
tail_of byte rest front tail whole same is = let both : byte ∷ rest ≡ byte ∷ (front ++ 47 ∷ tail) = same ∙ ap (λ (x : List ℕ). x ++ 47 ∷ tail) is in cc

-- a front that a `/` ends stands for a regular expression
has_front : (escaped : Bool) (bytes tail : List ℕ) → bytes ≡ regex_front escaped bytes ++ 47 ∷ tail → Has escaped (regex_front escaped bytes)
has_front escaped [] tail same = cc
has_front false (byte ∷ rest) tail same =
    elim (cases_Bool (eqb byte 47)) [
      | inl slash ↦
          let ends : regex_front false (byte ∷ rest) ≡ [] = cond-true (eqb byte 47 && true) [] (byte ∷ regex_front (eqb byte 92) rest) (and_from (eqb byte 47) true slash refl) in
          subst HasRegexText (sym ends) ([], (refl, ends_bare_nil))
      | inr other ↦ let goes = and_left (eqb byte 47) true other in
          elim (cases_Bool (eqb byte 92)) [
            | inl back ↦
                let step = kept false byte rest true back goes in
                let next = has_front true rest tail (tail_of byte rest (regex_front true rest) tail (regex_front false (byte ∷ rest)) same step) in
                subst HasRegexText (sym (step ∙ ap (λ (b : ℕ). b ∷ regex_front true rest) (eqb-true byte 92 back))) next
            | inr bare ↦
                let step = kept false byte rest false bare goes in
                let next = has_front false rest tail (tail_of byte rest (regex_front false rest) tail (regex_front false (byte ∷ rest)) same step) in (
                  byte ∷ next.0,
                  (
                    step ∙ ap (λ (x : List ℕ). byte ∷ x) next.1.0 ∙ sym (slashed_other byte next.0 other),
                    ends_bare_cons byte next.0 (λ _. eqb-false byte 92 bare) next.1.1,
                  ),
                )
          ]
    ]
has_front true (byte ∷ rest) tail same =
    let goes = and_right (eqb byte 47) false refl in
    elim (cases_Bool (eqb byte 92)) [
      | inl back ↦
          let step = kept true byte rest true back goes in
          let next = has_front true rest tail (tail_of byte rest (regex_front true rest) tail (regex_front true (byte ∷ rest)) same step) in
          let is = step ∙ ap (λ (b : ℕ). b ∷ regex_front true rest) (eqb-true byte 92 back) ∙ next.1.0 in (
            92 ∷ next.0,
            (
              ap (λ (x : List ℕ). 92 ∷ x) is,
              ends_bare_cons 92 next.0 (λ none. absurd (not_nil next.0 none next.1.0)) next.1.1,
            ),
          )
      | inr bare ↦
          let step = kept true byte rest false bare goes in
          let next = has_front false rest tail (tail_of byte rest (regex_front false rest) tail (regex_front true (byte ∷ rest)) same step) in
          let more = ends_bare_cons byte next.0 (λ _. eqb-false byte 92 bare) next.1.1 in
          elim (cases_Bool (eqb byte 47)) [
            | inl slash ↦ (
              byte ∷ next.0,
              (
                ap (λ (x : List ℕ). 92 ∷ x) (step ∙ ap (λ (b : ℕ). b ∷ regex_front false rest) (eqb-true byte 47 slash) ∙ ap (λ (x : List ℕ). 47 ∷ x) next.1.0)
                    ∙ sym (slashed_slash byte next.0 slash),
                more,
              ),
            )
            | inr other ↦ (
              92 ∷ byte ∷ next.0,
              (
                ap (λ (x : List ℕ). 92 ∷ x) (step ∙ ap (λ (x : List ℕ). byte ∷ x) next.1.0 ∙ sym (slashed_other byte next.0 other)),
                ends_bare_cons 92 (byte ∷ next.0) (λ none. cc) more,
              ),
            )
          ]
    ] where
      not_nil : (text : List ℕ) → text ≡ [] → 92 ∷ regex_front true rest ≡ regex_text_of text → ⊥
      not_nil text none is = let wrong : 92 ∷ regex_front true rest ≡ [] = is ∙ ap regex_text_of none in cc

pub has_regex : (bytes tail : List ℕ) → bytes ≡ regex_front false bytes ++ 47 ∷ tail → HasRegexText (regex_front false bytes)
has_regex bytes tail same = has_front false bytes tail same

-- a front is all only where no `/` ends it
pub regex_none : (input raw text rest : List ℕ) → IsRegexText raw text → input ≡ raw ++ 47 ∷ rest → regex_front false input ≡ input → ⊥
regex_none input raw text rest has whole all =
    let raw_is = regex_only input raw text rest has whole in
    let long = ap length (sym raw_is ∙ all ∙ whole) in
    let counted = length-append raw (47 ∷ rest) in
    omega (arith, long, counted)

-- ---- the steps of the loop

pub slice_range_front : (n : ℕ) (bytes : List ℕ) → slice_range bytes 0 n ≡ take n bytes
slice_range_front n bytes = grind (arith, common_steps)

pub regex_found : (input : List ℕ) (i : ℕ) (escaped : Bool) → i < length input → get_or input i 0 ≡ 47 → escaped ≡ false
    → regex_front false input ≡ take i input ++ regex_front escaped (drop i input) → regex_front false input ≡ take i input
regex_found input i escaped small slash bare known =
    front_ends input (regex_front false input) i 47 (regex_front escaped) small (sym slash)
    (ap (λ (b : Bool). regex_front b (47 ∷ drop (i + 1) input)) bare) known

pub parted_at : (input : List ℕ) (i : ℕ) (escaped : Bool) → i < length input → get_or input i 0 ≡ 47 → escaped ≡ false
    → regex_front false input ≡ take i input ++ regex_front escaped (drop i input) → input ≡ regex_front false input ++ 47 ∷ drop (i + 1) input
parted_at input i escaped small slash bare known =
    sym (take-append-drop i input)
    ∙ ap (λ (x : List ℕ). take i input ++ x) (drop_more input i 0 small ∙ ap (λ (b : ℕ). b ∷ drop (i + 1) input) slash)
    ∙ ap (λ (x : List ℕ). x ++ 47 ∷ drop (i + 1) input) (sym (regex_found input i escaped small slash bare known))

pub regex_all : (input : List ℕ) (i : ℕ) (escaped : Bool) → length input ≤ i
    → regex_front false input ≡ take i input ++ regex_front escaped (drop i input) → regex_front false input ≡ input
regex_all input i escaped past known = front_all input (regex_front false input) i (regex_front escaped) past refl known

-- ---- reading and printing, slash by slash

-- no byte is a `/`
abbrev pub HasNoSlash : List ℕ → Type 0
HasNoSlash bytes = AllByRecursion (λ byte. byte ≢ 47) bytes

pub no_slash_from : (bytes : List ℕ) → ((i : ℕ) → i < length bytes → get_or bytes i 0 ≢ 47) → HasNoSlash bytes
no_slash_from [] none = tt
no_slash_from (byte ∷ bytes) none = (none 0 (omega arith), no_slash_from bytes (λ i small. none (suc i) (omega arith)))

pub slashed_none : (bytes : List ℕ) → HasNoSlash bytes → regex_text_of bytes ≡ bytes
slashed_none [] none = refl
slashed_none (byte ∷ bytes) none = slashed_other byte bytes (ne_eqb byte 47 none.0) ∙ ap (λ (x : List ℕ). byte ∷ x) (slashed_none bytes none.1)

pub slashed_parts : (rest before behind done whole : List ℕ) → rest ≡ before ++ 47 ∷ behind → HasNoSlash before → whole ≡ done ++ regex_text_of rest
    → whole ≡ (done ++ (before ++ 92 ∷ 47 ∷ [])) ++ regex_text_of behind
slashed_parts rest before behind done whole parted none known =
    known ∙ ap (λ (x : List ℕ). done ++ x)
    (ap regex_text_of parted ∙ slashed-append before (47 ∷ behind) ∙ ap (λ (x : List ℕ). x ++ regex_text_of (47 ∷ behind)) (slashed_none before none)
    ∙ sym (append_assoc before (92 ∷ 47 ∷ []) (regex_text_of behind)))
    ∙ sym (append_assoc done (before ++ 92 ∷ 47 ∷ []) (regex_text_of behind))

-- where what is printed is parted at its first `/`
parted_more : (before behind more : List ℕ) → HasNoSlash before → before ++ 47 ∷ behind ≡ regex_text_of more
    → (front : List ℕ) × (after : List ℕ) × (before ≡ front ++ 92 ∷ []) × (behind ≡ regex_text_of after) × (more ≡ front ++ 47 ∷ after)
parted_more [] behind more none same = absurd (no_slash_first more behind (sym same))
parted_more (b ∷ before) behind [] none same = cc
parted_more (b ∷ before) behind (x ∷ more) none same =
    elim (cases_Bool (eqb x 47)) [
      | inl slash ↦
          let x_is = eqb-true x 47 slash in
          let both : b ∷ (before ++ 47 ∷ behind) ≡ 92 ∷ 47 ∷ regex_text_of more = same ∙ slashed_slash x more slash in
          let back : b ≡ 92 = ap first_of both in
          let tail : before ++ 47 ∷ behind ≡ 47 ∷ regex_text_of more = cc in
          let ends = alone before tail none.1 in
          ([], more, ap (λ (l : List ℕ). b ∷ l) ends.0 ∙ ap (λ (y : ℕ). y ∷ []) back, ends.1, ap (λ (y : ℕ). y ∷ more) x_is)
      | inr other ↦
          let both : b ∷ (before ++ 47 ∷ behind) ≡ x ∷ regex_text_of more = same ∙ slashed_other x more other in
          let heads : b ≡ x = cc in
          let tail : before ++ 47 ∷ behind ≡ regex_text_of more = cc in
          let next = parted_more before behind more none.1 tail in (
            b ∷ next.0,
            next.1,
            ap (λ (l : List ℕ). b ∷ l) next.2,
            next.3,
            ap (λ (y : ℕ). y ∷ more) (sym heads) ∙ ap (λ (l : List ℕ). b ∷ l) next.4,
          )
    ] where
      alone : (before : List ℕ) → before ++ 47 ∷ behind ≡ 47 ∷ regex_text_of more → HasNoSlash before → (before ≡ []) × (behind ≡ regex_text_of more)
      alone [] same none = (refl, (cc))
      alone (c ∷ before) same none = absurd (none.0 (ap first_of same))

-- what is left of the text before a `/` without the `\` at its end
pub unslashed_more : (raw rest before behind stripped text after : List ℕ) (found : Option (Bor (List ℕ)))
    → ((whole : List ℕ) → raw ≡ regex_text_of whole → (more : List ℕ) × (rest ≡ regex_text_of more) × (whole ≡ text ++ more))
    → rest ≡ before ++ 47 ∷ behind → HasNoSlash before
    → MatchOption found ((front : List ℕ) → before ≢ front ++ 92 ∷ []) (λ x. before ≡ x.now ++ 92 ∷ [])
    → MatchOption found Unit (λ x. stripped ≡ x.now) → after ≡ (text ++ stripped) ++ 47 ∷ []
    → (whole : List ℕ) → raw ≡ regex_text_of whole → (more : List ℕ) × (behind ≡ regex_text_of more) × (whole ≡ after ++ more)
unslashed_more raw rest before behind stripped text after None known parted none ends taken after_is whole is =
    let has = known whole is in
    let next = parted_more before behind has.0 none (sym parted ∙ has.1) in
    absurd (ends next.0 next.2)
unslashed_more raw rest before behind stripped text after (Some x) known parted none ends taken after_is whole is =
    let has = known whole is in
    let next = parted_more before behind has.0 none (sym parted ∙ has.1) in
    let front : stripped ≡ next.0 = taken ∙ append_cancel_right x.now next.0 (92 ∷ []) (sym ends ∙ next.2) in (
      next.1,
      next.3,
      has.2 ∙ ap (λ (l : List ℕ). text ++ l) (next.4 ∙ ap (λ (l : List ℕ). l ++ 47 ∷ next.1) (sym front))
          ∙ sym (append_assoc text stripped (47 ∷ next.1)) ∙ sym (append_assoc (text ++ stripped) (47 ∷ []) next.1)
          ∙ ap (λ (l : List ℕ). l ++ next.1) (sym after_is),
    )

-- all was read
pub unslashed_all : (raw rest text after : List ℕ) → ((whole : List ℕ) → raw ≡ regex_text_of whole → (more : List ℕ) × (rest ≡ regex_text_of more) × (whole ≡ text ++ more))
    → HasNoSlash rest → after ≡ text ++ rest → HasRegexText raw → IsRegexText raw after
unslashed_all raw rest text after known none after_is (meant, stands) =
    let has = known meant stands.0 in
    let same : has.0 ≡ rest = slashed_same has.0 rest (sym has.1 ∙ sym (slashed_none rest none)) in
    let all : meant ≡ after = has.2 ∙ ap (λ (l : List ℕ). text ++ l) same ∙ sym after_is in
    subst (λ (l : List ℕ). IsRegexText raw l) all stands

pub taken : (found : Option (Bor (List ℕ))) (default result : Bor (List ℕ)) → result ≡ unwrap_or found default → MatchOption found Unit (λ x. result.now ≡ x.now)
taken None default result is = tt
taken (Some x) default result is = ap (λ (y : Bor (List ℕ)). y.now) is
