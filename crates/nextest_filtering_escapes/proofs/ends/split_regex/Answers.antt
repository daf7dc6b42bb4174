use Rattle.std.proofs.Common.{◌≡◌, ◌++◌, ◌∷◌, ℕ, ◌<◌, ◌≤◌, List, false, length, take, get_or, sym, ap, ◌∙◌, subst, arith}
use Rattle.std.proofs.lemmas.List.{append_cancel_left}
use Rattle.std.proofs.lemmas.Str.{IsCharBoundary-after_ascii}
use Rattle.nextest_filtering_escapes.specs.Regex.{HasRegexText}
use Rattle.nextest_filtering_escapes.proofs.Slashes.{regex_front, regex_found, regex_all, regex_only, regex_none, has_regex, parted_at, slice_range_front}
use Rattle.nextest_filtering_escapes.proofs.ends.split_regex.Goals as goal

pub range_from-requires : goal.range_from-requires
range_from-requires c = λ _.
    let same = c.as_bytes-byte-items.ensures.value in
    let i = c.loop-index.index in
    let input = c.args.input.now in
    let small : i < length input = rw same at c.loop-index-test.true in
    let slash : get_or input i 0 ≡ 47 = rw same at c.if-byte-eq47.true in
    IsCharBoundary-after_ascii input i c.utf8.input small (omega arith)

range_is : (c : goal.After-t16-1) → c.range.result.now ≡ take c.loop-index.index c.args.input.now
range_is c = c.range.ensures.value ∙ slice_range_front c.loop-index.index c.args.input.now

front_is : (c : goal.After-t16-1) → regex_front false c.args.input.now ≡ c.range.result.now
front_is c =
    let same = c.as_bytes-byte-items.ensures.value in
    let i = c.loop-index.index in
    let input = c.args.input.now in
    let small : i < length input = rw same at c.loop-index-test.true in
    let slash : get_or input i 0 ≡ 47 = rw same at c.if-byte-eq47.true in
    regex_found input i c.loop-index.backslash small slash c.if-not-backslash.true c.loop-index.invariant ∙ sym (range_is c)

parts : (c : goal.After-t16-1) → c.args.input.now ≡ c.range.result.now ++ 47 ∷ c.range_from.result.now
parts c =
    let same = c.as_bytes-byte-items.ensures.value in
    let i = c.loop-index.index in
    let input = c.args.input.now in
    let small : i < length input = rw same at c.loop-index-test.true in
    let slash : get_or input i 0 ≡ 47 = rw same at c.if-byte-eq47.true in
    rw (sym (front_is c), c.range_from.ensures.value) (parted_at input i c.loop-index.backslash small slash c.if-not-backslash.true c.loop-index.invariant)

pub returns-then-not-backslash-clause-ends : goal.returns-then-not-backslash-clause-ends
returns-then-not-backslash-clause-ends c =
    let input = c.args.input.now in
    subst HasRegexText (front_is c) (has_regex input c.range_from.result.now (rw (front_is c) (parts c)))

pub returns-then-not-backslash-clause-only : goal.returns-then-not-backslash-clause-only
returns-then-not-backslash-clause-only c = λ raw text rest has whole.
    let input = c.args.input.now in
    let same : raw ≡ c.range.result.now = sym (regex_only input raw text rest has whole) ∙ front_is c in
    let behind : 47 ∷ rest ≡ 47 ∷ c.range_from.result.now =
    append_cancel_left c.range.result.now (47 ∷ rest) (47 ∷ c.range_from.result.now)
    (ap (λ (x : List ℕ). x ++ 47 ∷ rest) (sym same) ∙ sym whole ∙ parts c) in
    (same, (cc))

pub returns-clause-none : goal.returns-clause-none
returns-clause-none c = λ raw text rest has whole.
    let same = c.as_bytes-byte-items.ensures.value in
    let input = c.args.input.now in
    let long : length input ≤ c.loop-index.index = rw same at c.loop-index-test.false in
    regex_none input raw text rest has whole (regex_all input c.loop-index.index c.loop-index.backslash long c.loop-index.invariant)
