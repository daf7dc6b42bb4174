use Rattle.std.proofs.Common.{◌≡◌, ◌++◌, ℕ, List, ap, ◌∙◌, lit<, rules}
use Rattle.std.specs.Prelude.{string_bytes, encode_utf8}
use Rattle.std.proofs.lemmas.Str.Pattern.{split_parts}
use Rattle.nextest_filtering_escapes.specs.declared.escapes.EscapeSpan.{EscapeSpan}
use Rattle.nextest_filtering_escapes.proofs.Readings as lemma
use Rattle.nextest_filtering_escapes.proofs.escapes.unescape.Goals as goal

pub span_of-requires-clause-within : goal.span_of-requires-clause-within
span_of-requires-clause-within c =
    let rest = c.loop-plain.rest.now in
    let parts = rw c.in-Some.is at (split_parts 92 rest c.split_once.result c.split_once.ensures.cases (lit< tt)) in
    lemma.behind_within c.args.raw.now rest (string_bytes c.loop-plain.text) c.loop-plain.bad c.in-Some.plain.now c.in-Some.behind.now c.loop-plain.invariant.0 parts.0

pub span_of-requires-clause-ends : goal.span_of-requires-clause-ends
span_of-requires-clause-ends c = lemma.ahead_within c.in-Some.behind.now c.read_escape-meant.result.0 c.read_escape-meant.result.1.now c.read_escape-meant.ensures

pub loop-plain-smaller-in_ok-push-in-Some-meant : goal.loop-plain-smaller-in_ok-push-in-Some-meant
loop-plain-smaller-in_ok-push-in-Some-meant c =
    let rest = c.loop-plain.rest.now in
    let parts = rw c.in-Some.is at (split_parts 92 rest c.split_once.result c.split_once.ensures.cases (lit< tt)) in
    lemma.ahead_shorter rest c.in-Some.plain.now c.in-Some.behind.now c.read_escape-meant.result.0 c.read_escape-meant.result.1.now parts.0 c.read_escape-meant.ensures

pub loop-plain-smaller : goal.loop-plain-smaller
loop-plain-smaller c =
    let rest = c.loop-plain.rest.now in
    let parts = rw c.in-Some.is at (split_parts 92 rest c.split_once.result c.split_once.ensures.cases (lit< tt)) in
    lemma.ahead_shorter rest c.in-Some.plain.now c.in-Some.behind.now c.read_escape-meant.result.0 c.read_escape-meant.result.1.now parts.0 c.read_escape-meant.ensures

pub loop-plain-preserved-in_ok-push-in-Some-meant : goal.loop-plain-preserved-in_ok-push-in-Some-meant
loop-plain-preserved-in_ok-push-in-Some-meant c =
    let rest = c.loop-plain.rest.now in
    let plain = c.in-Some.plain.now in
    let behind = c.in-Some.behind.now in
    let ahead = c.read_escape-meant.result.1.now in
    let parts = rw c.in-Some.is at (split_parts 92 rest c.split_once.result c.split_once.ensures.cases (lit< tt)) in
    let read = rw c.in-Some-meant.is at c.read_escape-meant.ensures in
    let first = c.in_ok-push_str.ensures.bytes in
    let second = c.in_ok-push-in-Some-meant.ensures.bytes in
    let after : string_bytes c.push.new.self ≡ (string_bytes c.loop-plain.text ++ plain) ++ encode_utf8 c.in-Some-meant.character =
    second ∙ ap (λ (x : List ℕ). x ++ encode_utf8 c.in-Some-meant.character) first in (
      lemma.readable_good c.args.raw.now rest (string_bytes c.loop-plain.text) c.loop-plain.bad plain behind ahead (string_bytes c.push.new.self)
          c.in-Some-meant.character c.loop-plain.invariant.0 parts.0 (lemma.bare_from plain parts.1) read after,
      search rules,
    )

pub loop-plain-preserved : goal.loop-plain-preserved
loop-plain-preserved c =
    let raw = c.args.raw.now in
    let rest = c.loop-plain.rest.now in
    let plain = c.in-Some.plain.now in
    let behind = c.in-Some.behind.now in
    let ahead = c.read_escape-meant.result.1.now in
    let parts = rw c.in-Some.is at (split_parts 92 rest c.split_once.result c.split_once.ensures.cases (lit< tt)) in
    let read = rw c.in-None.is at c.read_escape-meant.ensures in
    let pushed = c.in_ok-push-in-None.ensures.ok in
    let span = c.span_of.ensures in (
      rw pushed (lemma.readable_bad raw rest (string_bytes c.loop-plain.text) c.loop-plain.bad plain behind ahead (string_bytes c.push_str.new.self)
          _ c.loop-plain.invariant.0 parts.0 (lemma.bare_from plain parts.1) read c.in_ok-push_str.ensures.bytes (ap (λ (it : EscapeSpan). it.offset) span) (ap (λ (it : EscapeSpan). it.length) span)),
      search rules,
    )

pub returns-clause-text : goal.returns-clause-text
returns-clause-text c = λ none goes.
    let rest = c.loop-plain.rest.now in
    let bare = lemma.bare_from rest (rw c.in_default.is at (split_parts 92 rest c.split_once.result c.split_once.ensures.cases (lit< tt))) in
    let after : c.from.result ≡ string_bytes c.loop-plain.text ++ rest = c.from.ensures ∙ c.in_ok-push_str-2.ensures.bytes in
    lemma.readable_text c.args.raw.now rest (string_bytes c.loop-plain.text) c.from.result c.loop-plain.bad c.loop-plain.invariant.0 bare after none goes

pub returns-clause-bad : goal.returns-clause-bad
returns-clause-bad c = λ some text has. some (c.loop-plain.invariant.0.only text has).0

pub returns-clause-rise : goal.returns-clause-rise
returns-clause-rise c = lemma.readable_rise c.args.raw.now c.loop-plain.rest.now (string_bytes c.loop-plain.text) c.loop-plain.bad c.loop-plain.invariant.0

pub returns-clause-read : goal.returns-clause-read
returns-clause-read c =
    let rest = c.loop-plain.rest.now in
    let bare = lemma.bare_from rest (rw c.in_default.is at (split_parts 92 rest c.split_once.result c.split_once.ensures.cases (lit< tt))) in
    lemma.readable_read c.args.raw.now rest (string_bytes c.loop-plain.text) c.from.result c.loop-plain.bad c.loop-plain.invariant.0 bare
    (c.from.ensures ∙ c.in_ok-push_str-2.ensures.bytes)
