use Rattle.std.proofs.Common.{◌≡◌, ◌++◌, ◌∷◌, ℕ, List, [], ap, ◌∙◌, lit<, rules}
use Rattle.std.specs.Prelude.{string_bytes}
use Rattle.std.proofs.lemmas.Str.{encode_ascii}
use Rattle.std.proofs.lemmas.Str.Pattern.{split_parts, strip_suffix_char}
use Rattle.nextest_filtering_escapes.proofs.Slashes as lemma
use Rattle.nextest_filtering_escapes.proofs.regexes.unslash.Goals as goal

pub loop-before-preserved : goal.loop-before-preserved
loop-before-preserved c =
    let rest = c.loop-before.rest.now in
    let before = c.in-Some.before.now in
    let behind = c.in-Some.behind.now in
    let parts = rw c.in-Some.is at (split_parts 47 rest c.split_once.result c.split_once.ensures.cases (lit< tt)) in
    let ends = strip_suffix_char 92 before c.strip_suffix.result c.strip_suffix.ensures.cases (lit< tt) in
    let after : string_bytes c.push.new.self ≡ (string_bytes c.loop-before.text ++ c.unwrap_or.result.now) ++ 47 ∷ [] =
    c.in_ok-push.ensures.bytes ∙ ap (λ (x : List ℕ). string_bytes c.push_str.new.self ++ x) (encode_ascii 47 (lit< tt)) ∙ ap (λ (x : List ℕ). x ++ 47 ∷ []) c.in_ok-push_str.ensures.bytes in (
      lemma.unslashed_more c.args.raw.now rest before behind c.unwrap_or.result.now (string_bytes c.loop-before.text) (string_bytes c.push.new.self)
          c.strip_suffix.result c.loop-before.invariant.0 parts.0 (lemma.no_slash_from before parts.1) ends
          (lemma.taken c.strip_suffix.result c.in-Some.before c.unwrap_or.result c.unwrap_or.ensures) after,
      search rules,
    )

pub returns : goal.returns
returns c =
    let rest = c.loop-before.rest.now in
    let none = lemma.no_slash_from rest (rw c.in_default.is at (split_parts 47 rest c.split_once.result c.split_once.ensures.cases (lit< tt))) in
    lemma.unslashed_all c.args.raw.now rest (string_bytes c.loop-before.text) c.from.result c.loop-before.invariant.0 none
    (c.from.ensures ∙ c.in_ok-push_str-2.ensures.bytes)
