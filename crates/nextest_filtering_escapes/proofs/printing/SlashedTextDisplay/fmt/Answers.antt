use Rattle.std.proofs.Common.{◌++◌, ◌∷◌, ℕ, List, [], sym, ap, ◌∙◌, lit<, rules}
use Rattle.std.proofs.lemmas.Str.Pattern.{split_parts}
use Rattle.std.proofs.Output.{has_written_append, has_written_of_eq}
use Rattle.nextest_filtering_escapes.proofs.Slashes as lemma
use Rattle.nextest_filtering_escapes.proofs.printing.SlashedTextDisplay.fmt.Goals as goal

pub loop-before-preserved : goal.loop-before-preserved
loop-before-preserved g c =
    let rest = c.loop-before.rest.now in
    let before = c.in-Some.before.now in
    let behind = c.in-Some.behind.now in
    let parts = rw c.in-Some.is at (split_parts 47 rest c.split_once.result c.split_once.ensures.cases (lit< tt)) in (
      (λ plain.
          let known = c.loop-before.invariant.0 plain in (
            known.0 ++ (before ++ 92 ∷ 47 ∷ []),
            has_written_append _ _ _ _ _ _ known.1 (search rules),
            lemma.slashed_parts rest before behind known.0 _ parts.0 (lemma.no_slash_from before parts.1) known.2,
          )),
      search rules,
    )

pub returns-clause-writes : goal.returns-clause-writes
returns-clause-writes g c = λ plain ok.
    let rest = c.loop-before.rest.now in
    let known = c.loop-before.invariant.0 plain in
    let none = lemma.no_slash_from rest (rw c.in_default.is at (split_parts 47 rest c.split_once.result c.split_once.ensures.cases (lit< tt))) in
    has_written_of_eq _ _ _ _ _ (sym (known.2 ∙ ap (λ (x : List ℕ). known.0 ++ x) (lemma.slashed_none rest none)))
    (has_written_append _ _ _ _ _ _ known.1 (search rules))
