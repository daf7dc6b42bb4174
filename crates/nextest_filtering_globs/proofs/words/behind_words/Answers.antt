use Rattle.nextest_filtering_globs.proofs.Gaps.{leaves_word, no_word}
use Rattle.nextest_filtering_globs.proofs.words.behind_words.Goals as goal

pub returns-in_default-behind_found : goal.returns-in_default-behind_found
returns-in_default-behind_found g c =
    let l = c.loop-word in
    let begun = c.in-Some in
    no_word c.args.tokens.now (g.C.Character.codes c.args.text.now) l.left.now begun.word.now begun.more.now (g.C.Character.codes l.rest.now) begun.ensures
    c.in_default-behind_found.ensures l.invariant

pub loop-word-preserved : goal.loop-word-preserved
loop-word-preserved g c =
    let l = c.loop-word in
    let begun = c.in-Some in
    leaves_word c.args.tokens.now (g.C.Character.codes c.args.text.now) l.left.now begun.word.now begun.more.now (g.C.Character.codes l.rest.now)
    (g.C.Character.codes c.in-Some-behind_found.behind.now) begun.ensures c.in-Some-behind_found.ensures l.invariant
