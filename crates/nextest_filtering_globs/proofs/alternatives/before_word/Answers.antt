use Rattle.nextest_filtering_globs.proofs.Branches.{no_word_before, singles_last, word_before, word_taken}
use Rattle.nextest_filtering_globs.proofs.alternatives.before_word.Goals as goal

pub returns-in_default-before_last : goal.returns-in_default-before_last
returns-in_default-before_last g c =
    let l = c.loop-token in
    let last = c.in-Some in
    no_word_before c.args.word.now (g.C.Character.codes c.args.text.now) last.token.now l.left.now last.more.now (g.C.Character.codes l.rest.now) last.ensures.cases.0
    (singles_last last.more.now last.token.now l.left.now last.ensures.cases.0 l.invariant.singles).1
    c.in_default-before_last.ensures l.invariant.leaves

pub loop-token-preserved : goal.loop-token-preserved
loop-token-preserved g c =
    let l = c.loop-token in
    let last = c.in-Some in
    let taken = c.in-Some-before_last.ensures in
    let both = singles_last last.more.now last.token.now l.left.now last.ensures.cases.0 l.invariant.singles in
    record {
      singles = both.0;
      leaves = word_before c.args.word.now (g.C.Character.codes c.args.text.now) last.token.now l.left.now last.more.now (g.C.Character.codes l.rest.now)
          (g.C.Character.codes c.in-Some-before_last.before.now) taken.0 last.ensures.cases.0 taken.1 both.1 taken.2 l.invariant.leaves;
    }

pub returns : goal.returns
returns g c =
    let l = c.loop-token in
    word_taken c.args.word.now (g.C.Character.codes c.args.text.now) l.left.now (g.C.Character.codes l.rest.now) c.in_default.ensures.cases l.invariant.leaves
