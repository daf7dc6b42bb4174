use Rattle.nextest_filtering_globs.proofs.Gaps.{goes_on_all, goes_on_one, singles_of, stops}
use Rattle.nextest_filtering_globs.proofs.words.behind_word.Goals as goal

pub returns-in_default-behind_first : goal.returns-in_default-behind_first
returns-in_default-behind_first g c =
    let l = c.loop-token in
    let begun = c.in-Some in
    stops c.args.word.now (g.C.Character.codes c.args.text.now) begun.token.now l.left.now begun.more.now (g.C.Character.codes l.rest.now) begun.ensures.cases.0
    (singles_of begun.token.now l.left.now begun.more.now begun.ensures.cases.0 l.invariant.singles).0
    c.in_default-behind_first.ensures l.invariant.goes_on

pub loop-token-preserved : goal.loop-token-preserved
loop-token-preserved g c =
    let l = c.loop-token in
    let begun = c.in-Some in
    let taken = c.in-Some-behind_first.ensures in
    let both = singles_of begun.token.now l.left.now begun.more.now begun.ensures.cases.0 l.invariant.singles in
    record {
      singles = both.1;
      goes_on = goes_on_one c.args.word.now (g.C.Character.codes c.args.text.now) begun.token.now l.left.now begun.more.now (g.C.Character.codes l.rest.now)
          (g.C.Character.codes c.in-Some-behind_first.behind.now) taken.0 begun.ensures.cases.0 taken.1 both.0 taken.2 l.invariant.goes_on;
    }

pub returns : goal.returns
returns g c =
    let l = c.loop-token in
    goes_on_all c.args.word.now (g.C.Character.codes c.args.text.now) l.left.now (g.C.Character.codes l.rest.now) c.in_default.ensures.cases l.invariant.goes_on
