use Rattle.std.proofs.Common.{ap, ◌∙◌}
use Rattle.nextest_filtering_globs.proofs.Codes.{some_code}
use Rattle.nextest_filtering_globs.proofs.Gaps.{ahead_found, ahead_later, ahead_more, ahead_none}
use Rattle.nextest_filtering_globs.proofs.words.behind_found.Goals as goal

pub returns-in-Some : goal.returns-in-Some
returns-in-Some g c =
    let l = c.loop-behind in
    ahead_found c.args.word.now (g.C.Character.codes c.args.text.now) (g.C.Character.codes l.rest.now) (g.C.Character.codes c.in-Some.behind.now) c.in-Some.ensures l.invariant

pub returns-in_default-split_first : goal.returns-in_default-split_first
returns-in_default-split_first g c =
    let l = c.loop-behind in
    ahead_none c.args.word.now (g.C.Character.codes c.args.text.now) (g.C.Character.codes l.rest.now) (g.met.C.Character.counted l.rest.now ∙ c.in_default-split_first.ensures.cases) c.in_default.ensures
    l.invariant

pub loop-behind-preserved : goal.loop-behind-preserved
loop-behind-preserved g c =
    let l = c.loop-behind in
    let begun = c.in-Some-split_first in
    let first = some_code (g.C.Character.codes) g.met.C.Character.joined g.met.C.Character.counted begun.field-0-0.now begun.later.now in
    ahead_more c.args.word.now (g.C.Character.codes c.args.text.now) (g.C.Character.codes begun.later.now) _
    (ahead_later c.args.word.now (g.C.Character.codes c.args.text.now) (g.C.Character.codes l.rest.now) (g.C.Character.codes begun.later.now) first.0 (ap (g.C.Character.codes) begun.ensures.cases.0 ∙ first.1) c.in_default.ensures
    l.invariant)
    c.from_first-rest-in-loop-behind.ensures.ahead
