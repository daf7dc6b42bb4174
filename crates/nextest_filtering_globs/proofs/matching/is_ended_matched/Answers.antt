use Rattle.std.proofs.Common.{◌++◌, IsTrue}
use Rattle.std.specs.Prelude.{◌↔◌}
use Rattle.std.proofs.lemmas.Bool.{false≢true}
use Rattle.std.proofs.lemmas.Result.{IfOk-weaker}
use Rattle.nextest_filtering_globs.specs.Meaning.{Matches}
use Rattle.nextest_filtering_globs.proofs.matching.is_ended_matched.Goals as goal

pub returns-in_default : goal.returns-in_default
returns-in_default g c = (λ b. absurd (false≢true b), λ m. absurd (c.in_default.ensures c.args.front.now m))

pub returns-in_default-before_singles : goal.returns-in_default-before_singles
returns-in_default-before_singles g c =
    let taken = c.in-Some.ensures c.args.front.now in
    (λ b. absurd (false≢true b), λ m. absurd (c.in_default-before_singles.ensures (taken.1.0 m)))

pub returns : goal.returns
returns g c =
    let taken = c.in-Some.ensures c.args.front.now in
    let left = c.in-Some-before_singles.ensures in
    IfOk-weaker c.is_left_matched.result _
    (λ answer. IsTrue answer ↔ Matches (c.args.front.now ++ c.args.alternative.now) (g.C.Character.codes c.args.text.now))
    (λ answer both. (λ b. taken.1.1 (left.1.1 (both.0 b)), λ m. both.1 (left.1.0 (taken.1.0 m)))) c.is_left_matched.ensures
