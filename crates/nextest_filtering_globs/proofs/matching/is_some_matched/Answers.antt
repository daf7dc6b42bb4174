use Rattle.std.proofs.Common.{sym, ◌∙◌, refl}
use Rattle.std.proofs.lemmas.Bool.{false≢true}
use Rattle.nextest_filtering_globs.proofs.Branches.{is_led, none_matches, one_matches, others_ahead}
use Rattle.nextest_filtering_globs.proofs.matching.is_some_matched.Goals as goal

pub returns-then-branch : goal.returns-then-branch
returns-then-branch g c =
    let l = c.loop-more in
    let first = c.first_alternative in (
      λ b. l.invariant.same.1 (one_matches c.args.front.now first.result.0.now l.left.now (g.C.Character.codes c.args.text.now) first.result.1
          c.requires.balanced first.ensures.singles first.ensures.behind (c.in_ok-is_ended_matched.ensures.0 c.if-branch.true)),
      λ m. refl,
    )

pub returns-in_default : goal.returns-in_default
returns-in_default g c =
    let l = c.loop-more in
    let first = c.first_alternative in (
      λ b. absurd (false≢true b),
      λ m. absurd (none_matches c.args.front.now first.result.0.now l.left.now
          c.args.alternatives.now (g.C.Character.codes c.args.text.now) first.result.1 c.in_default.is c.requires.balanced first.ensures.singles
          first.ensures.behind
          (λ k. false≢true (sym c.if-branch.false ∙ c.in_ok-is_ended_matched.ensures.1 k)) l.invariant.same m),
    )

pub loop-more-preserved : goal.loop-more-preserved
loop-more-preserved g c =
    let l = c.loop-more in
    let first = c.first_alternative in
    let more = c.in-Some.more.now in
    let led = is_led l.left.now first.result.0.now first.result.1 c.in-Some.more c.in-Some.is first.ensures.behind in
    record {
      plain = led.1;
      same = others_ahead c.args.front.now first.result.0.now l.left.now c.args.alternatives.now more (g.C.Character.codes c.args.text.now)
          c.requires.balanced first.ensures.singles led.0 led.1
          (λ k. false≢true (sym c.if-branch.false ∙ c.in_ok-is_ended_matched.ensures.1 k)) l.invariant.same;
    }
