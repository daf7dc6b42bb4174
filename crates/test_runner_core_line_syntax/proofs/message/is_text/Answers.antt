use Rattle.std.proofs.lemmas.Bool.{both_ways}
use Rattle.test_runner_core_line_syntax.proofs.Hex.{text_starts, text_bytes, text_step, text_stop, text_ends}
use Rattle.test_runner_core_line_syntax.proofs.message.is_text.Goals as goal

pub loop-rest-init : goal.loop-rest-init
loop-rest-init c = text_starts c.args.digits.now c.requires

pub returns-in_default-byte_of : goal.returns-in_default-byte_of
returns-in_default-byte_of c =
    let l = c.loop-rest in
    absurd (text_bytes c.args.digits.now l.rest.now l.first l.second l.third c.in-len2-up.len_at_least l.invariant c.in_default-byte_of.ensures)

pub returns-then-not-may_follow : goal.returns-then-not-may_follow
returns-then-not-may_follow c =
    let l = c.loop-rest in (
      (λ yes. absurd cc),
      (λ utf8. absurd (text_stop c.args.digits.now l.rest.now l.first l.second l.third c.in-Some.byte c.in-len2-up.len_at_least l.invariant c.in-Some.ensures
          (λ follows. both_ways c.may_follow.result c.if-not-may_follow.true (c.may_follow.ensures.1 follows)) utf8)),
    )

pub loop-rest-preserved : goal.loop-rest-preserved
loop-rest-preserved c =
    let l = c.loop-rest in
    text_step c.args.digits.now l.rest.now l.first l.second l.third c.in-Some.byte c.in-len2-up.len_at_least l.invariant c.in-Some.ensures
    (c.may_follow.ensures.0 c.if-not-may_follow.false)

pub returns : goal.returns
returns c =
    let l = c.loop-rest in
    let ends = text_ends c.args.digits.now l.rest.now l.first l.second l.third l.invariant c.in_default.len_below in
    let closed = c.is_closed.ensures in
    ((λ yes. ends.0 (closed.0 yes)), (λ utf8. closed.1 (ends.1 utf8)))
