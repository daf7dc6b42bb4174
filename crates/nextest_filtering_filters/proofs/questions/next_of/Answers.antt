use Rattle.std.proofs.Common.{arith, length, subst, sym}
use Rattle.nextest_filtering_filters.specs.Making.{IsWithin}
use Rattle.nextest_filtering_filters.proofs.StepsBack.{exit_within, new_question}
use Rattle.nextest_filtering_filters.proofs.questions.next_of.Goals as goal

pub returns-in-Some-clause-within : goal.returns-in-Some-clause-within
returns-in-Some-clause-within c = subst (IsWithin (length c.args.list.now.items)) (sym c.of.ensures) (exit_within (length c.args.list.now.items) c.args.exits c.in-Some.value c.requires)

pub returns-in_ok-push-in-None-2-clause-next : goal.returns-in_ok-push-in-None-2-clause-next
returns-in_ok-push-in-None-2-clause-next c = λ answer may.
    new_question answer c.args.list.now.items c.push.new.self.items (record { leaf = c.args.leaf; exits = c.args.exits }) c.len-place.result (omega (arith, c.len-place.ensures, c.args.list.now.ok.0)) c.in_ok-push-in-None-2.ensures.items
