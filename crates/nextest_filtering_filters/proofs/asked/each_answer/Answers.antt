use Rattle.std.proofs.Common.{[], Bool, Bor, List, ℕ, arith, false}
use Rattle.nextest_filtering_filters.specs.Asking.{IsAnswer}
use Rattle.nextest_filtering_filters.proofs.Lists.{zip_end, zip_more_read}
use Rattle.nextest_filtering_filters.proofs.asked.each_answer.Goals as goal

pub loop-name-preserved : goal.loop-name-preserved
loop-name-preserved c =
    let l = c.loop-name in
    let none : Bor (List ℕ) = record { ref_ptr = (0, 0); now = [] } in
    let told = c.in_ok-answer in
    record {
      values = zip_more_read (λ (name : Bor (List ℕ)) (value : Bool). IsAnswer c.args.asked.now c.args.questions.now false name.now value) c.args.names.now l.values.items c.push.new.self.items l.name-index none told.field-0
          c.loop-name-test.true c.in_ok-push.ensures.items
          (λ binary leaves answer all are. told.ensures.value binary leaves answer (l.invariant.stays binary leaves all) are) l.invariant.values;
      stays = λ binary leaves all. told.ensures.stays binary leaves (l.invariant.stays binary leaves all);
    }

pub returns-clause-values : goal.returns-clause-values
returns-clause-values c =
    let l = c.loop-name in
    zip_end (λ (name : Bor (List ℕ)) (value : Bool). IsAnswer c.args.asked.now c.args.questions.now false name.now value) c.args.names.now l.values.items l.name-index (omega arith) l.invariant.values
