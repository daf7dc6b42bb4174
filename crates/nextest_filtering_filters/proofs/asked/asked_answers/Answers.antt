use Rattle.std.proofs.Common.{◌≡◌, [], ◌∙◌, ap, get_or, Bool, Bor, List, ℕ, arith, false}
use Rattle.nextest_filtering_filters.specs.Asking.{IsDecided}
use Rattle.nextest_filtering_filters.specs.Questions.{decided}
use Rattle.nextest_filtering_filters.proofs.ByName.{one_leaf}
use Rattle.nextest_filtering_filters.proofs.Lists.{zip_end, zip_more_read}
use Rattle.nextest_filtering_filters.proofs.asked.asked_answers.Goals as goal

pub loop-name-preserved : goal.loop-name-preserved
loop-name-preserved c =
    let l = c.loop-name in
    let none : Bor (List ℕ) = record { ref_ptr = (0, 0); now = [] } in
    let name = (get_or c.args.names.now l.name-index none).now in
    let told = c.in_ok-on_name in
    record {
      values = zip_more_read
          (λ (name : Bor (List ℕ)) (value : Bool). IsDecided c.args.asked.now c.args.decision name.now value)
          c.args.names.now l.values.items c.push.new.self.items l.name-index none c.of.result c.loop-name-test.true c.in_ok-push.ensures.items
          (λ binary leaf answer is value.
          c.of.ensures ∙ ap (decided c.args.decision) (one_leaf binary name false leaf told.field-0 answer (told.ensures.value binary leaf (l.invariant.stays binary leaf is)) value))
          l.invariant.values;
      stays = λ binary leaf is. told.ensures.stays binary leaf (l.invariant.stays binary leaf is);
    }

pub returns-clause-values : goal.returns-clause-values
returns-clause-values c =
    let l = c.loop-name in
    zip_end
    (λ (name : Bor (List ℕ)) (value : Bool). IsDecided c.args.asked.now c.args.decision name.now value)
    c.args.names.now l.values.items l.name-index (omega arith) l.invariant.values

pub returns-in_err-on_name-clause-stays : goal.returns-in_err-on_name-clause-stays
returns-in_err-on_name-clause-stays c = λ binary leaf is. c.on_name.ensures.stays binary leaf (c.loop-name.invariant.stays binary leaf is)

pub returns-in_err-push-clause-stays : goal.returns-in_err-push-clause-stays
returns-in_err-push-clause-stays c = λ binary leaf is. c.on_name.ensures.stays binary leaf (c.loop-name.invariant.stays binary leaf is)
