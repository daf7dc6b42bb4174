use Rattle.std.proofs.Common.{◌≡◌, ℕ, List, [], true, false, take, get_or, ap, sym, ◌∙◌}
use Rattle.std.proofs.lemmas.Bool.{not-true, not-false}
use Rattle.test_runner_core_workspace.specs.Ids.{lent_texts, has_text}
use Rattle.test_runner_core_workspace.specs.Workspace.{is_among}
use Rattle.test_runner_core_workspace.proofs.Repeats.{lent_more, is_among_more, stands_twice, stands_once}
use Rattle.test_runner_core_workspace.proofs.ids.has_repeated.Goals as goal

pub returns-then-not-branch : goal.returns-then-not-branch
returns-then-not-branch c =
    let found : has_text c.loop-id.set (get_or c.args.ids.now c.loop-id.id-index (record { ref_ptr = (0, 0); now = [] })).now ≡ true
    = not-false _ (sym c.in_ok-insert.ensures.added ∙ c.if-not-branch.true) in
    sym (stands_twice c.loop-id.set c.args.ids.now c.loop-id.id-index (record { ref_ptr = (0, 0); now = [] }) c.loop-id-test.true c.loop-id.invariant.known found)

pub loop-id-preserved : goal.loop-id-preserved
loop-id-preserved c =
    let found : has_text c.loop-id.set (get_or c.args.ids.now c.loop-id.id-index (record { ref_ptr = (0, 0); now = [] })).now ≡ false
    = not-true _ (sym c.in_ok-insert.ensures.added ∙ c.if-not-branch.false) in
    record {
      known = λ text.
          is_among_more c.loop-id.set c.insert.new.self (get_or c.args.ids.now c.loop-id.id-index (record { ref_ptr = (0, 0); now = [] }))
          (lent_texts (take c.loop-id.id-index c.args.ids.now)) c.in_ok-insert.ensures.updates c.loop-id.invariant.known text
          ∙ ap (λ (texts : List (List ℕ)). is_among texts text) (sym (lent_more c.args.ids.now c.loop-id.id-index (record { ref_ptr = (0, 0); now = [] }) c.loop-id-test.true));
      single = stands_once c.loop-id.set c.args.ids.now c.loop-id.id-index (record { ref_ptr = (0, 0); now = [] }) c.loop-id-test.true c.loop-id.invariant.known found c.loop-id.invariant.single;
    }
