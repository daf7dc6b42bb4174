use Rattle.std.proofs.Common.{ℕ, List, [], take, get_or, ap, sym, ◌∙◌}
use Rattle.test_runner_core_workspace.specs.Ids.{lent_texts}
use Rattle.test_runner_core_workspace.specs.Workspace.{is_among}
use Rattle.test_runner_core_workspace.proofs.Repeats.{lent_more, is_among_more}
use Rattle.test_runner_core_workspace.proofs.ids.set_of.Goals as goal

pub loop-id-preserved : goal.loop-id-preserved
loop-id-preserved c = λ text.
    is_among_more c.loop-id.set c.insert.new.self (get_or c.args.ids.now c.loop-id.id-index (record { ref_ptr = (0, 0); now = [] }))
    (lent_texts (take c.loop-id.id-index c.args.ids.now)) c.in_ok-insert.ensures.updates c.loop-id.invariant text
    ∙ ap (λ (texts : List (List ℕ)). is_among texts text) (sym (lent_more c.args.ids.now c.loop-id.id-index (record { ref_ptr = (0, 0); now = [] }) c.loop-id-test.true))
