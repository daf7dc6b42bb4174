use Rattle.std.proofs.Common.{◌≡◌, ◌+◌, [], ◌∷◌, ◌++◌, take, sym, ◌∙◌, ap}
use Rattle.std.proofs.lemmas.List.{take_more}
use Rattle.test_runner_core_workspace.proofs.Tables.{index_kept, index_more}
use Rattle.test_runner_core_workspace.proofs.table_lister.index_of.Goals.{then-not-contains_key+in_ok-insert, else-not-contains_key}
use Rattle.test_runner_core_workspace.proofs.table_lister.index_of.Goals as goal

pub loop-binary-preserved : goal.loop-binary-preserved
loop-binary-preserved c =
    let grown : take (c.loop-binary.binary-index + 1) c.args.binaries.now ≡ take c.loop-binary.binary-index c.args.binaries.now ++ c.binary-item.result ∷ []
    = take_more c.args.binaries.now c.loop-binary.binary-index c.binary-item.result c.loop-binary-test.true ∙ ap (λ x. take c.loop-binary.binary-index c.args.binaries.now ++ x ∷ []) (sym c.binary-item.is) in
    elim c.if-not-contains_key.branch [
      | then-not-contains_key+in_ok-insert w ↦ rw (grown, w.index-is)
          (index_more c.loop-binary.index w.insert.new.self (take c.loop-binary.binary-index c.args.binaries.now) c.as_str-id.result _ c.as_str-id.ensures c.loop-binary.invariant (sym c.contains_key.ensures ∙ w.if-not-contains_key.true) w.in_ok-insert.ensures.updates)
      | else-not-contains_key w ↦ rw (grown, w.index-is)
          (index_kept c.loop-binary.index (take c.loop-binary.binary-index c.args.binaries.now) c.binary-item.result c.as_str-id.result.now c.as_str-id.ensures c.loop-binary.invariant (sym c.contains_key.ensures ∙ w.if-not-contains_key.false))
    ]
