use Rattle.std.proofs.Common.{◌≡◌, ℕ, List, take, false}
use Rattle.test_runner_core_workspace.specs.Ids.{lent_texts, has_text}
use Rattle.test_runner_core_workspace.specs.Workspace.{is_among, has_repeat}
use Rattle.test_runner_core_workspace.proofs.ids.has_repeated.Given as goal

abbrev pub invariant-loop-id : goal.invariant-loop-id
invariant-loop-id l = record {
  known : (text : List ℕ) → has_text l.set text ≡ is_among (lent_texts (take l.id-index l.ids)) text;
  single : has_repeat (lent_texts (take l.id-index l.ids)) ≡ false;
}
