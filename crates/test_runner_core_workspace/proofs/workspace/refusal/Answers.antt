use Rattle.std.proofs.Common.{◌≡◌, ℕ, List, Option, IfOk, false, subst}
use denote.Ref.{Bor}
use Rattle.test_runner_core_workspace.specs.Ids.{lent_texts, has_text}
use Rattle.test_runner_core_workspace.specs.Workspace.{is_among, has_repeat, package_ids, refusal_of, refusal_by}
use Rattle.test_runner_core_workspace.specs.declared.record.WorkspaceRecord.{WorkspaceRecord}
use Rattle.test_runner_core_workspace.specs.declared.workspace_fault.WorkspaceFault.{WorkspaceFault}
use Rattle.test_runner_core_workspace.proofs.Repeats.{behind_no_repeat}
use Rattle.test_runner_core_workspace.proofs.workspace.refusal.Goals as goal

pub returns : goal.returns
returns c =
    let workspace : WorkspaceRecord = c.args.record.now in
    let packages : List (Bor (List ℕ)) = c.in_ok-packages.packages.items in
    let of_packages : lent_texts packages ≡ package_ids workspace = cc (c.in_ok-packages.ensures) in
    let once : has_repeat (lent_texts packages) ≡ false = cc (c.in_ok-has_repeated.ensures) in
    let same : (text : List ℕ) → has_text c.in_ok-known.known text ≡ is_among (lent_texts packages) text
    = λ text. rw (← c.as_slice-3.ensures.value) (c.in_ok-known.ensures text) in
    let reason : refusal_by (has_text c.in_ok-known.known) workspace ≡ refusal_of workspace
    = behind_no_repeat workspace packages c.in_ok-known.known of_packages once same in
    subst (λ (o : Option WorkspaceFault). IfOk c.refusal_behind.result (λ refused. refused ≡ o)) reason c.refusal_behind.ensures
