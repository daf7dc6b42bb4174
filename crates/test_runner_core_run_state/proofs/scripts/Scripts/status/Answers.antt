use Rattle.std.proofs.Common.{List, subst}
use Rattle.std.specs.Prelude.{slice_get}
use Rattle.std.specs.Slice.{IsItemAt}
use Rattle.test_runner_core_run_state.specs.Parts.{ScriptState}
use Rattle.test_runner_core_run_state.specs.Statuses.{IsScriptStatus, ScriptStatus}
use Rattle.test_runner_core_run_state.proofs.Kept.{script_status_at}
use Rattle.test_runner_core_run_state.proofs.scripts.Scripts.status.Goals as goal

pub returns : goal.returns
returns c =
    let found = c.get.result in
    let is = subst (λ (statuses : List ScriptStatus). IsItemAt statuses c.args.place found) c.as_slice.ensures.value c.get.ensures.lookup in
    subst (λ (scripts : ScriptState). IsScriptStatus (slice_get scripts.ended c.args.place) found) c.self.view_is
    (script_status_at c.self.inside.statuses.items c.args.place found c.self.invariant.made is)
