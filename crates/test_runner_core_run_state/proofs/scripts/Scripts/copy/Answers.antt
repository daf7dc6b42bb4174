use Rattle.std.proofs.Common.{◌≤◌, ℕ, List, length, map, ap, sym, subst, ◌∙◌}
use Rattle.test_runner_core_run_state.specs.Parts.{ScriptState}
use Rattle.test_runner_core_run_state.specs.Statuses.{ScriptStatus, AreScriptStatuses, script_record_of}
use Rattle.test_runner_core_run_state.proofs.Clones.{same_script_runs}
use Rattle.test_runner_core_run_state.proofs.scripts.Scripts.copy.Goals as goal

abbrev scripts_of : ℕ → List ScriptStatus → ScriptState
scripts_of planned statuses = record { planned = planned; ended = map script_record_of statuses }

pub invariant_of-result : goal.invariant_of-result
invariant_of-result c =
    let statuses = c.self.inside.statuses.items in
    let kept = c.self.invariant in
    let same = same_script_runs (map script_record_of statuses) c.as_slice.result.now statuses c.in_ok-copied.field-0.items c.as_slice.ensures.value kept.made c.in_ok-copied.ensures.each in
    record {
      made = subst (λ (them : List ScriptStatus). AreScriptStatuses (map script_record_of them) them) (sym same) kept.made;
      within = subst (λ (them : List ScriptStatus). length them ≤ c.self.inside.planned) (sym same) kept.within;
      room_left = c.in_ok-copied.ensures.room;
    }

pub returns : goal.returns
returns c =
    let statuses = c.self.inside.statuses.items in
    let same = same_script_runs (map script_record_of statuses) c.as_slice.result.now statuses c.in_ok-copied.field-0.items c.as_slice.ensures.value c.self.invariant.made c.in_ok-copied.ensures.each in
    ap (scripts_of c.self.inside.planned) same ∙ c.self.view_is
