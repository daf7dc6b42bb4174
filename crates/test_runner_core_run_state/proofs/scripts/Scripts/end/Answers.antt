use Rattle.std.proofs.Common.{◌≡◌, ◌+◌, List, ◌∷◌, [], length, map, sym, subst, ap, ◌∙◌, arith}
use Rattle.std.proofs.lemmas.List.{length-append}
use Rattle.test_runner_core_run_state.specs.Parts.{ScriptState}
use Rattle.test_runner_core_run_state.specs.Statuses.{ScriptStatus, AreScriptStatuses, script_record_of}
use Rattle.test_runner_core_run_state.proofs.Kept.{length_map, script_status_more}
use Rattle.test_runner_core_run_state.proofs.scripts.Scripts.end.Goals as goal

pub invariant_of-self : goal.invariant_of-self
invariant_of-self c =
    let old = c.self.inside.statuses.items in
    let items = c.push_reserved.ensures.items in
    let ended : length (c.args.self.now).ended ≡ length old = ap (λ (s : ScriptState). length s.ended) (sym c.self.view_is) ∙ length_map script_record_of old in
    let planned : (c.args.self.now).planned ≡ c.self.inside.planned = ap (λ (s : ScriptState). s.planned) (sym c.self.view_is) in
    let more : length c.push_reserved.new.self.items ≡ length old + 1 = ap length items ∙ length-append old (c.args.status ∷ []) in
    let less = c.requires.planned in
    let room = c.self.invariant.room_left in
    let capacity = c.push_reserved.ensures.capacity in
    record {
      made = subst (λ (s : List ScriptStatus). AreScriptStatuses (map script_record_of s) s) (sym items) (script_status_more old c.args.status c.self.invariant.made c.requires.made);
      within = omega (arith, ended, planned, more, less);
      room_left = omega (arith, room, capacity);
    }
