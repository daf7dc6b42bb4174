use Rattle.std.proofs.Common.{◌≡◌, Bool, true, ◌&&◌, eqb, length, sym, ap, subst, ◌∙◌, arith}
use Rattle.std.specs.List.{list_all}
use Rattle.std.proofs.lemmas.Bool.Decides.{nat_tests}
use Rattle.nextest_run_events_counters.specs.declared.run_stats.RunStats.{RunStats}
use Rattle.test_runner_core_run_model.specs.State.{State, is_finished}
use Rattle.test_runner_core_run_state.specs.contracts.progress.Progress.{the_view}
use Rattle.test_runner_core_run_state.proofs.Counts.{all_counted}
use Rattle.test_runner_core_run_state.proofs.progress.Progress.is_over.Goals as goal

pub returns-then-all_scripts : goal.returns-then-all_scripts
returns-then-all_scripts g c =
    let state = the_view g.row.A g.row.A-Ending g.A.KeepAttempts c.self.inside in
    let stats = c.self.inside.stats in
    let own = c.self.invariant in
    let first : eqb (length state.scripts) state.planned_scripts ≡ true =
    (let ended = c.ended.ensures.count in let planned = c.planned.ensures in let same = c.if-all_scripts.true in grind (arith, nat_tests, ended, planned, same)) in
    subst (λ (s : State). eqb stats.finished_count stats.initial_run_count ≡ (eqb (length s.scripts) s.planned_scripts && list_all is_finished s.tests)) c.self.view_is
    (ap (λ (s : RunStats). eqb s.finished_count s.initial_run_count) own ∙ sym (all_counted is_finished state.tests)
    ∙ ap (λ (b : Bool). b && list_all is_finished state.tests) (sym first))
