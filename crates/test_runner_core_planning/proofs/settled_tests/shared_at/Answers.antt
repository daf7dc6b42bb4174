use Rattle.std.proofs.Common.{◌≡◌, Bool, List, length, ap, sym, subst, ◌∙◌}
use Rattle.nextest_config_resolution_profiles.specs.HeldRules.{held_row, row_number}
use Rattle.test_runner_core_planning.specs.Tests.{HasForRow}
use Rattle.test_runner_core_planning.proofs.Settled.{shared_found}
use Rattle.test_runner_core_planning.proofs.settled_tests.shared_at.Goals as goal

pub returns : goal.returns
returns c = λ profile mode are counted numbered.
    let found = c.in-Some.found.now in
    let own = shared_found profile mode c.args.shared.now c.args.number found are (sym c.in-Some.ensures.value) in
    let row : c.as_slice.result.now ≡ found.row.items = c.as_slice.ensures.value in
    let same : c.as_slice.result.now ≡ held_row c.args.place c.args.held.now
    = c.in_ok-is_row_at.ensures c.if-not-branch.false (ap length row ∙ own.counted ∙ sym counted) (ap row_number row ∙ sym own.numbered ∙ numbered) in
    subst (HasForRow profile mode (held_row c.args.place c.args.held.now)) (sym c.in_ok-clone.ensures.cases) (subst (λ (it : List Bool). HasForRow profile mode it found.settings) (sym row ∙ same) own.has)
