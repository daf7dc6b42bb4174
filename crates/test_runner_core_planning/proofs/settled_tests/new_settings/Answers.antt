use Rattle.test_runner_core_planning.proofs.Settled.{shared_more}
use Rattle.test_runner_core_planning.proofs.settled_tests.new_settings.Goals as goal

pub returns-clause-shared : goal.returns-clause-shared
returns-clause-shared c =
    shared_more c.args.profile.now c.args.mode c.args.shared.now c.insert.new.self c.args.number c.args.row.now c.in_ok-settings.settings
    (record { row = c.in_ok-from_slice.field-0; settings = c.in_ok-clone.field-0 })
    c.requires.shared c.requires.counted c.requires.numbered c.in_ok-settings.ensures c.in_ok-from_slice.ensures.items c.in_ok-clone.ensures.cases c.in_ok-insert.ensures.updates
