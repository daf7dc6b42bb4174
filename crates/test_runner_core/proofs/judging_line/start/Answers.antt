use Rattle.test_runner_core_run_state.proofs.Taken.{takes_start}
use Rattle.test_runner_core_session.specs.Session.{place_in}
use Rattle.test_runner_core.proofs.judging_line.start.Goals as goal

pub returns-in-Ok-clause-taken : goal.returns-in-Ok-clause-taken
returns-in-Ok-clause-taken c =
    let old = c.prepare.new.self in
    rw (← c.prepare.ensures) (
      c.in-Ok.ensures.plan,
      takes_start old.run c.start.new.self.run (place_in old.plan c.args.binary.now c.args.name.now) c.in-Ok.ensures.step,
    )
