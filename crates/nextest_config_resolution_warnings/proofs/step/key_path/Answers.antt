use Rattle.nextest_config_resolution_warnings.proofs.Ways.{step_further}
use Rattle.nextest_config_resolution_warnings.proofs.step.key_path.Goals as goal

pub loop-step-preserved : goal.loop-step-preserved
loop-step-preserved c =
    step_further c.args.steps.now c.loop-step.step-index _ c.loop-step.keys c.push.new.self c.in_ok-text_of.field-0
    c.loop-step-test.true c.loop-step.invariant c.in_ok-text_of.ensures c.in_ok-push.ensures.ok
