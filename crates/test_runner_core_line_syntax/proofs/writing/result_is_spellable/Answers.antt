use Rattle.std.proofs.Common.{refl}
use Rattle.std.specs.Prelude.{codes}
use Rattle.test_runner_core_line_syntax.proofs.Writable.{exec_fail_spellable, leak_spellable, timeout_spellable, fail_spellable}
use Rattle.test_runner_core_line_syntax.proofs.writing.result_is_spellable.Goals as goal

pub returns-in-Pass : goal.returns-in-Pass
returns-in-Pass c = rw c.in-Pass.is ((λ _. (codes "pass", refl)), (λ _. refl))

pub returns-in-Leak : goal.returns-in-Leak
returns-in-Leak c = rw c.in-Leak.is (leak_spellable c.in-Leak.result)

pub returns-in-Fail : goal.returns-in-Fail
returns-in-Fail c =
    let fail = fail_spellable c.in-Fail.failure c.in-Fail.leaked in
    let failure = c.failure_is_spellable.ensures in
    rw c.in-Fail.is ((λ yes. fail.0 (failure.0 yes)), (λ spellable. failure.1 (fail.1 spellable)))

pub returns-in-Timeout : goal.returns-in-Timeout
returns-in-Timeout c = rw c.in-Timeout.is (timeout_spellable c.in-Timeout.result)

pub returns-in-ExecFail : goal.returns-in-ExecFail
returns-in-ExecFail c = rw c.in-ExecFail.is exec_fail_spellable
