-- How values are written as JSON. The members of an object stand in the order of their names.
use Rattle.std.specs.Prelude.{ℤ, List, map, Option, None, Some, codes}
use Rattle.serde_json.specs.Data.{Data, null, boolean, number, string, array, object, no_members, member}
use Rattle.serde_json.specs.Find.{of_integer}
use Rattle.serde_json.specs.View.{items_of}
use Rattle.nextest_config_elements_choices.specs.declared.timeouts.LeakTimeoutResult as leak_judged
use Rattle.nextest_config_elements_choices.specs.declared.timeouts.SlowTimeoutResult as timeout_judged
use Rattle.nextest_run_events_results.specs.declared.result.AbortDescription.{AbortDescription}
use Rattle.nextest_run_events_results.specs.declared.result.AbortDescription.TheVariants as aborted
use Rattle.nextest_run_events_results.specs.declared.result.FailureDescription.{FailureDescription}
use Rattle.nextest_run_events_results.specs.declared.result.FailureDescription.TheVariants as failed
use Rattle.nextest_run_events_results.specs.declared.result.ExecutionResultDescription.{ExecutionResultDescription}
use Rattle.nextest_run_events_results.specs.declared.result.ExecutionResultDescription.TheVariants as ended
use Rattle.nextest_run_events_outputs.specs.declared.serializable_error.ErrorChain.{ErrorChain}

abbrev pub whole : ℤ → Data
whole z = number (of_integer z)

-- null where there is none
abbrev pub unless_absent : {A : Type 0} → (A → Data) → Option A → Data
unless_absent form None = null
unless_absent form (Some value) = form value

-- values in their order
abbrev pub list : {A : Type 0} → (A → Data) → List A → Data
list form values = array (items_of (map form values))

-- how a leak and a timeout are judged
abbrev pub leak : leak_judged.LeakTimeoutResult → Data
leak leak_judged.TheVariants.Pass = string (codes "pass")
leak leak_judged.TheVariants.Fail = string (codes "fail")

abbrev pub timeout : timeout_judged.SlowTimeoutResult → Data
timeout timeout_judged.TheVariants.Pass = string (codes "pass")
timeout timeout_judged.TheVariants.Fail = string (codes "fail")

abbrev pub abort : AbortDescription → Data
abort (aborted.UnixSignal signal name) =
    object (member (codes "kind") (string (codes "unix-signal"))
    (member (codes "name") (unless_absent string name)
    (member (codes "signal") (whole signal) no_members)))
abort (aborted.WindowsNtStatus code message) =
    object (member (codes "code") (whole code)
    (member (codes "kind") (string (codes "windows-nt-status"))
    (member (codes "message") (unless_absent string message) no_members)))
abort aborted.WindowsJobObject = object (member (codes "kind") (string (codes "windows-job-object")) no_members)

abbrev pub failure : FailureDescription → Data
failure (failed.ExitCode code) =
    object (member (codes "code") (whole code)
    (member (codes "kind") (string (codes "exit-code")) no_members))
failure (failed.Abort how) =
    object (member (codes "abort") (abort how)
    (member (codes "kind") (string (codes "abort")) no_members))

abbrev pub result : ExecutionResultDescription → Data
result ended.Pass = object (member (codes "status") (string (codes "pass")) no_members)
result (ended.Leak judged) =
    object (member (codes "result") (leak judged)
    (member (codes "status") (string (codes "leak")) no_members))
result (ended.Fail why leaked) =
    object (member (codes "failure") (failure why)
    (member (codes "leaked") (boolean leaked)
    (member (codes "status") (string (codes "fail")) no_members)))
result ended.ExecFail = object (member (codes "status") (string (codes "exec-fail")) no_members)
result (ended.Timeout judged) =
    object (member (codes "result") (timeout judged)
    (member (codes "status") (string (codes "timeout")) no_members))

-- the causes stand nearest first
abbrev pub error : ErrorChain → Data
error chain =
    object (member (codes "causes") (list string chain.causes)
    (member (codes "message") (string chain.message) no_members))
