-- The names by which refusals print.
use Rattle.std.specs.Prelude.{ℕ, List, codes}
use Rattle.test_runner_core_run_model.specs.declared.step_refusal.StepRefusal.TheVariants as step
use Rattle.test_runner_core.specs.declared.refused_line.LineRefusal.{LineRefusal}
use Rattle.test_runner_core.specs.declared.refused_line.LineRefusal.TheVariants as it

abbrev pub text_of : LineRefusal → List ℕ
text_of it.LineTooLong = codes "LineTooLong"
text_of it.LogTooLong = codes "LogTooLong"
text_of it.NoLineEnd = codes "NoLineEnd"
text_of it.NotUtf8 = codes "NotUtf8"
text_of it.BadLine = codes "BadLine"
text_of (it.Step step.UnknownScript) = codes "UnknownScript"
text_of (it.Step step.UnknownTest) = codes "UnknownTest"
text_of (it.Step step.Stopped) = codes "Stopped"
text_of (it.Step step.OutOfOrder) = codes "OutOfOrder"
text_of (it.Step step.ScriptsPending) = codes "ScriptsPending"
text_of (it.Step step.Running) = codes "Running"
text_of (it.Step step.Finished) = codes "Finished"
text_of (it.Step step.NotRunning) = codes "NotRunning"
text_of (it.Step step.InnerReason) = codes "InnerReason"
