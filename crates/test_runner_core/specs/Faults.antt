-- What a fault of judging reports of reader, writer and report.
use Rattle.std.specs.Prelude.{◌≡◌, ℕ, ◌+◌, Bool, true, false, Result, Err}
use Rattle.test_runner_core_log_reader.specs.declared.fault.LogFault.{LogFault}
use Rattle.test_runner_core_log_reader.specs.declared.fault.LogFault.TheVariants as read
use Rattle.test_runner_core_reporter.specs.declared.fault.ReportFault.{ReportFault}
use Rattle.test_runner_core_reporter.specs.declared.fault.ReportFault.TheVariants as told
use Rattle.test_runner_core.specs.declared.judge_fault.JudgeFault.{JudgeFault}
use Rattle.test_runner_core.specs.declared.judge_fault.JudgeFault.TheVariants as fault

abbrev pub fault_of : LogFault → JudgeFault
fault_of read.Memory = fault.Memory
fault_of (read.Read cause) = fault.Read cause

abbrev pub fault_of_reporting : ReportFault → JudgeFault
fault_of_reporting told.Memory = fault.Memory
fault_of_reporting (told.Write cause) = fault.Write cause

-- the reader's failed calls rose by one exactly where its failure is answered, and then its last
-- call failed
abbrev pub CountsReadFailures : {A : Type 0} → Result A JudgeFault → ℕ → ℕ → Bool → Type 0
CountsReadFailures (Err (fault.Read cause)) before after last = (after ≡ before + 1) × (last ≡ true)
CountsReadFailures result before after last = after ≡ before

-- the same of the writer
abbrev pub CountsWriteFailures : {A : Type 0} → Result A JudgeFault → ℕ → ℕ → Bool → Type 0
CountsWriteFailures (Err (fault.Write cause)) before after last = (after ≡ before + 1) × (last ≡ true)
CountsWriteFailures result before after last = after ≡ before

-- whether memory was wanting
abbrev pub lacks_memory : {A : Type 0} → Result A JudgeFault → Bool
lacks_memory (Err fault.Memory) = true
lacks_memory result = false
