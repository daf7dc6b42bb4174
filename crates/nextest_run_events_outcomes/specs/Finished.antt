-- What the counters of a finished run, or stress run, come to.
use Rattle.std.specs.Prelude.{nat_lt, if◌then◌else◌}
use Rattle.nextest_run_events_counters.specs.Summary.{summary_of}
use Rattle.nextest_run_events_counters.specs.declared.summary.FinalRunStats.{FinalRunStats}
use Rattle.nextest_run_events_counters.specs.declared.summary.FinalRunStats.TheVariants as summed
use Rattle.nextest_run_events_outcomes.specs.declared.stress_stats.StressRunStats.{StressRunStats}
use Rattle.nextest_run_events_outcomes.specs.declared.stress_stats.StressFinalRunStats.{StressFinalRunStats}
use Rattle.nextest_run_events_outcomes.specs.declared.stress_stats.StressFinalRunStats.TheVariants as stressed
use Rattle.nextest_run_events_outcomes.specs.declared.finished_stats.RunFinishedStats.{RunFinishedStats}
use Rattle.nextest_run_events_outcomes.specs.declared.finished_stats.RunFinishedStats.TheVariants.{Single, Stress}

-- where no sub-run is counted as failed: by the summary of the last, in which a failure changes
-- nothing
abbrev pub by_last : FinalRunStats → StressFinalRunStats
by_last summed.Success = stressed.Success
by_last summed.NoTestsRun = stressed.NoTestsRun
by_last (summed.Cancelled reason kind) = stressed.Cancelled
by_last (summed.Failed kind) = stressed.Success

-- failed where a sub-run is counted as failed, and else by the last
abbrev pub stress_summary_of : StressRunStats → StressFinalRunStats
stress_summary_of stats = if nat_lt 0 stats.failed_count then stressed.Failed else by_last stats.last_final_stats

-- a run's own summary, or that of a stress run's last sub-run
abbrev pub final_stats_of : RunFinishedStats → FinalRunStats
final_stats_of (Single stats) = summary_of stats
final_stats_of (Stress stats) = stats.last_final_stats
