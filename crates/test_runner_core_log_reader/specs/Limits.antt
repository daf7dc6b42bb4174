-- How often a reader is asked at most: once for each byte up to the first past a limit.
use Rattle.std.specs.Prelude.{ℕ, ◌+◌}
use Rattle.test_runner_core_log_reader.specs.declared.limits.TheConstants.{FIRST_LINE_LIMIT, LOG_LIMIT}

-- for the line before a log
abbrev pub first_line_reads : ℕ
first_line_reads = FIRST_LINE_LIMIT + 1

-- for a log
abbrev pub log_reads : ℕ
log_reads = LOG_LIMIT + 1
