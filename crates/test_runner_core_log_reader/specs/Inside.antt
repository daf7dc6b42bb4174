-- What a reader of lines keeps inside.
use Rattle.std.specs.Prelude.{◌+◌, ◌-◌, ◌≤◌, vec_len}
use Rattle.std.specs.List.{slice_range}
use Rattle.test_runner_core_log_reader.specs.Cursor.{Cursor, IsNear}
use Rattle.test_runner_core_log_reader.specs.Feeds.{IsPlain}
use Rattle.test_runner_core_log_reader.specs.Limits.{log_reads}
use Rattle.test_runner_core_log_reader.specs.declared.limits.TheConstants.{LOG_LIMIT}
use Rattle.test_runner_core_log_reader.specs.declared.log_lines.LogLines.TheInside.{Inside}

abbrev pub cursor_of : Inside → Cursor
cursor_of inside =
    record {
      line = slice_range inside.buffer.items inside.line_start inside.line_end;
      waiting = slice_range inside.buffer.items inside.start inside.end;
      handed = inside.handed;
    }

-- the line lies before the bytes that wait, of which those up to `scanned` have no line feed, and
-- few stand behind the first line feed; and no more of the log was read than its limit and one byte
pub record IsInOrder (inside : Inside) : Type 0 where
  pub line : inside.line_start ≤ inside.line_end
  pub before : inside.line_end ≤ inside.start
  pub begun : inside.start ≤ inside.scanned
  pub scanned : inside.scanned ≤ inside.end
  pub filled : inside.end ≤ vec_len inside.buffer
  pub plain : IsPlain (slice_range inside.buffer.items inside.start inside.scanned)
  pub near : IsNear (cursor_of inside)
  pub handed : inside.handed ≤ LOG_LIMIT
  pub received : inside.handed + (inside.end - inside.start) ≤ log_reads
