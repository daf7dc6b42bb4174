-- Where a reader of lines stands in a log.
use Rattle.std.specs.Prelude.{◌≡◌, ℕ, ◌+◌, ◌<◌, Bool, ◌||◌, nat_lt, length, List, ◌++◌}
use Rattle.test_runner_core_streams.specs.declared.traits.TheConstants.{READ_LIMIT}
use Rattle.test_runner_core_log_reader.specs.Feeds.{behind_feed, has_feed}
use Rattle.test_runner_core_log_reader.specs.Items.{Item, items}
use Rattle.test_runner_core_log_reader.specs.declared.limits.TheConstants.{LINE_LIMIT, LOG_LIMIT}

-- the line that the last call found, or no bytes; the bytes that were read and not handed out yet;
-- and how many bytes of the log were handed out, line feeds among them
pub record Cursor : Type 0 where
  pub line : List ℕ
  pub waiting : List ℕ
  pub handed : ℕ

-- how many bytes of the log were read
abbrev pub bytes_received : Cursor → ℕ
bytes_received cursor = cursor.handed + length cursor.waiting

-- the bytes that wait tell what is next: there is a line feed among them, or they are too many
-- whatever follows
abbrev pub tells_next : Cursor → Bool
tells_next cursor = has_feed cursor.waiting || nat_lt LINE_LIMIT (length cursor.waiting) || nat_lt LOG_LIMIT (bytes_received cursor)

-- fewer bytes wait behind the first line feed among those that wait than a reader is asked for at
-- most in one call
abbrev pub IsNear : Cursor → Type 0
IsNear cursor = length (behind_feed cursor.waiting) < READ_LIMIT

-- the items that are ahead where the reader has these bytes left
abbrev pub items_ahead : Cursor → List ℕ → List Item
items_ahead cursor left = items cursor.handed (cursor.waiting ++ left)

-- nothing was read or handed out
pub record Unmoved (old new : Cursor) : Type 0 where
  pub waiting : new.waiting ≡ old.waiting
  pub handed : new.handed ≡ old.handed
