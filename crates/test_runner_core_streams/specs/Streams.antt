-- What a call of a reader or a writer did: whether it failed, and what it moved.
use Rattle.std.specs.Prelude.{◌≡◌, ℕ, zero, suc, ◌+◌, ◌-◌, ◌<◌, ◌≤◌, ◌==◌, ◌&&◌, Bool, true, List, length, Option, None, Some, Result, Ok, Err, is_err, nat_lt, nat_le, min, take, MatchResult, if◌then◌else◌}
use Rattle.std.specs.Io.KnownBytes.{Appends}
use Rattle.std.specs.IoError.{error_kind}
use Rattle.std.specs.declared.io.Error.{Error as IoError}
use Rattle.std.specs.declared.io.ErrorKind.{ErrorKind}
use Rattle.std.specs.declared.io.ErrorKind.TheVariants.{Other, StorageFull}
use Rattle.test_runner_core_streams.specs.declared.memory_writer.WriteFailure.{WriteFailure}
use Rattle.test_runner_core_streams.specs.declared.memory_writer.WriteFailure.TheVariants.{Error, TakesNone}

-- a read fails where it answers an error
abbrev pub read_fails : {E : Type 0} → Result ℕ E → Bool
read_fails result = is_err result

-- a write fails where it answers an error, or takes none of some bytes
abbrev pub write_fails : {E : Type 0} → Result ℕ E → List ℕ → Bool
write_fails (Ok taken) bytes = taken == 0 && nat_lt 0 (length bytes)
write_fails (Err e) bytes = true

-- all of the bytes are taken; where that fails, a prefix of them is
abbrev pub TakesAll : {T E : Type 0} → Result T E → Option (List ℕ) → Option (List ℕ) → List ℕ → Type 0
TakesAll (Ok value) before after bytes = Appends before after bytes
TakesAll (Err fault) before after bytes = (count : ℕ) × Appends before after (take count bytes)

-- a number of failed calls, after a call that failed or did not
abbrev pub failures_after : ℕ → Bool → ℕ
failures_after failures failed = if failed then failures + 1 else failures

-- a reader over another: the one below, and how its calls went
pub record Counted (S : Type 0) : Type 0 where
  pub inner : S
  pub calls : ℕ
  pub failures : ℕ
  pub last_failed : Bool

-- a writer over another: the one below, and how its calls went
pub record CountedWriter (S : Type 0) : Type 0 where
  pub inner : S
  pub failures : ℕ
  pub last_failed : Bool

-- what a reader over memory shows: the bytes that are left, the greatest number of bytes that a
-- call moves, how many calls come before the one that fails, and how its calls went
pub record MemoryRead : Type 0 where
  pub left : List ℕ
  pub piece : ℕ
  pub fails_after : Option ℕ
  pub calls : ℕ
  pub failures : ℕ
  pub last_failed : Bool

-- how many calls come before the one that fails, after one more call
abbrev pub counted_down : Option ℕ → Option ℕ
counted_down None = None
counted_down (Some zero) = None
counted_down (Some (suc calls)) = Some calls

-- what a writer into memory shows: the bytes that it took, how many it has room for in all, the
-- greatest number of bytes that a call takes, how many calls come before the one that fails and how
-- that fails, and how its calls went
pub record MemoryWritten : Type 0 where
  pub written : List ℕ
  pub room : ℕ
  pub piece : ℕ
  pub fails_after : Option (ℕ × WriteFailure)
  pub failures : ℕ
  pub last_failed : Bool

-- a writer into memory moves some bytes a call, took no more than it has room for, and has memory
-- for all its room
pub record HasItsRoom (piece taken room capacity : ℕ) : Type 0 where
  pub some_piece : 0 < piece
  pub within : taken ≤ room
  pub has_memory : room ≤ capacity

-- how many calls come before the one that fails, and how that fails, after one more call
abbrev pub counted_down_to : Option (ℕ × WriteFailure) → Option (ℕ × WriteFailure)
counted_down_to None = None
counted_down_to (Some (zero, how)) = None
counted_down_to (Some (suc calls, how)) = Some (calls, how)

-- how the next call fails, where it is the one that is chosen to
abbrev pub chosen_failure : Option (ℕ × WriteFailure) → Option WriteFailure
chosen_failure None = None
chosen_failure (Some (zero, how)) = Some how
chosen_failure (Some (suc calls, how)) = None

-- what a write of a piece into the room that is left answers: all of it, or no room
abbrev pub piece_answer : ℕ → ℕ → Result ℕ ErrorKind
piece_answer piece room_left = if nat_le piece room_left then Ok piece else Err StorageFull

-- what a write answers where it is chosen to fail, and what it answers elsewhere
abbrev pub answer_unless : Option WriteFailure → Result ℕ ErrorKind → Result ℕ ErrorKind
answer_unless None answer = answer
answer_unless (Some Error) answer = Err Other
answer_unless (Some TakesNone) answer = Ok 0

-- what a write of `bytes` into memory answers: how many of them it takes, or the kind of its error
abbrev pub memory_answer : MemoryWritten → List ℕ → Result ℕ ErrorKind
memory_answer writer bytes =
    answer_unless (chosen_failure writer.fails_after)
    (piece_answer (min writer.piece (length bytes)) (writer.room - length writer.written))

-- a result is this answer: the number, or an error of the kind
abbrev pub Answers : Result ℕ ErrorKind → Result ℕ IoError → Type 0
Answers answer result = MatchResult result (λ taken. answer ≡ Ok taken) (λ e. answer ≡ Err (error_kind e))
