-- How far a log is read past the line with which a call ends.
use Rattle.std.specs.Prelude.{◌≡◌, ◌⊎◌, ℕ, zero, suc, ◌+◌, ◌<◌, List, [], ◌++◌, map, length, Option, IfSome, Result, Ok, Err, ⊤}
use Rattle.std.specs.Io.KnownBytes.{Appends}
use Rattle.test_runner_core_streams.specs.declared.traits.TheConstants.{READ_LIMIT}
use Rattle.test_runner_core_inputs.specs.Reading.{read_inputs}
use Rattle.test_runner_core_inputs.specs.declared.inputs.Inputs.{Inputs}
use Rattle.test_runner_core_log_reader.specs.Calls.{KeepsAhead}
use Rattle.test_runner_core_log_reader.specs.Cursor.{Cursor, IsNear, items_ahead}
use Rattle.test_runner_core_log_reader.specs.Feeds.{IsPlain, before_feed, behind_feed}
use Rattle.test_runner_core_log_reader.specs.Items.{Item, Line, items}
use Rattle.test_runner_core_log_reader.specs.declared.next.Next.{Next}
use Rattle.test_runner_core_log_reader.specs.declared.next.Next.TheVariants as found_is
use Rattle.test_runner_core_planning.specs.Plan.{Builds}
use Rattle.test_runner_core_plan.specs.declared.plan.Plan.{Plan}
use Rattle.test_runner_core_run_model.specs.State.{State}
use Rattle.test_runner_core_run_model.specs.declared.event.Event.{Event}
use Rattle.test_runner_core_reporter.specs.Parts.{IsTextOf, Part}
use Rattle.test_runner_core_reporter.specs.Writes.{MovesOn}
use Rattle.test_runner_core_workspace.specs.Lister.{Answer}
use Rattle.test_runner_core_workspace.specs.declared.record.Binary.{Binary}
use Rattle.test_runner_core.specs.Judging.{Finds, Leads}
use Rattle.test_runner_core.specs.Outcome.{table_of}
use Rattle.test_runner_core.specs.Report.{SoFar}
use Rattle.test_runner_core.specs.declared.judge_fault.JudgeFault.{JudgeFault}
use Rattle.test_runner_core.specs.declared.judge_fault.JudgeFault.TheVariants as fault
use Rattle.test_runner_core.specs.declared.refused_line.RefusedLine.{RefusedLine}

-- what stands behind so many line feeds
abbrev pub behind_feeds : ℕ → List ℕ → List ℕ
behind_feeds zero bytes = bytes
behind_feeds (suc count) bytes = behind_feed (behind_feeds count bytes)

-- of these bytes all but the rest were taken, and fewer of those stand behind so many line feeds
-- than a reader is asked for at most in one call
pub record IsTakenNear (count : ℕ) (bytes rest : List ℕ) : Type 0 where
  pub taken : List ℕ
  pub whole : bytes ≡ taken ++ rest
  pub near : length (behind_feeds count taken) < READ_LIMIT

-- the number of the line that decides: the first that is refused, or the one that would be behind
-- the log's last
pub record Decides (plan : Plan) (log : List Item) (number : ℕ) : Type 0 where
  pub front : List (List ℕ)
  pub rest : List Item
  pub whole : log ≡ map Line front ++ rest
  pub events : List Event
  pub last : State
  pub leads : Leads plan front events last
  pub found : Option RefusedLine
  pub finds : Finds plan last number rest found
  pub numbered : number ≡ length front + 1

-- what was written begins with the text of these parts
abbrev pub BeginsWith : List Part → Option (List ℕ) → Option (List ℕ) → Type 0
BeginsWith parts before after = (told : List ℕ) × IsTextOf parts told × ((more : List ℕ) × Appends before after (told ++ more))

-- the number of a line up to which the report was not written whole: what was written doesn't
-- begin with what the log's lines up to it report. Nought, where the plan's warnings weren't
pub record IsUnwritten (plan : Plan) (log : List Item) (before after : Option (List ℕ)) (number : ℕ) : Type 0 where
  pub front : List (List ℕ)
  pub rest : List Item
  pub whole : log ≡ map Line front ++ rest
  pub last : State
  pub parts : List Part
  pub so_far : SoFar plan front last parts
  pub unwritten : ¬ BeginsWith parts before after
  pub numbered : number ≡ length front

-- the line that decides is near, and so is each up to which the report was not written whole
abbrev pub EndsNear : Plan → List Item → Option (List ℕ) → Option (List ℕ) → (ℕ → Type 0) → Type 0
EndsNear plan log before after Near =
    ((number : ℕ) → Decides plan log number → Near number) × ((number : ℕ) → IsUnwritten plan log before after number → Near number)

-- the same of inputs: of those without a plan, the log's beginning is near
abbrev pub JudgesNear : (Binary → Answer) → Inputs → List Item → Option (List ℕ) → Option (List ℕ) → (ℕ → Type 0) → Type 0
JudgesNear answer inputs log before after Near = Near 0 ⊎ ((plan : Plan) × Builds answer inputs (Ok plan) × EndsNear plan log before after Near)

-- of a log, of which these bytes are left before a call and after it, where both are known
abbrev pub LogNear : (Binary → Answer) → Inputs → Option (List ℕ) → Option (List ℕ) → Option (List ℕ) → Option (List ℕ) → Type 0
LogNear answer inputs left rest before after =
    IfSome left (λ bytes. IfSome rest (λ behind. JudgesNear answer inputs (items 0 bytes) before after (λ number. IsTakenNear number bytes behind)))

-- of a stream: the first line, or what is near in the log behind it
abbrev pub StreamNear : Option (List ℕ) → Option (List ℕ) → Option (List ℕ) → Option (List ℕ) → Type 0
StreamNear left rest before after =
    IfSome left (λ bytes. IfSome rest (λ behind. IsTakenNear 1 bytes behind
    ⊎ ((inputs : Inputs) × (read_inputs (before_feed bytes) ≡ Ok inputs)
    × JudgesNear (table_of inputs) inputs (items 0 (behind_feed bytes)) before after (λ number. IsTakenNear (number + 1) bytes behind))))

-- of the bytes ahead, those that wait and those that the reader gives
abbrev pub NearAhead : Cursor → Option (List ℕ) → Option (List ℕ) → (List Item → (ℕ → Type 0) → Type 0) → Type 0
NearAhead begin left rest Holds =
    IfSome left (λ bytes. IfSome rest (λ behind. Holds (items_ahead begin bytes) (λ number. IsTakenNear number (begin.waiting ++ bytes) behind)))

-- behind few bytes that wait, a call that goes by lines ends near, and so does one by inputs
abbrev pub LinesNear : Plan → Cursor → Option (List ℕ) → Option (List ℕ) → Option (List ℕ) → Option (List ℕ) → Type 0
LinesNear plan begin left rest before after =
    length begin.waiting < READ_LIMIT → NearAhead begin left rest (λ log. EndsNear plan log before after)

abbrev pub InputsNear : Inputs → Cursor → Option (List ℕ) → Option (List ℕ) → Option (List ℕ) → Option (List ℕ) → Type 0
InputsNear inputs begin left rest before after =
    length begin.waiting < READ_LIMIT → NearAhead begin left rest (λ log. JudgesNear (table_of inputs) inputs log before after)

-- looking for the next line reads nothing, or only once all is written that was reported; few bytes
-- wait behind the line that is found. What a failed read leaves is told with what is handed out
abbrev pub LooksNear : Result Next JudgeFault → Cursor → Option (List ℕ) → Cursor → Option (List ℕ) → Option (List ℕ) → List ℕ → Option (List ℕ) → List ℕ → Type 0
LooksNear (Ok found_is.Line) old left new rest before waited after waits = (length new.waiting < READ_LIMIT) × ((rest ≡ left) ⊎ (waits ≡ []))
LooksNear (Ok other) old left new rest before waited after waits = IsNear new × ((rest ≡ left) ⊎ (waits ≡ []))
LooksNear (Err (fault.Read cause)) old left new rest before waited after waits = ⊤
LooksNear (Err (fault.Write cause)) old left new rest before waited after waits = rest ≡ left
LooksNear (Err fault.Memory) old left new rest before waited after waits =
    (rest ≡ left) ⊎ (KeepsAhead old left new rest × IsPlain new.waiting × MovesOn before waited after [] [])
