-- What a call wrote is a prefix of the whole report.
use Rattle.std.proofs.Common.{◌≡◌, ℕ, List, [], ◌++◌, Option, Ok, Err, sym, ap, ◌∙◌, append-nil, append_assoc}
use Rattle.std.specs.Io.KnownBytes.{Appends}
use Rattle.test_runner_core_inputs.specs.declared.inputs.Inputs.{Inputs}
use Rattle.test_runner_core_log_reader.specs.Items.{Item}
use Rattle.test_runner_core_reporter.specs.Parts.{IsTextOf, Part}
use Rattle.test_runner_core_reporter.specs.Writes.{WritesPrefix}
use Rattle.test_runner_core_workspace.specs.Lister.{Answer}
use Rattle.test_runner_core_workspace.specs.declared.record.Binary.{Binary}
use Rattle.test_runner_core.specs.Laws.{WrittenFirst}
use Rattle.test_runner_core.specs.Report.{Begun, Composed, IsWritten}
use Rattle.test_runner_core.specs.declared.judge_fault.JudgeFault.TheVariants as fault
use Rattle.test_runner_core.proofs.OneReport.{ends_with_one_text, nothing_taken_back}

-- a text begins with what was written
abbrev BeginsWritten : List ℕ → Option (List ℕ) → Option (List ℕ) → Type 0
BeginsWritten text before after = (written more : List ℕ) × Appends before after written × (text ≡ written ++ more)

-- what was begun and written whole
begun_whole : (answer : Binary → Answer) (inputs : Inputs) (log : List Item) (before after : Option (List ℕ)) (parts whole : List Part) (code : ℕ) (text : List ℕ)
    → Begun answer inputs log parts → IsWritten parts before after → Composed answer inputs log whole code → IsTextOf whole text → BeginsWritten text before after
begun_whole answer inputs log before after parts whole code text begun (told, is, appends) composed is_whole =
    let first = nothing_taken_back answer inputs log parts parts [] whole code told text begun (sym (append-nil parts)) is composed is_whole in
    (told, first.0, appends, first.1)

-- what was begun, and written in front
begun_front : (answer : Binary → Answer) (inputs : Inputs) (log : List Item) (before after : Option (List ℕ)) (parts whole : List Part) (code : ℕ) (text : List ℕ)
    → Begun answer inputs log parts → WritesPrefix parts before [] after → Composed answer inputs log whole code → IsTextOf whole text → BeginsWritten text before after
begun_front answer inputs log before after parts whole code text begun writes composed is_whole =
    let first = nothing_taken_back answer inputs log parts writes.front writes.rest whole code writes.told text begun writes.whole writes.text composed is_whole in
    let written = writes.moved.written in
    (written, writes.lost ++ first.0, writes.moved.taken, first.1 ∙ ap (λ (t : List ℕ). t ++ first.0) (sym writes.moved.whole) ∙ append_assoc written writes.lost first.0)

pub written_first : WrittenFirst
written_first answer inputs log (Ok other) before after (parts, is, written) whole code text composed is_whole =
    let one = ends_with_one_text answer inputs log whole parts code other text written.0 composed is is_whole written.1 in
    (written.0, [], written.2, one.0 ∙ sym (append-nil written.0))
written_first answer inputs log (Err (fault.Read cause)) before after (parts, got, begun, written) whole code text composed is_whole =
    begun_whole answer inputs log before after parts whole code text begun written composed is_whole
written_first answer inputs log (Err (fault.Write cause)) before after (parts, begun, writes) whole code text composed is_whole =
    begun_front answer inputs log before after parts whole code text begun writes composed is_whole
written_first answer inputs log (Err fault.Memory) before after (parts, begun, writes) whole code text composed is_whole =
    begun_front answer inputs log before after parts whole code text begun writes composed is_whole
