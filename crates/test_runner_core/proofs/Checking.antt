-- What stays true while the lines of a log are checked.
use Rattle.std.proofs.Common.{◌≡◌, ℕ, ◌+◌, ◌≤◌, List, [], Option, Some, None, Ok, refl, sym, subst, inl, inr}
use Rattle.test_runner_core_streams.specs.Left.{WhateverFollows}
use Rattle.test_runner_core_log_reader.proofs.Left.{gives_some}
use Rattle.test_runner_core_log_reader.specs.declared.limits.TheConstants.{LOG_LIMIT}
use Rattle.test_runner_core_log_reader.specs.declared.fault.LineFault.{LineFault}
use Rattle.test_runner_core_log_reader.specs.declared.next.Next.TheVariants as found_is
use Rattle.test_runner_core_log_reader.specs.Items.{Item, items}
use Rattle.test_runner_core_log_reader.specs.Cursor.{Cursor, bytes_received, items_ahead}
use Rattle.test_runner_core_log_reader.specs.Calls.{Hands}
use Rattle.test_runner_core.specs.Check.{FirstRefused, IsReading}
use Rattle.test_runner_core.specs.Judging.{line_refusal_of}
use Rattle.test_runner_core.specs.Report.{OfLeft}
use Rattle.test_runner_core.proofs.Left.{of_left}
use Rattle.test_runner_core.specs.declared.refused_line.LineRefusal.{LineRefusal}
use Rattle.test_runner_core.specs.declared.refused_line.RefusedLine.{RefusedLine}
use Rattle.test_runner_core_line_syntax.specs.Lent.{line_meant}
use Rattle.test_runner_core_line_syntax.specs.Reading.{LendsLine, ReadsLine}
use Rattle.test_runner_core_line_syntax.specs.declared.lent.LentLine.{LentLine}
use Rattle.test_runner_core_line_syntax.specs.declared.log_line.LogLine.{LogLine}

-- what is read where its texts still stand in the line is read
pub lent_reads : (bytes : List ℕ) (found : Option LentLine) → LendsLine bytes (Ok found) → (line : Option LogLine) × ReadsLine bytes (Ok line)
lent_reads bytes None is = (None, is)
lent_reads bytes (Some lent) is = (Some (line_meant lent), is)

-- what is found ahead is what there is to find in the whole log
abbrev pub FindsAll : Option (List ℕ) → ℕ → Cursor → Option (List ℕ) → Type 0
FindsAll known number cursor left =
    WhateverFollows known left (λ log behind. (found : Option RefusedLine) → FirstRefused number (items_ahead cursor behind) found → FirstRefused 1 (items 0 log) found)

pub record Checking (log : Option (List ℕ)) (first_calls first_failures number : ℕ) (cursor : Cursor) (left : Option (List ℕ)) (calls failures : ℕ) : Type 0 where
  pub finds : FindsAll log number cursor left
  pub reads : calls ≤ first_calls + bytes_received cursor
  pub within : bytes_received cursor ≤ LOG_LIMIT + 1
  pub unfailed : failures ≡ first_failures
  pub counted : number ≤ cursor.handed + 1

-- what a whole log has
abbrev pub Finds : Option (List ℕ) → Option RefusedLine → Type 0
Finds known found = OfLeft known (λ log. FirstRefused 1 (items 0 log) found)

-- at a refused line
pub finds_line : (log left rest : Option (List ℕ)) (number : ℕ) (old new : Cursor) (refusal : LineRefusal) → FindsAll log number old left → Hands old left new rest (Ok found_is.Line)
    → IsReading new.line (Some refusal) → Finds log (Some (record { line = number; refusal = refusal }))
finds_line log left rest number old new refusal all hands refused =
    let some = gives_some rest in
    let at = hands some.0 some.1 in
    let whole = all at.0 at.1 in
    let found : Option RefusedLine = Some (record { line = number; refusal = refusal }) in
    of_left (λ bytes. FirstRefused 1 (items 0 bytes) found) log whole.0 whole.1
    (whole.2 found (subst (λ (xs : List Item). FirstRefused number xs found) (sym at.2) (inr (refusal, refused, refl))))

-- where the log is too long or cut
pub finds_fault : (log left rest : Option (List ℕ)) (number : ℕ) (old new : Cursor) (fault : LineFault) → FindsAll log number old left → Hands old left new rest (Ok (found_is.Refused fault))
    → Finds log (Some (record { line = number; refusal = line_refusal_of fault }))
finds_fault log left rest number old new fault all hands =
    let at = hands.2 in
    let whole = all at.0 at.1 in
    let found : Option RefusedLine = Some (record { line = number; refusal = line_refusal_of fault }) in
    of_left (λ bytes. FirstRefused 1 (items 0 bytes) found) log whole.0 whole.1
    (whole.2 found (subst (λ (xs : List Item). FirstRefused number xs found) (sym at.2.0) refl))

-- at its end
pub finds_none : (log left rest : Option (List ℕ)) (number : ℕ) (old new : Cursor) → FindsAll log number old left → Hands old left new rest (Ok found_is.End) → Finds log None
finds_none log left rest number old new all hands =
    let at = hands.2 in
    let whole = all at.0 at.1 in
    of_left (λ bytes. FirstRefused 1 (items 0 bytes) None) log whole.0 whole.1
    (whole.2 None (subst (λ (xs : List Item). FirstRefused number xs None) (sym at.2.0) tt))

-- behind a line that is accepted
pub finds_past : (log left rest : Option (List ℕ)) (number : ℕ) (old new : Cursor) → FindsAll log number old left → Hands old left new rest (Ok found_is.Line) → IsReading new.line None
    → FindsAll log (number + 1) new rest
finds_past log left rest number old new all hands accepted = λ behind gives.
    let at = hands behind gives in
    let whole = all at.0 at.1 in
    (whole.0, whole.1, λ found is. whole.2 found (subst (λ (xs : List Item). FirstRefused number xs found) (sym at.2) (inl (accepted, is))))

-- at the log's beginning
pub finds_first : (log : Option (List ℕ)) (begin : Cursor) → begin ≡ record { line = []; waiting = []; handed = 0 } → FindsAll log 1 begin log
finds_first log begin fresh = λ behind gives. (behind, gives, λ found is. subst (λ (c : Cursor). FirstRefused 1 (items_ahead c behind) found) fresh is)
