-- What writing a part of a line adds to it.
use Rattle.std.specs.Prelude.{◌≡◌, ℕ, List, ◌∷◌, ◌++◌}
use Rattle.nextest_run_events_results.specs.declared.record.Record.{Record}
use Rattle.nextest_run_events_results.specs.declared.record.RecordOutput.{RecordOutput}
use Rattle.test_runner_core_line_syntax.specs.Spelling.{SpellsOutput, SpellsRecord, line_of_fields}

-- the new line is the old one with a tab and what is spelled so behind it
abbrev pub Appends : (List ℕ → Type 0) → List ℕ → List ℕ → Type 0
Appends IsSpelled old new = (text : List ℕ) × IsSpelled text × (new ≡ old ++ 9 ∷ text)

-- OUT and ERR, with a tab between them
abbrev pub SpellsBothStreams : RecordOutput → List ℕ → Type 0
SpellsBothStreams ending text = (out : List ℕ) × (err : List ℕ) × SpellsOutput ending out err × (text ≡ out ++ 9 ∷ err)

-- the fields of a record, with a tab between each two
abbrev pub SpellsRecordText : Record → List ℕ → Type 0
SpellsRecordText ending text = (fields : List (List ℕ)) × SpellsRecord ending fields × (text ≡ line_of_fields fields)

-- some text is spelled so
abbrev pub IsSpellable : (List ℕ → Type 0) → Type 0
IsSpellable IsSpelled = (text : List ℕ) × IsSpelled text
