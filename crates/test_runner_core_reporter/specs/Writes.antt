-- What a call that reports parts of a report does to its writer and to the text that waits to be
-- written.
use Rattle.std.specs.Prelude.{◌≡◌, ℕ, ◌+◌, Bool, true, List, ◌++◌, Option, Result, Ok, Err}
use Rattle.std.specs.Io.KnownBytes.{Appends}
use Rattle.test_runner_core_reporter.specs.Parts.{Part, IsTextOf}
use Rattle.test_runner_core_reporter.specs.declared.fault.ReportFault.{ReportFault}
use Rattle.test_runner_core_reporter.specs.declared.fault.ReportFault.TheVariants as fault

-- a text was reported behind what waited: the writer took a prefix of both, and the rest waits
pub record MovesOn (before : Option (List ℕ)) (waited : List ℕ) (after : Option (List ℕ)) (waits told : List ℕ) : Type 0 where
  pub written : List ℕ
  pub taken : Appends before after written
  pub whole : written ++ waits ≡ waited ++ told

-- a prefix of these parts was reported, and what of it wasn't written is lost
pub record WritesPrefix (parts : List Part) (before : Option (List ℕ)) (waited : List ℕ) (after : Option (List ℕ)) : Type 0 where
  pub front : List Part
  pub rest : List Part
  pub whole : parts ≡ front ++ rest
  pub told : List ℕ
  pub text : IsTextOf front told
  pub lost : List ℕ
  pub moved : MovesOn before waited after lost told

-- all of these parts were reported
pub record WritesAll (parts : List Part) (before : Option (List ℕ)) (waited : List ℕ) (after : Option (List ℕ)) (waits : List ℕ) : Type 0 where
  pub told : List ℕ
  pub text : IsTextOf parts told
  pub moved : MovesOn before waited after waits told

-- all of these parts are reported, or where that fails a prefix of them
abbrev pub WritesParts : {T E : Type 0} → Result T E → List Part → Option (List ℕ) → List ℕ → Option (List ℕ) → List ℕ → Type 0
WritesParts (Ok value) parts before waited after waits = WritesAll parts before waited after waits
WritesParts (Err fault) parts before waited after waits = WritesPrefix parts before waited after

-- the writer's failed calls rose by one exactly where its failure is answered, and then its last
-- call failed
abbrev pub CountsWriteFailures : {T : Type 0} → Result T ReportFault → ℕ → ℕ → Bool → Type 0
CountsWriteFailures (Err (fault.Write cause)) before after last = (after ≡ before + 1) × (last ≡ true)
CountsWriteFailures result before after last = after ≡ before
