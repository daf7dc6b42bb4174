-- What reading parts of a platform spec answers.
use Rattle.std.specs.Prelude.{◌≡◌, ◌≤◌, ◌<◌, ℕ, Bool, false, List, [], ◌∷◌, length, ◌++◌, codes, Option, None, Some, Result, Ok, Err, ⊤}
use Rattle.std.specs.Borrow.{Bor}
use Rattle.nextest_filtering_ast.specs.Grammar.{Behind, after_blanks}
use Rattle.test_runner_core_platforms.specs.Spec.{Condition, fact, fact_value, negation, all_of, any_of, Spec, triple, condition}
use Rattle.test_runner_core_platforms.specs.Grammar.{is_of_name, is_of_triple, is_of_value, AllAre, starts, ReadsName, ReadsValue, IsCondition, AreConditions, IsTriple, IsSpec}
use Rattle.test_runner_core_platforms.specs.Flat.{flat, condition_of}
use Rattle.test_runner_core_platforms.specs.Opened.{name_of}
use Rattle.test_runner_core_platforms.specs.Trees.{spec_of}
use Rattle.test_runner_core_platforms.specs.Waiting.{IsAt, text_of}
use Rattle.test_runner_core_platforms.specs.declared.opened.Opened.{Opened}
use Rattle.test_runner_core_platforms.specs.declared.opened.Operation.{Operation}
use Rattle.test_runner_core_platforms.specs.declared.parser.Place.{Place}
use Rattle.test_runner_core_platforms.specs.declared.parser.Start.{Start}
use Rattle.test_runner_core_platforms.specs.declared.parser.Start.TheVariants as begins
use Rattle.test_runner_core_platforms.specs.declared.part.Part.{Part}
use Rattle.test_runner_core_platforms.specs.declared.part.Part.TheVariants as part
use Rattle.test_runner_core_platforms.specs.declared.reading.Reading.{Reading}
use Rattle.test_runner_core_platforms.specs.declared.span.Span.{Span}
use Rattle.test_runner_core_platforms.specs.declared.span.Span.TheVariants as span
use Rattle.test_runner_core_platforms.specs.declared.stop.Stop.{Stop}
use Rattle.test_runner_core_platforms.specs.declared.stop.Stop.TheVariants.{Bad, Memory}
use Rattle.test_runner_core_platforms.specs.declared.platform_spec.PlatformSpec.{PlatformSpec}
use Rattle.test_runner_core_platforms.specs.declared.platform_spec_error.PlatformSpecError.{PlatformSpecError}
use Rattle.test_runner_core_platforms.specs.declared.platform_spec_error.PlatformSpecError.TheVariants.{BadSpec, OutOfMemory}

-- the bytes that a span goes over
abbrev pub is_in : Span → ℕ → Bool
is_in span.Name = is_of_name
is_in span.Triple = is_of_triple
is_in span.Value = is_of_value

-- such bytes stand in front, and what follows doesn't begin with one
pub record IsSplit (span : Span) (text front rest : List ℕ) : Type 0 where
  pub whole : text ≡ front ++ rest
  pub each : AllAre (is_in span) front
  pub ends : starts (is_in span) rest ≡ false

-- a part was read, or none stands here
abbrev pub Finds : (List ℕ → List ℕ → Type 0) → Option (Bor (List ℕ) × Bor (List ℕ)) → Type 0
Finds Reads (Some found) = Reads found.0.now found.1.now
Finds Reads None = (part rest : List ℕ) → Reads part rest → ⊥

-- the operation of that name, whose `(` stands before the text
abbrev pub ReadsOperation : List ℕ → List ℕ → Condition → List ℕ → Type 0
ReadsOperation name text (fact other) rest = ⊥
ReadsOperation name text (fact_value other value) rest = ⊥
ReadsOperation name text (negation it) rest = (name ≡ codes "not") × (behind : List ℕ) × IsCondition text it behind × Behind (codes ")") behind rest
ReadsOperation name text (all_of each) rest = (name ≡ codes "all") × AreConditions text each rest
ReadsOperation name text (any_of each) rest = (name ≡ codes "any") × AreConditions text each rest

-- the fact of that name with the value that the text begins with
abbrev pub ReadsFactValue : List ℕ → List ℕ → Condition → List ℕ → Type 0
ReadsFactValue name text (fact other) rest = ⊥
ReadsFactValue name text (fact_value other value) rest = (other ≡ name) × ReadsValue text value rest
ReadsFactValue name text (negation it) rest = ⊥
ReadsFactValue name text (all_of each) rest = ⊥
ReadsFactValue name text (any_of each) rest = ⊥

-- a condition was read, or none stands here
abbrev pub FindsCondition : (Condition → List ℕ → Type 0) → Result (List Part × Bor (List ℕ)) Stop → Type 0
FindsCondition Reads (Ok found) = Reads (condition_of found.0) found.1.now
FindsCondition Reads (Err (Bad left)) = (it : Condition) (rest : List ℕ) → Reads it rest → ⊥
FindsCondition Reads (Err Memory) = ⊤

-- the fact of that name with the value that the text begins with was read, or the text begins with
-- none
abbrev pub FindsFact : List ℕ → List ℕ → Result (Start × Bor (List ℕ)) Stop → Type 0
FindsFact name text (Ok found) = (value : List ℕ) × (found.0 ≡ begins.Whole (part.FactValue name value)) × ReadsValue text value found.1.now
FindsFact name text (Err (Bad left)) = (value rest : List ℕ) → ReadsValue text value rest → ⊥
FindsFact name text (Err Memory) = ⊤

-- the name is that of the operation, or of none
abbrev pub IsOperation : List ℕ → Option Operation → Type 0
IsOperation name (Some operation) = name ≡ name_of operation
IsOperation name None = (operation : Operation) → name ≡ name_of operation → ⊥

-- the text begins with the operation and its `(`, and rest follows
abbrev pub IsOpened : List ℕ → Operation → List ℕ → Type 0
IsOpened text operation rest = (behind : List ℕ) × ReadsName text (name_of operation) behind × Behind (codes "(") behind rest

-- the text begins with a condition of one part, or with an operation
abbrev pub Begins : List ℕ → Start → List ℕ → Type 0
Begins text (begins.Whole part) rest = (it : Condition) × (flat it ≡ part ∷ []) × IsCondition text it rest
Begins text (begins.Operation operation) rest = IsOpened text operation rest

-- so it does, or with no condition
abbrev pub FindsStart : List ℕ → Result (Start × Bor (List ℕ)) Stop → Type 0
FindsStart text (Ok found) = Begins text found.0 found.1.now
FindsStart text (Err (Bad left)) = (it : Condition) (rest : List ℕ) → IsCondition text it rest → ⊥
FindsStart text (Err Memory) = ⊤

-- From where some text was read to, it was read on up to another place; or it begins with no
-- condition.
abbrev pub Goes : (List ℕ → List Opened → List Part → List ℕ → Type 0) → Reading → List ℕ → Reading → Result Place Stop → Type 0
Goes Is old text new (Ok place) = (length (text_of place) < length text) × ((whole : List ℕ) → Is whole old.opened old.parts.items text → IsAt whole new place)
Goes Is old text new (Err (Bad left)) = (whole : List ℕ) → Is whole old.opened old.parts.items text → (it : Condition) (end : List ℕ) → IsCondition whole it end → ⊥
Goes Is old text new (Err Memory) = ⊤

-- what follows `cfg` and its `(`, or they don't stand here
abbrev pub FindsCfg : List ℕ → Option (Bor (List ℕ)) → Type 0
FindsCfg text (Some opened) = (named : List ℕ) × Behind (codes "cfg") text named × Behind (codes "(") named opened.now
FindsCfg text None = (named opened : List ℕ) → Behind (codes "cfg") text named → Behind (codes "(") named opened → ⊥

-- a condition and `)` are all that the text has
abbrev pub EndsCfg : List ℕ → Spec → Type 0
EndsCfg text (triple name) = ⊥
EndsCfg text (condition it) = (read rest : List ℕ) × IsCondition text it read × Behind (codes ")") read rest × (after_blanks rest ≡ [])

-- the text is a triple
abbrev pub OnlyTriple : List ℕ → Spec → Type 0
OnlyTriple text (triple name) = IsTriple text name
OnlyTriple text (condition it) = ⊥

-- the spec was read, or there is none
abbrev pub FindsSpec : (Spec → Type 0) → Result PlatformSpec Stop → Type 0
FindsSpec Reads (Ok it) = Reads (spec_of it)
FindsSpec Reads (Err (Bad left)) = (it : Spec) → Reads it → ⊥
FindsSpec Reads (Err Memory) = ⊤

-- The text is this spec; or it is none, with a place in it. Want of memory says nothing of it.
abbrev pub Parses : List ℕ → Result PlatformSpec PlatformSpecError → Type 0
Parses text (Ok it) = IsSpec text (spec_of it)
Parses text (Err (BadSpec offset)) = ((it : Spec) → IsSpec text it → ⊥) × (offset ≤ length text)
Parses text (Err OutOfMemory) = ⊤
