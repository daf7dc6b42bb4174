-- A line spells an event just where its fields do, it has no line feed and is UTF-8. So it spells
-- one event at most.
use Rattle.std.proofs.Common.{◌≡◌, ◌≢◌, ℕ, false, nat_eq, length, List, [], ◌∷◌, Option, Some, None, Result, Ok, Err, refl, sym, ap, subst, ◌∙◌}
use Rattle.std.specs.Prelude.{IfOk}
use Rattle.std.specs.List.{AllByRecursion}
use Rattle.std.specs.Str.{IsUtf8}
use Rattle.std.proofs.lemmas.Str.{IsUtf8-nil}
use Rattle.test_runner_core_line_syntax.specs.declared.log_line.LogLine.{LogLine}
use Rattle.test_runner_core_line_syntax.specs.declared.log_line.LogLine.TheVariants as line
use Rattle.test_runner_core_line_syntax.specs.declared.parse_line_error.ParseLineError.{ParseLineError}
use Rattle.test_runner_core_line_syntax.specs.declared.parse_line_error.ParseLineError.TheVariants as fault
use Rattle.test_runner_core_line_syntax.specs.Spelling.{SpellsFields, Spells, IsField, line_of_fields, HasSpelling}
use Rattle.test_runner_core_line_syntax.specs.Fields.{fields_of, Reads}
use Rattle.test_runner_core_line_syntax.specs.Reading.{ReadsLine}
use Rattle.test_runner_core_line_syntax.specs.Laws.{OneEvent, OneSpelling, OneReading}
use Rattle.test_runner_core_line_syntax.proofs.Fields.{HasNoLineFeed, fields_of-joined, joined-fields_of, no_feed-joined, plain-fields_of}
use Rattle.test_runner_core_line_syntax.proofs.Spellings.{line_is_one, line_has_one}

-- ---- a line and its fields

parted : (event : LogLine) (fields : List (List ℕ)) → SpellsFields event fields → AllByRecursion IsField fields → fields_of (line_of_fields fields) ≡ fields
parted (line.Script id told) [] spelled plain = absurd spelled
parted (line.Start binary name) [] spelled plain = absurd spelled
parted (line.End binary name told) [] spelled plain = absurd spelled
parted (line.Stop reason) [] spelled plain = absurd spelled
parted event (first ∷ rest) spelled plain = fields_of-joined first rest plain

pub fields_spell : (event : LogLine) (bytes : List ℕ) → Spells event bytes → SpellsFields event (fields_of bytes)
fields_spell event bytes spells =
    subst (λ (f : List (List ℕ)). SpellsFields event f) (sym (ap fields_of spells.whole ∙ parted event spells.fields spells.spelled spells.plain)) spells.spelled

pub no_feed_spelled : (event : LogLine) (bytes : List ℕ) → Spells event bytes → HasNoLineFeed bytes
no_feed_spelled event bytes spells = subst HasNoLineFeed (sym spells.whole) (no_feed-joined spells.fields spells.plain)

pub spells_from : (event : LogLine) (bytes : List ℕ) → SpellsFields event (fields_of bytes) → HasNoLineFeed bytes → IsUtf8 bytes → Spells event bytes
spells_from event bytes spelled none utf8 =
    record { fields = fields_of bytes; spelled = spelled; plain = plain-fields_of bytes none; whole = sym (joined-fields_of bytes); utf8 = utf8 }

-- reading the fields of a line with no line feed is reading the line
pub reads_line : {X : Type 0} (meant : X → LogLine) (found : Option X) (bytes : List ℕ) → HasNoLineFeed bytes → IsUtf8 bytes
    → Reads meant (λ event. SpellsFields event (fields_of bytes)) found → Reads meant (λ event. Spells event bytes) found
reads_line meant None bytes none utf8 reads = λ event spells. reads event (fields_spell event bytes spells)
reads_line meant (Some found) bytes none utf8 reads = spells_from (meant found) bytes reads none utf8

-- the fields of an event that has a line, joined, are that line
pub spells_joined : (event : LogLine) (fields : List (List ℕ)) (bytes : List ℕ) → HasSpelling event → SpellsFields event fields → bytes ≡ line_of_fields fields → Spells event bytes
spells_joined event fields bytes has spelled whole =
    let spells = has.1 in
    let same : has.0 ≡ bytes = spells.whole ∙ ap line_of_fields (line_has_one event spells.fields fields spells.spelled spelled) ∙ sym whole in
    subst (λ (x : List ℕ). Spells event x) same spells

-- ---- the laws

pub one_event : OneEvent
one_event a b bytes of_a of_b = line_is_one a b (fields_of bytes) (fields_spell a bytes of_a) (fields_spell b bytes of_b)

pub one_spelling : OneSpelling
one_spelling told x y of_x of_y = of_x.whole ∙ ap line_of_fields (line_has_one told of_x.fields of_y.fields of_x.spelled of_y.spelled) ∙ sym of_y.whole

-- an empty line spells nothing
pub nothing_empty : (event : LogLine) (bytes : List ℕ) → bytes ≡ [] → Spells event bytes → ⊥
nothing_empty event bytes empty spells = one_field event [] (subst (λ (x : List ℕ). SpellsFields event (fields_of x)) empty (fields_spell event bytes spells))
  where
    one_field : (event : LogLine) (field : List ℕ) → SpellsFields event (field ∷ []) → ⊥
    one_field (line.Script id told) field spelled = spelled
    one_field (line.Start binary name) field spelled = spelled
    one_field (line.End binary name told) field spelled = spelled
    one_field (line.Stop reason) field spelled = spelled

abbrev Outcome : Type 0
Outcome = Result (Option LogLine) ParseLineError

pub one_reading : OneReading
one_reading bytes (Ok None) (Ok None) of_first of_second first_had second_had = refl
one_reading bytes (Ok None) (Ok (Some event)) of_first of_second first_had second_had = absurd (nothing_empty event bytes of_first of_second)
one_reading bytes (Ok None) (Err fault.NotUtf8) of_first of_second first_had second_had = absurd (of_second (subst IsUtf8 (sym of_first) IsUtf8-nil))
one_reading bytes (Ok None) (Err fault.BadLine) of_first of_second first_had second_had = absurd (of_second.1 of_first)
one_reading bytes (Ok (Some event)) (Ok None) of_first of_second first_had second_had = absurd (nothing_empty event bytes of_second of_first)
one_reading bytes (Ok (Some x)) (Ok (Some y)) of_first of_second first_had second_had =
    ap (λ (event : LogLine). let o : Outcome = Ok (Some event) in o) (one_event x y bytes of_first of_second)
one_reading bytes (Ok (Some event)) (Err fault.NotUtf8) of_first of_second first_had second_had = absurd (of_second of_first.utf8)
one_reading bytes (Ok (Some event)) (Err fault.BadLine) of_first of_second first_had second_had = absurd (of_second.2 event of_first)
one_reading bytes (Err fault.NotUtf8) (Ok None) of_first of_second first_had second_had = absurd (of_first (subst IsUtf8 (sym of_second) IsUtf8-nil))
one_reading bytes (Err fault.NotUtf8) (Ok (Some event)) of_first of_second first_had second_had = absurd (of_first of_second.utf8)
one_reading bytes (Err fault.NotUtf8) (Err fault.NotUtf8) of_first of_second first_had second_had = refl
one_reading bytes (Err fault.NotUtf8) (Err fault.BadLine) of_first of_second first_had second_had = absurd (of_first of_second.0)
one_reading bytes (Err fault.BadLine) (Ok None) of_first of_second first_had second_had = absurd (of_first.1 of_second)
one_reading bytes (Err fault.BadLine) (Ok (Some event)) of_first of_second first_had second_had = absurd (of_first.2 event of_second)
one_reading bytes (Err fault.BadLine) (Err fault.NotUtf8) of_first of_second first_had second_had = absurd (of_second of_first.0)
one_reading bytes (Err fault.BadLine) (Err fault.BadLine) of_first of_second first_had second_had = refl
one_reading bytes (Err fault.OutOfMemory) second of_first of_second first_had second_had = absurd (first_had refl)
one_reading bytes first (Err fault.OutOfMemory) of_first of_second first_had second_had = absurd (second_had refl)

-- ---- what reading says of an event

-- an event that is spelled is the one that is read
pub only_event : (bytes : List ℕ) (outcome : Result (Option LogLine) ParseLineError) → ReadsLine bytes outcome → (event : LogLine) → Spells event bytes → IfOk outcome (λ found. found ≡ Some event)
only_event bytes (Ok None) reads event spells = absurd (nothing_empty event bytes reads spells)
only_event bytes (Ok (Some found)) reads event spells = ap (λ (x : LogLine). let o : Option LogLine = Some x in o) (one_event found event bytes reads spells)
only_event bytes (Err fault.NotUtf8) reads event spells = tt
only_event bytes (Err fault.BadLine) reads event spells = tt
only_event bytes (Err fault.OutOfMemory) reads event spells = tt

text_not_empty : (text : List ℕ) → nat_eq (length text) 0 ≡ false → text ≢ []
text_not_empty [] none empty = cc
text_not_empty (byte ∷ text) none empty = cc

-- a text that isn't empty and spells nothing is a bad line
pub bad_line : (text bytes : List ℕ) → text ≡ bytes → IsUtf8 bytes → nat_eq (length text) 0 ≡ false → ((event : LogLine) → Spells event text → ⊥) → ReadsLine bytes (Err fault.BadLine)
bad_line text bytes same utf8 some nothing =
    (utf8, (λ empty. text_not_empty text some (same ∙ empty)), (λ event spells. nothing event (subst (λ (x : List ℕ). Spells event x) (sym same) spells)))
