-- The parts of a stream: its first line, and the log behind it.
use Rattle.std.proofs.Common.{◌≡◌, ℕ, ◌≤◌, List, [], ◌∷◌, ◌++◌, Option, Some, None, IfSome, Result, Ok, Err, refl, sym, ap, ◌∙◌, subst, inl, inr, append_assoc, append-nil, ◌<◌, ◌&&◌, Bool, false, cond, length, nat_le, arith}
use Rattle.std.specs.Prelude.{◌⊎◌}
use Rattle.std.specs.Result.{IsErrAnd}
use Rattle.std.proofs.lemmas.Bool.Decides.{nat_tests}
use Rattle.std.proofs.lemmas.Result.{err_from_is_err_and}
use Rattle.std.specs.Option.{option_map_or}
use Rattle.std.specs.Str.{is_utf8}
use Rattle.test_runner_core_streams.specs.Left.{OfBytes}
use Rattle.test_runner_core_inputs.specs.Given.{max_inputs_len, value_of}
use Rattle.test_runner_core_inputs.specs.Reading.{read_inputs}
use Rattle.test_runner_core_inputs.specs.declared.inputs.Inputs.{Inputs}
use Rattle.test_runner_core_inputs.specs.declared.inputs_error.InputsRefusal.{InputsRefusal}
use Rattle.test_runner_core_inputs.specs.declared.inputs_error.InputsRefusal.TheVariants as inputs_as
use Rattle.test_runner_core_log_reader.proofs.FirstLine.{before_line, behind_line, divides}
use Rattle.test_runner_core_log_reader.proofs.Left.{gives_consumed, gives_some}
use Rattle.test_runner_core_log_reader.specs.Calls.{GetsPlain, IsParted, PartsAtFirst}
use Rattle.test_runner_core_log_reader.specs.Cursor.{Cursor, items_ahead}
use Rattle.test_runner_core_log_reader.specs.Feeds.{IsPlain, before_feed, behind_feed}
use Rattle.test_runner_core_log_reader.specs.declared.fault.LogFault.{LogFault}
use Rattle.test_runner_core_log_reader.specs.declared.fault.LogFault.TheVariants as unread
use Rattle.test_runner_core_log_reader.specs.declared.limits.TheConstants.{FIRST_LINE_LIMIT}
use Rattle.test_runner_core_log_reader.specs.Items.{Item, items, whole_lines}
use Rattle.test_runner_core_planning.specs.Plan.{Plans}
use Rattle.test_runner_core_planning.specs.declared.plan_fault.PlanFault.{PlanFault}
use Rattle.test_runner_core_reporter.proofs.Told.{appends_none, front_none}
use Rattle.test_runner_core_reporter.specs.Parts.{Part}
use Rattle.test_runner_core.specs.Faults.{fault_of}
use Rattle.test_runner_core.specs.Inside.{IsGotOf}
use Rattle.test_runner_core.specs.declared.judge_fault.JudgeFault.{JudgeFault}
use Rattle.test_runner_core.specs.Outcome.{HasNoPlan, LineBegun, LineComposed, StreamBegun, StreamComposed, StreamGotTo, table_of}
use Rattle.test_runner_core.specs.Report.{Begun, Composed, Reports, HasSoFar, OfLeft, refused_inputs}
use Rattle.test_runner_core.proofs.Left.{of_any, of_both, of_left}

-- what a stream is, where its first line was read
pub log_behind : (bytes behind : List ℕ) (lines : Cursor) → IsParted lines bytes behind → lines.handed ≡ 0 → items_ahead lines behind ≡ items 0 (behind_feed bytes)
log_behind bytes behind lines parts fresh = ap (λ (n : ℕ). items n (lines.waiting ++ behind)) fresh ∙ ap (items 0) parts.2

-- the report of a stream whose first line is inputs
pub stream_composed : (inputs : Inputs) (left rest : Option (List ℕ)) (lines : Cursor) → PartsAtFirst left (Some lines) rest → lines.handed ≡ 0 → read_inputs lines.line ≡ Ok inputs
    → (parts : List Part) (code : ℕ) → OfBytes rest (λ behind. Composed (table_of inputs) inputs (items_ahead lines behind) parts code) → OfLeft left (λ bytes. StreamComposed bytes parts code)
stream_composed inputs left rest lines parted fresh read parts code (behind, gives, is) =
    let at = parted behind gives in
    of_left (λ bytes. StreamComposed bytes parts code) left at.0 at.1
    (subst (λ (r : Result Inputs InputsRefusal). LineComposed r (items 0 (behind_feed at.0)) parts code) (sym (ap read_inputs (sym at.2.0) ∙ read))
    (subst (λ (log : List Item). Composed (table_of inputs) inputs log parts code) (log_behind at.0 behind lines at.2 fresh) is))

pub stream_begun : (inputs : Inputs) (left rest : Option (List ℕ)) (lines : Cursor) → PartsAtFirst left (Some lines) rest → lines.handed ≡ 0 → read_inputs lines.line ≡ Ok inputs
    → (parts : List Part) → OfBytes rest (λ behind. Begun (table_of inputs) inputs (items_ahead lines behind) parts) → OfLeft left (λ bytes. StreamBegun bytes parts)
stream_begun inputs left rest lines parted fresh read parts (behind, gives, is) =
    let at = parted behind gives in
    of_left (λ bytes. StreamBegun bytes parts) left at.0 at.1
    (subst (λ (r : Result Inputs InputsRefusal). LineBegun r (items 0 (behind_feed at.0)) parts) (sym (ap read_inputs (sym at.2.0) ∙ read))
    (subst (λ (log : List Item). Begun (table_of inputs) inputs log parts) (log_behind at.0 behind lines at.2 fresh) is))

-- where two lists make nothing, neither has anything
pub both_none : (one other : List ℕ) → one ++ other ≡ [] → (one ≡ []) × (other ≡ [])
both_none [] other none = (refl, none)
both_none (byte ∷ one) other none = absurd (cc)

-- what was got of the log makes up what was got of the stream
parted_got : (inputs : Inputs) (bytes log behind got : List ℕ) (lines : Cursor) (parts : List Part) → IsParted lines bytes log → lines.waiting ++ log ≡ got ++ behind → read_inputs lines.line ≡ Ok inputs
    → HasSoFar (table_of inputs) inputs (whole_lines got) parts → StreamGotTo bytes behind parts
parted_got inputs bytes log behind got lines parts at whole read writes = by_feed (divides bytes)
  where
    log_is : got ++ behind ≡ behind_feed bytes
    log_is = sym whole ∙ at.2

    by_feed : (IsPlain bytes × (behind_feed bytes ≡ [])) ⊎ (IsPlain (before_feed bytes) × (bytes ≡ before_feed bytes ++ 10 ∷ behind_feed bytes)) → StreamGotTo bytes behind parts
    by_feed (inl (plain, none)) =
        let empty = log_is ∙ none in
        let nothing = both_none got behind empty in (
          bytes,
          sym (append-nil bytes) ∙ ap (λ (t : List ℕ). bytes ++ t) (sym nothing.1),
          inr (inputs, ap read_inputs (sym at.0) ∙ read, subst (λ (t : List ℕ). HasSoFar (table_of inputs) inputs (whole_lines t) parts) (nothing.0 ∙ sym none) writes),
        )
    by_feed (inr (plain, divided)) =
        let first = before_feed bytes in (
          first ++ 10 ∷ got,
          divided ∙ ap (λ (t : List ℕ). first ++ 10 ∷ t) (sym log_is) ∙ sym (append_assoc first (10 ∷ got) behind),
          inr (
            inputs,
            ap read_inputs (before_line first got plain ∙ sym at.0) ∙ read,
            subst (λ (t : List ℕ). HasSoFar (table_of inputs) inputs (whole_lines t) parts) (sym (behind_line first got plain)) writes,
          ),
        )

-- what was got of a stream behind its first line
pub stream_got : (inputs : Inputs) (left rest last : Option (List ℕ)) (lines : Cursor) → PartsAtFirst left (Some lines) rest → read_inputs lines.line ≡ Ok inputs
    → (parts : List Part) → (front : List (List ℕ)) × IsGotOf lines rest last front × HasSoFar (table_of inputs) inputs front parts
    → OfLeft left (λ bytes. OfLeft last (λ behind. StreamGotTo bytes behind parts))
stream_got inputs left rest last lines parted read parts (front, (behind, last_gives, (log, gives, (got, whole, all))), told) =
    let at = parted log gives in
    let writes = subst (λ (lines : List (List ℕ)). HasSoFar (table_of inputs) inputs lines parts) (sym all) told in
    of_both (λ bytes behind. StreamGotTo bytes behind parts) left last (behind, last_gives, (at.0, at.1, parted_got inputs at.0 log behind got lines parts at.2 whole read writes))

-- a first line that is no inputs
pub refused_stream : (refusal : InputsRefusal) (left : Option (List ℕ)) → OfBytes left (λ bytes. read_inputs (before_feed bytes) ≡ Err refusal)
    → (parts : List Part) (code : ℕ) → (parts ≡ refused_inputs refusal) × (code ≡ 96) → OfLeft left (λ bytes. StreamComposed bytes parts code)
refused_stream refusal left (bytes, gives, read) parts code is =
    of_left (λ bytes. StreamComposed bytes parts code) left bytes gives (subst (λ (r : Result Inputs InputsRefusal). LineComposed r (items 0 (behind_feed bytes)) parts code) (sym read) is)

pub refused_parts : (refusal : InputsRefusal) (left rest : Option (List ℕ)) (lines : Cursor) → PartsAtFirst left (Some lines) rest → read_inputs lines.line ≡ Err refusal
    → OfBytes left (λ bytes. read_inputs (before_feed bytes) ≡ Err refusal)
refused_parts refusal left rest lines parted read =
    let some = gives_some rest in let at = parted some.0 some.1 in (at.0, at.1, ap read_inputs (sym at.2.0) ∙ read)

-- what is not to be read is none, whatever it would be
unread_is_none : {A : Type 0} (fits utf8 : Bool) (it : Option A) → fits ≡ false → cond (fits && utf8) it None ≡ None
unread_is_none fits utf8 it unfit = ap (λ (b : Bool). cond (b && utf8) it None) unfit

-- and what is made of none is what stands in its place
made_of_none : {A B : Type 0} (made : A → B) (it : Option A) (otherwise : B) → it ≡ None → option_map_or made it otherwise ≡ otherwise
made_of_none made it otherwise none = ap (λ (it : Option _). option_map_or made it otherwise) none

-- bytes that are too many are no inputs
too_many : (bytes : List ℕ) → FIRST_LINE_LIMIT < length bytes → read_inputs bytes ≡ Err inputs_as.Syntax
too_many bytes many =
    let unfit : nat_le (length bytes) max_inputs_len ≡ false = grind (arith, nat_tests) in
    made_of_none _ (value_of bytes) (Err inputs_as.Syntax) (unread_is_none (nat_le (length bytes) max_inputs_len) (is_utf8 bytes) _ unfit)

-- so is a first line
pub refused_long : (left : Option (List ℕ)) → OfBytes left (λ bytes. FIRST_LINE_LIMIT < length (before_feed bytes)) → OfBytes left (λ bytes. read_inputs (before_feed bytes) ≡ Err inputs_as.Syntax)
refused_long left (bytes, gives, many) = (bytes, gives, too_many (before_feed bytes) many)

-- where the first line can't be got, or there is no memory for it, nothing is reported
pub got_nothing : (left rest : Option (List ℕ)) → GetsPlain left rest → OfLeft left (λ bytes. OfLeft rest (λ behind. StreamGotTo bytes behind []))
got_nothing left rest (got, consumed, plain) =
    let some = gives_some rest in
    of_both (λ bytes behind. StreamGotTo bytes behind []) left rest (some.0, some.1, (got ++ some.0, gives_consumed left rest got some.0 consumed some.1, (got, refl, inl (plain, refl))))

pub begun_nothing : (left : Option (List ℕ)) → OfLeft left (λ bytes. StreamBegun bytes [])
begun_nothing left = of_any (λ bytes. StreamBegun bytes []) left (λ bytes. by_line bytes (read_inputs (before_feed bytes)))
  where
    by_line : (bytes : List ℕ) (r : Result Inputs InputsRefusal) → LineBegun r (items 0 (behind_feed bytes)) []
    by_line bytes (Ok inputs) = inl refl
    by_line bytes (Err refusal) = inl refl

-- a stream whose inputs have no plan is read for its first line alone
pub first_line_alone : (inputs : Inputs) (left rest : Option (List ℕ)) (lines : Cursor) (first last : ℕ) (most : List ℕ → ℕ)
    → PartsAtFirst left (Some lines) rest → read_inputs lines.line ≡ Ok inputs → IfSome left (λ bytes. first ≤ most bytes)
    → ((refusal : PlanFault) → Plans (table_of inputs) inputs (Err refusal) → last ≡ first)
    → IfSome left (λ bytes. HasNoPlan (read_inputs (before_feed bytes)) → last ≤ most bytes)
first_line_alone inputs None rest lines first last most parted read few unread = tt
first_line_alone inputs (Some bytes) rest lines first last most parted read few unread = λ none.
    let some = gives_some rest in
    let at = parted some.0 some.1 in
    let known : read_inputs (before_feed bytes) ≡ Ok inputs = ap (λ (b : List ℕ). read_inputs (before_feed b)) (sym at.1) ∙ ap read_inputs (sym at.2.0) ∙ read in
    let refused = subst (λ (r : Result Inputs InputsRefusal). HasNoPlan r) known none in
    subst (λ (n : ℕ). n ≤ most bytes) (sym (unread refused.0 refused.1)) few

-- what holds of known bytes holds of them under any premise
pub whatever_is_known : (left : Option (List ℕ)) (Premise Holds : List ℕ → Type 0) → IfSome left Holds → IfSome left (λ bytes. Premise bytes → Holds bytes)
whatever_is_known None Premise Holds known = tt
whatever_is_known (Some bytes) Premise Holds known = λ premise. known

pub refused_begun : (refusal : InputsRefusal) (left : Option (List ℕ)) → OfBytes left (λ bytes. read_inputs (before_feed bytes) ≡ Err refusal)
    → (parts : List Part) → parts ≡ refused_inputs refusal → OfLeft left (λ bytes. StreamBegun bytes parts)
refused_begun refusal left (bytes, gives, read) parts is =
    of_left (λ bytes. StreamBegun bytes parts) left bytes gives (subst (λ (r : Result Inputs InputsRefusal). LineBegun r (items 0 (behind_feed bytes)) parts) (sym read) (inr is))

-- no parts were got of what was refused
pub refused_ungot : (left rest : Option (List ℕ)) (parts : List Part) → ⊥ → OfLeft left (λ bytes. OfLeft rest (λ behind. StreamGotTo bytes behind parts))
refused_ungot left rest parts never = absurd never

-- where the first line can't be got
pub first_line_fails : (result : Result ℕ JudgeFault) (cause : LogFault) (left rest : Option (List ℕ)) (before : Option (List ℕ)) → IsErrAnd result (λ gives. gives ≡ fault_of cause) → GetsPlain left rest
    → Reports result (λ parts code. OfLeft left (λ bytes. StreamComposed bytes parts code)) (λ parts. OfLeft left (λ bytes. OfLeft rest (λ behind. StreamGotTo bytes behind parts)))
    (λ parts. OfLeft left (λ bytes. StreamBegun bytes parts)) before before
first_line_fails result cause left rest before is plain =
    let gives = err_from_is_err_and result is in
    subst (λ (r : Result ℕ JudgeFault). Stands r) (sym gives.1) (subst (λ (f : JudgeFault). Stands (Err f)) (sym gives.2) (by_cause cause))
  where
    Stands : Result ℕ JudgeFault → Type 0
    Stands r = Reports r (λ parts code. OfLeft left (λ bytes. StreamComposed bytes parts code)) (λ parts. OfLeft left (λ bytes. OfLeft rest (λ behind. StreamGotTo bytes behind parts)))
        (λ parts. OfLeft left (λ bytes. StreamBegun bytes parts)) before before

    by_cause : (c : LogFault) → Stands (Err (fault_of c))
    by_cause (unread.Read error) = ([], got_nothing left rest plain, begun_nothing left, ([], refl, appends_none before))
    by_cause unread.Memory = ([], begun_nothing left, front_none [] before [])
