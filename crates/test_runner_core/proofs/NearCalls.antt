-- How near to the line with which it ends a call reads: from lines to logs and streams.
use Rattle.std.proofs.Common.{◌≡◌, ℕ, suc, ◌+◌, ◌<◌, List, [], ◌∷◌, ◌++◌, length, Option, Some, None, Ok, refl, sym, ap, ◌∙◌, subst, inl, inr, arith, append_assoc, append-nil}
use Rattle.std.specs.Prelude.{◌⊎◌}
use Rattle.test_runner_core_streams.specs.declared.traits.TheConstants.{READ_LIMIT}
use Rattle.test_runner_core_inputs.specs.Reading.{read_inputs}
use Rattle.test_runner_core_inputs.specs.declared.inputs.Inputs.{Inputs}
use Rattle.test_runner_core_log_reader.proofs.FirstLine.{behind_line, divides}
use Rattle.test_runner_core_log_reader.specs.Calls.{GetsNear, IsParted, PartsAtFirst}
use Rattle.test_runner_core_log_reader.specs.Cursor.{Cursor, items_ahead}
use Rattle.test_runner_core_log_reader.specs.Feeds.{IsPlain, before_feed, behind_feed}
use Rattle.test_runner_core_log_reader.specs.Items.{Item, items}
use Rattle.test_runner_core_planning.specs.Plan.{Builds}
use Rattle.test_runner_core_plan.specs.declared.plan.Plan.{Plan}
use Rattle.test_runner_core_workspace.specs.Lister.{Answer}
use Rattle.test_runner_core_workspace.specs.declared.record.Binary.{Binary}
use Rattle.test_runner_core.specs.Near.{EndsNear, InputsNear, IsTakenNear, JudgesNear, LinesNear, LogNear, StreamNear, behind_feeds}
use Rattle.test_runner_core.specs.Outcome.{table_of}
use Rattle.test_runner_core.proofs.Near.{feeds_first}
use Rattle.test_runner_core.proofs.Stream.{both_none, log_behind}

-- a log that was begun
pub log_near : (answer : Binary → Answer) (inputs : Inputs) (plan : Plan) (begin : Cursor) (known left before after : Option (List ℕ)) → begin ≡ record { line = []; waiting = []; handed = 0 }
    → Builds answer inputs (Ok plan) → LinesNear plan begin known left before after → LogNear answer inputs known left before after
log_near answer inputs plan begin None left before after fresh built near = tt
log_near answer inputs plan begin (Some bytes) None before after fresh built near = tt
log_near answer inputs plan begin (Some bytes) (Some behind) before after fresh built near =
    inr (
      plan,
      built,
      subst (λ (c : Cursor). EndsNear plan (items_ahead c bytes) before after (λ number. IsTakenNear number (c.waiting ++ bytes) behind)) fresh
          (near (subst (λ (c : Cursor). length c.waiting < READ_LIMIT) (sym fresh) (omega arith))),
    )

-- one of which nothing was read
pub log_unread : (answer : Binary → Answer) (inputs : Inputs) (known before after : Option (List ℕ)) → LogNear answer inputs known known before after
log_unread answer inputs None before after = tt
log_unread answer inputs (Some bytes) before after = inl (record { taken = []; whole = refl; near = omega arith })

-- the same behind a first line
pub inputs_near : (inputs : Inputs) (plan : Plan) (begin : Cursor) (known left before after : Option (List ℕ)) → Builds (table_of inputs) inputs (Ok plan)
    → LinesNear plan begin known left before after → InputsNear inputs begin known left before after
inputs_near inputs plan begin None left before after built near = λ few. tt
inputs_near inputs plan begin (Some bytes) None before after built near = λ few. tt
inputs_near inputs plan begin (Some bytes) (Some behind) before after built near = λ few. inr (plan, built, near few)

pub inputs_unread : (inputs : Inputs) (begin : Cursor) (known before after : Option (List ℕ)) → InputsNear inputs begin known known before after
inputs_unread inputs begin None before after = λ few. tt
inputs_unread inputs begin (Some bytes) before after = λ few. inl (record { taken = begin.waiting; whole = refl; near = few })

-- a stream of which the first line alone was read
pub first_line_near : (left rest before after : Option (List ℕ)) → GetsNear left rest → StreamNear left rest before after
first_line_near None rest before after gets = tt
first_line_near (Some bytes) None before after gets = tt
first_line_near (Some bytes) (Some behind) before after gets = inl (record { taken = gets.0; whole = gets.1; near = gets.2 })

-- few bytes past a line of a log are few past the next one of its stream
one_line_more : (count : ℕ) (bytes rest taken got : List ℕ) → bytes ≡ taken ++ rest → behind_feed taken ≡ got → length (behind_feeds count got) < READ_LIMIT → IsTakenNear (count + 1) bytes rest
one_line_more count bytes rest taken got whole behind near =
    let next : suc count ≡ count + 1 = omega arith in
    subst (λ (n : ℕ). IsTakenNear n bytes rest) next
    (record {
      taken = taken;
      whole = whole;
      near = subst (λ (ys : List ℕ). length ys < READ_LIMIT) (sym (feeds_first count taken ∙ ap (behind_feeds count) behind)) near;
    })

stream_taken : (count : ℕ) (bytes log rest : List ℕ) → behind_feed bytes ≡ log → IsTakenNear count log rest → IsTakenNear (count + 1) bytes rest
stream_taken count bytes log rest behind it = by_feed (divides bytes)
  where
    by_feed : (IsPlain bytes × (behind_feed bytes ≡ [])) ⊎ (IsPlain (before_feed bytes) × (bytes ≡ before_feed bytes ++ 10 ∷ behind_feed bytes)) → IsTakenNear (count + 1) bytes rest
    by_feed (inl (plain, none)) =
        let nothing = both_none it.taken rest (sym it.whole ∙ sym behind ∙ none) in
        one_line_more count bytes rest bytes it.taken (sym (append-nil bytes) ∙ ap (λ (ys : List ℕ). bytes ++ ys) (sym nothing.1)) (none ∙ sym nothing.0) it.near
    by_feed (inr (plain, divided)) =
        let first = before_feed bytes in
        one_line_more count bytes rest (first ++ 10 ∷ it.taken) it.taken
        (divided ∙ ap (λ (ys : List ℕ). first ++ 10 ∷ ys) (behind ∙ it.whole) ∙ sym (append_assoc first (10 ∷ it.taken) rest)) (behind_line first it.taken plain) it.near

-- what is near in one way is so in another
judges_as : (answer : Binary → Answer) (inputs : Inputs) (log : List Item) (before after : Option (List ℕ)) (Near Also : ℕ → Type 0) → ((number : ℕ) → Near number → Also number)
    → JudgesNear answer inputs log before after Near → JudgesNear answer inputs log before after Also
judges_as answer inputs log before after Near Also also (inl first) = inl (also 0 first)
judges_as answer inputs log before after Near Also also (inr (plan, built, near)) =
    inr (plan, built, (λ number it. also number (near.0 number it), λ number it. also number (near.1 number it)))

-- a stream whose first line is inputs
pub stream_near : (inputs : Inputs) (left mid last before after : Option (List ℕ)) (lines : Cursor) → PartsAtFirst left (Some lines) mid → lines.handed ≡ 0 → read_inputs lines.line ≡ Ok inputs
    → GetsNear left mid → length lines.waiting < READ_LIMIT → InputsNear inputs lines mid last before after → StreamNear left last before after
stream_near inputs None mid last before after lines parted fresh read gets few near = tt
stream_near inputs (Some bytes) mid None before after lines parted fresh read gets few near = tt
stream_near inputs (Some bytes) None (Some behind) before after lines parted fresh read gets few near = absurd gets.1
stream_near inputs (Some bytes) (Some log) (Some behind) before after lines parted fresh read gets few near =
    let at = parted log refl in
    let parts = subst (λ (b : List ℕ). IsParted lines b log) at.1 at.2 in
    inr (
      inputs,
      ap read_inputs (sym parts.0) ∙ read,
      judges_as (table_of inputs) inputs (items 0 (behind_feed bytes)) before after (λ number. IsTakenNear number (lines.waiting ++ log) behind) (λ number. IsTakenNear (number + 1) bytes behind)
          (λ number it. stream_taken number bytes (lines.waiting ++ log) behind (sym parts.2) it)
          (subst (λ (l : List Item). JudgesNear (table_of inputs) inputs l before after (λ number. IsTakenNear number (lines.waiting ++ log) behind)) (log_behind bytes log lines parts fresh) (near few)),
    )
