-- A report has one text and one exit status, and what is reported of it first is a prefix of it.
use Rattle.std.proofs.Common.{◌≡◌, ℕ, ◌+◌, List, [], ◌∷◌, ◌++◌, codes, map, length, Option, Ok, Err, refl, sym, ap, ◌∙◌, subst, inl, inr, append_assoc, append-nil}
use Rattle.test_runner_core_inputs.specs.declared.inputs.Inputs.{Inputs}
use Rattle.test_runner_core_log_reader.specs.Items.{Item, Line}
use Rattle.test_runner_core_planning.specs.Plan.{Builds, Plans}
use Rattle.test_runner_core_plan.specs.declared.plan.Plan.{Plan}
use Rattle.test_runner_core_planning.specs.declared.plan_fault.PlanFault.{PlanFault}
use Rattle.test_runner_core_reporter.proofs.Texts.{one_text}
use Rattle.test_runner_core_run_model.specs.State.{State, initial}
use Rattle.test_runner_core_session.specs.Session.{run_plan}
use Rattle.test_runner_core_reporter.specs.Parts.{IsTextOf, Part, Said}
use Rattle.test_runner_core_reporter.specs.RunEnd.{LF, TAB}
use Rattle.test_runner_core_workspace.specs.Lister.{Answer}
use Rattle.test_runner_core_workspace.specs.declared.record.Binary.{Binary}
use Rattle.test_runner_core.specs.Judging.{Finds}
use Rattle.test_runner_core.specs.Laws.{EndsWithOneText, NothingTakenBack}
use Rattle.test_runner_core.specs.Report.{Begun, Composed, Judged, SoFar, ending, exit_status}
use Rattle.test_runner_core.specs.declared.refused_line.RefusedLine.{RefusedLine}
use Rattle.test_runner_core_planning.proofs.Once.{plans_once}
use Rattle.test_runner_core.proofs.OneRun.{early_parts, finds_once, fronts_same, same_rest, so_far_once, stands_before}
use Rattle.test_runner_core_planning.proofs.OnePlan.{one_plan}

-- ---- texts

-- the text of some parts and others behind them, parted
pub record Parted (parts others : List Part) (text : List ℕ) : Type 0 where
  pub told : List ℕ
  pub more : List ℕ
  pub is : IsTextOf parts told
  pub also : IsTextOf others more
  pub whole : text ≡ told ++ more

pub parted : (parts more : List Part) (text : List ℕ) → IsTextOf (parts ++ more) text → Parted parts more text
parted [] more text is = record { told = []; more = text; is = refl; also = is; whole = refl }
parted (part ∷ parts) more text (head, (tail, (is, behind, whole))) =
    let there = parted parts more tail behind in
    record {
      told = head ++ there.told;
      more = there.more;
      is = (head, (there.told, (is, there.is, refl)));
      also = there.also;
      whole = whole ∙ ap (λ (t : List ℕ). head ++ t) there.whole ∙ sym (append_assoc head there.told there.more);
    }

-- the text of the first parts is a prefix of the text of all
pub early_text : (parts more : List Part) (told text : List ℕ) → IsTextOf parts told → IsTextOf (parts ++ more) text → (behind : List ℕ) × (text ≡ told ++ behind)
early_text parts more told text first whole =
    let there = parted parts more text whole in
    (there.more, there.whole ∙ ap (λ (t : List ℕ). t ++ there.more) (one_text parts there.told told there.is first))

-- ---- the run of a plan

-- how a report ends goes by what is reported before, the last state and the refused line
same_ending : (plan : Plan) (told same : List Part) (a b : State) (one other : Option RefusedLine) → told ≡ same → a ≡ b → one ≡ other
    → (told ++ ending plan a one ≡ same ++ ending plan b other) × (exit_status a one ≡ exit_status b other)
same_ending plan told same a b one other parts lasts founds = (
  ap (λ (t : List Part). t ++ ending plan a one) parts ∙ ap (λ (s : State). same ++ ending plan s one) lasts ∙ ap (λ (f : Option RefusedLine). same ++ ending plan b f) founds,
  ap (λ (s : State). exit_status s one) lasts ∙ ap (λ (f : Option RefusedLine). exit_status b f) founds,
)

-- two judgements stop at one line
same_front : (plan : Plan) (log : List Item) (parts others : List Part) (code other : ℕ) (first : Judged plan log parts code) (second : Judged plan log others other)
    → second.front ≡ first.front
same_front plan log parts others code other first second =
    let begin = initial (run_plan plan) in
    let whole : map Line first.front ++ first.rest ≡ map Line second.front ++ second.rest = sym first.whole ∙ second.whole in
    let one = stands_before plan begin first.last second.last (length first.front + 1) first.rest second.rest first.found first.front second.front first.so_far.events second.so_far.events
    whole first.so_far.leads.events first.so_far.leads.run first.finds second.so_far.leads.events second.so_far.leads.run in
    let back = stands_before plan begin second.last first.last (length second.front + 1) second.rest first.rest second.found second.front first.front second.so_far.events first.so_far.events
    (sym whole) second.so_far.leads.events second.so_far.leads.run second.finds first.so_far.leads.events first.so_far.leads.run in
    fronts_same second.front first.front back.0 one.0 back.1 one.1

-- the run of a plan is judged in one way
pub judged_once : (plan : Plan) (log : List Item) (parts others : List Part) (code other : ℕ) → Judged plan log parts code → Judged plan log others other
    → (parts ≡ others) × (code ≡ other)
judged_once plan log parts others code other first second =
    let fronts = same_front plan log parts others code other first second in
    let rests : first.rest ≡ second.rest =
    same_rest first.front first.rest second.rest (sym first.whole ∙ second.whole ∙ ap (λ (lines : List (List ℕ)). map Line lines ++ second.rest) fronts) in
    let so_far = so_far_once plan first.front first.last second.last first.told second.told first.so_far
    (subst (λ (lines : List (List ℕ)). SoFar plan lines second.last second.told) fronts second.so_far) in
    let found : Finds plan first.last (length first.front + 1) first.rest second.found =
    subst (λ (s : State). Finds plan s (length first.front + 1) first.rest second.found) (sym so_far.0)
    (subst (λ (items : List Item). Finds plan second.last (length first.front + 1) items second.found) (sym rests)
    (subst (λ (lines : List (List ℕ)). Finds plan second.last (length lines + 1) second.rest second.found) fronts second.finds)) in
    let founds = finds_once plan first.last (length first.front + 1) first.rest first.found second.found first.finds found in
    let same = same_ending plan first.told second.told first.last second.last first.found second.found so_far.1 so_far.0 founds in
    (first.composed ∙ same.0 ∙ sym second.composed, first.status ∙ same.1 ∙ sym second.status)

-- what a log's first lines report is reported first of all that is reported of its run
pub first_lines_first : (plan : Plan) (log : List Item) (front : List (List ℕ)) (rest : List Item) (last : State) (parts whole : List Part) (code : ℕ)
    → log ≡ map Line front ++ rest → SoFar plan front last parts → Judged plan log whole code → (more : List Part) × (whole ≡ parts ++ more)
first_lines_first plan log front rest last parts whole code is so_far judged =
    let before = stands_before plan (initial (run_plan plan)) judged.last last (length judged.front + 1) judged.rest rest judged.found judged.front front judged.so_far.events so_far.events
    (sym judged.whole ∙ is) judged.so_far.leads.events judged.so_far.leads.run judged.finds so_far.leads.events so_far.leads.run in
    let behind = early_parts plan front before.0 last judged.last parts judged.told so_far
    (subst (λ (lines : List (List ℕ)). SoFar plan lines judged.last judged.told) before.1 judged.so_far) in (
      behind.0 ++ ending plan judged.last judged.found,
      judged.composed ∙ ap (λ (t : List Part). t ++ ending plan judged.last judged.found) behind.1
          ∙ append_assoc parts behind.0 (ending plan judged.last judged.found),
    )

-- ---- inputs

-- inputs that are refused have no plan
pub never_planned : (answer : Binary → Answer) (inputs : Inputs) (plan : Plan) (refusal : PlanFault) → Plans answer inputs (Err refusal) → Builds answer inputs (Ok plan) → ⊥
never_planned answer inputs plan refusal refuses built = plans_once answer inputs (Ok built.0) (Err refusal) built.1 refuses

-- the one line of inputs that are refused by this name
abbrev refused_as : List ℕ → List Part
refused_as name = Said (codes "refused" ++ TAB ∷ name ++ LF ∷ []) ∷ []

-- inputs and a log have one report
pub composed_once : (answer : Binary → Answer) (inputs : Inputs) (log : List Item) (parts others : List Part) (code other : ℕ)
    → Composed answer inputs log parts code → Composed answer inputs log others other → (parts ≡ others) × (code ≡ other)
composed_once answer inputs log parts others code other (inl (refusal, refuses, is, code_is)) (inl (same, refuses_same, also, code_also)) =
    let one = plans_once answer inputs (Err refusal) (Err same) refuses refuses_same in
    (is ∙ ap refused_as one.0 ∙ sym also, code_is ∙ one.1 ∙ sym code_also)
composed_once answer inputs log parts others code other (inl (refusal, refuses, is, code_is)) (inr (plan, built, judged)) = absurd (never_planned answer inputs plan refusal refuses built)
composed_once answer inputs log parts others code other (inr (plan, built, judged)) (inl (refusal, refuses, is, code_is)) = absurd (never_planned answer inputs plan refusal refuses built)
composed_once answer inputs log parts others code other (inr (plan, built, judged)) (inr (same, built_same, judged_same)) =
    judged_once plan log parts others code other judged
    (subst (λ (p : Plan). Judged p log others other) (one_plan answer inputs same plan built_same built) judged_same)

pub ends_with_one_text : EndsWithOneText
ends_with_one_text answer inputs log parts others code other text same first second is also =
    let once = composed_once answer inputs log parts others code other first second in
    (one_text parts text same is (subst (λ (p : List Part). IsTextOf p same) (sym once.0) also), once.1)

-- what was begun comes first of the whole report
pub begun_first : (answer : Binary → Answer) (inputs : Inputs) (log : List Item) (parts whole : List Part) (code : ℕ)
    → Begun answer inputs log parts → Composed answer inputs log whole code → (more : List Part) × (whole ≡ parts ++ more)
begun_first answer inputs log parts whole code (inl none) composed = (whole, ap (λ (p : List Part). p ++ whole) (sym none))
begun_first answer inputs log parts whole code (inr (inl (front, (rest, (is, (plan, built, (last, so_far))))))) (inl (refusal, refuses, refused, code_is)) =
    absurd (never_planned answer inputs plan refusal refuses built)
begun_first answer inputs log parts whole code (inr (inl (front, (rest, (is, (plan, built, (last, so_far))))))) (inr (same, built_same, judged)) =
    first_lines_first plan log front rest last parts whole code is so_far
    (subst (λ (p : Plan). Judged p log whole code) (one_plan answer inputs same plan built_same built) judged)
begun_first answer inputs log parts whole code (inr (inr (other, begun))) composed =
    ([], (composed_once answer inputs log whole parts code other composed begun).0 ∙ sym (append-nil parts))

pub nothing_taken_back : NothingTakenBack
nothing_taken_back answer inputs log parts front rest whole code told text begun parted_at is composed is_whole =
    let behind = begun_first answer inputs log parts whole code begun composed in
    early_text front (rest ++ behind.0) told text is
    (subst (λ (p : List Part). IsTextOf p text) (behind.1 ∙ ap (λ (p : List Part). p ++ behind.0) parted_at ∙ append_assoc front rest behind.0) is_whole)
