-- From what was reported, to what a call of `judge` reports.
use Rattle.std.proofs.Common.{◌≡◌, ℕ, Bool, true, false, List, [], ◌++◌, Option, Result, Ok, Err, refl, sym, ap, ◌∙◌, subst, inl, inr, append-nil}
use Rattle.std.specs.Io.KnownBytes.{Appends}
use Rattle.std.specs.Result.{IsErrAnd}
use Rattle.std.proofs.lemmas.Result.{err_from_is_err_and}
use Rattle.test_runner_core_streams.specs.Left.{OfBytes, OfSomeBytes}
use Rattle.test_runner_core_log_reader.proofs.Left.{gives_some}
use Rattle.test_runner_core_inputs.specs.declared.inputs.Inputs.{Inputs}
use Rattle.test_runner_core_log_reader.specs.Cursor.{Cursor, items_ahead}
use Rattle.test_runner_core_log_reader.specs.Items.{Item}
use Rattle.test_runner_core_listing.specs.Listing.{AsksFor, asked_of}
use Rattle.test_runner_core_planning.specs.Plan as building
use Rattle.test_runner_core_planning.specs.Checks.{listed_in}
use Rattle.test_runner_core_planning.specs.Plan.{Asks, AsksWith, Builds, Plans}
use Rattle.test_runner_core_planning.specs.declared.plan_error.PlanError.{PlanError}
use Rattle.test_runner_core_planning.specs.declared.plan_error.PlanError.TheVariants as build_error
use Rattle.test_runner_core_planning.specs.Texts.{status_of}
use Rattle.test_runner_core_plan.specs.declared.plan.Plan.{Plan}
use Rattle.test_runner_core_planning.specs.declared.plan_fault.PlanFault.{PlanFault}
use Rattle.test_runner_core_reporter.specs.Parts.{Part}
use Rattle.test_runner_core_reporter.specs.Writes.{WritesAll, WritesPrefix}
use Rattle.test_runner_core_reporter.specs.declared.fault.ReportFault.{ReportFault}
use Rattle.test_runner_core_reporter.specs.declared.fault.ReportFault.TheVariants as untold
use Rattle.test_runner_core_workspace.specs.Lister.{Answer}
use Rattle.test_runner_core_workspace.specs.declared.record.Binary.{Binary}
use Rattle.test_runner_core.specs.Faults.{fault_of_reporting, lacks_memory}
use Rattle.test_runner_core.specs.Inside.{IsBegun, IsGot, IsGotOf, IsJudged}
use Rattle.test_runner_core.specs.Report.{Begun, Composed, GotTo, IsWritten, Reports, HasSoFar, refused_plan}
use Rattle.test_runner_core.specs.declared.judge_fault.JudgeFault.{JudgeFault}
use Rattle.test_runner_core.specs.declared.judge_fault.JudgeFault.TheVariants as fault

-- what is reported and doesn't wait is written
pub all_is_written : (parts : List Part) (before after : Option (List ℕ)) → WritesAll parts before [] after [] → IsWritten parts before after
all_is_written parts before after told =
    (told.told, told.text, subst (λ (t : List ℕ). Appends before after t) (sym (append-nil told.moved.written) ∙ told.moved.whole) told.moved.taken)

-- a report that is reported
pub reports_told : (code : ℕ) (parts : List Part) (IsReport : List Part → ℕ → Type 0) (IsHad IsStarted : List Part → Type 0) (before after : Option (List ℕ))
    → IsReport parts code → WritesAll parts before [] after [] → Reports (Ok code) IsReport IsHad IsStarted before after
reports_told code parts IsReport IsHad IsStarted before after is told = (parts, is, all_is_written parts before after told)

-- one that is reported in part
pub reports_front : (result : Result ℕ JudgeFault) (cause : ReportFault) (parts : List Part) (IsReport : List Part → ℕ → Type 0) (IsHad IsStarted : List Part → Type 0) (before after : Option (List ℕ))
    → IsErrAnd result (λ gives. gives ≡ fault_of_reporting cause) → IsStarted parts → WritesPrefix parts before [] after → Reports result IsReport IsHad IsStarted before after
reports_front result cause parts IsReport IsHad IsStarted before after is started front =
    let gives = err_from_is_err_and result is in
    subst (λ (r : Result ℕ JudgeFault). Reports r IsReport IsHad IsStarted before after) (sym gives.1)
    (subst (λ (f : JudgeFault). Reports (Err f) IsReport IsHad IsStarted before after) (sym gives.2) (by_cause cause))
  where
    by_cause : (c : ReportFault) → Reports (Err (fault_of_reporting c)) IsReport IsHad IsStarted before after
    by_cause untold.Memory = (parts, started, front)
    by_cause (untold.Write error) = (parts, started, front)

-- what holds of a report holds in other words
pub reports_as : (result : Result ℕ JudgeFault) (IsReport AlsoReport : List Part → ℕ → Type 0) (IsHad AlsoHad IsStarted AlsoStarted : List Part → Type 0) (before after : Option (List ℕ))
    → ((parts : List Part) (code : ℕ) → IsReport parts code → AlsoReport parts code) → ((parts : List Part) → IsHad parts → AlsoHad parts) → ((parts : List Part) → IsStarted parts → AlsoStarted parts)
    → Reports result IsReport IsHad IsStarted before after → Reports result AlsoReport AlsoHad AlsoStarted before after
reports_as (Ok code) IsReport AlsoReport IsHad AlsoHad IsStarted AlsoStarted before after report had started (parts, is, written) = (parts, report parts code is, written)
reports_as (Err (fault.Read cause)) IsReport AlsoReport IsHad AlsoHad IsStarted AlsoStarted before after report had started (parts, is, begun, written) = (parts, had parts is, started parts begun, written)
reports_as (Err (fault.Write cause)) IsReport AlsoReport IsHad AlsoHad IsStarted AlsoStarted before after report had started (parts, is, front) = (parts, started parts is, front)
reports_as (Err fault.Memory) IsReport AlsoReport IsHad AlsoHad IsStarted AlsoStarted before after report had started (parts, is, front) = (parts, started parts is, front)

-- the report of a plan is one of the inputs that it was built of
pub judged_composed : (answer : Binary → Answer) (inputs : Inputs) (plan : Plan) (begin : Cursor) (known : Option (List ℕ)) → Builds answer inputs (Ok plan) → (parts : List Part) (code : ℕ) → IsJudged plan begin known parts code
    → OfBytes known (λ bytes. Composed answer inputs (items_ahead begin bytes) parts code)
judged_composed answer inputs plan begin known built parts code judged = (judged.0, judged.1, inr (plan, built, judged.2))

pub begun_of : (answer : Binary → Answer) (inputs : Inputs) (plan : Plan) (begin : Cursor) (known : Option (List ℕ)) → Builds answer inputs (Ok plan) → (parts : List Part) → IsBegun plan begin known parts
    → OfBytes known (λ bytes. Begun answer inputs (items_ahead begin bytes) parts)
begun_of answer inputs plan begin known built parts (inl nothing) = let some = gives_some known in (some.0, some.1, inl nothing)
begun_of answer inputs plan begin known built parts (inr (inl (front, (rest, (log, (last, so_far)))))) = (log.0, log.1, inr (inl (front, (rest, (log.2, (plan, built, (last, so_far)))))))
begun_of answer inputs plan begin known built parts (inr (inr (code, judged))) = (judged.0, judged.1, inr (inr (code, inr (plan, built, judged.2))))

pub got_of : (answer : Binary → Answer) (inputs : Inputs) (plan : Plan) (begin : Cursor) (known left : Option (List ℕ)) → Builds answer inputs (Ok plan) → (parts : List Part) → IsGot plan begin known left parts
    → (front : List (List ℕ)) × IsGotOf begin known left front × HasSoFar answer inputs front parts
got_of answer inputs plan begin known left built parts (front, got, (last, so_far)) = (front, got, (plan, built, (last, so_far)))

-- what was got of a log from its beginning
pub got_from_beginning : (answer : Binary → Answer) (inputs : Inputs) (begin : Cursor) (known left : Option (List ℕ)) → begin ≡ record { line = []; waiting = []; handed = 0 } → (parts : List Part)
    → (front : List (List ℕ)) × IsGotOf begin known left front × HasSoFar answer inputs front parts
    → OfSomeBytes known left (λ bytes rest. GotTo answer inputs bytes rest parts)
got_from_beginning answer inputs begin known left fresh parts (front, (rest, left_gives, (bytes, gives, got)), told) = (
  rest,
  left_gives,
  (
    bytes,
    gives,
    (got.0, ap (λ (c : Cursor). c.waiting ++ bytes) (sym fresh) ∙ got.1, subst (λ (lines : List (List ℕ)). HasSoFar answer inputs lines parts) (sym got.2) told),
  ),
)

-- inputs that have no plan
pub refused_composed : (answer : Binary → Answer) (inputs : Inputs) (refusal : PlanFault) (log : List Item) (code : ℕ) → Plans answer inputs (Err refusal) → code ≡ status_of refusal
    → Composed answer inputs log (refused_plan refusal) code
refused_composed answer inputs refusal log code is status = inl (refusal, is, refl, status)

pub refused_begun : (answer : Binary → Answer) (inputs : Inputs) (refusal : PlanFault) (log : List Item) → Plans answer inputs (Err refusal) → Begun answer inputs log (refused_plan refusal)
refused_begun answer inputs refusal log is = inr (inr (status_of refusal, refused_composed answer inputs refusal log (status_of refusal) is refl))

-- all were asked for, whatever came after
pub asks_all : (result : Result ℕ JudgeFault) (old ids new : List (List ℕ)) → AsksFor false old ids new → AsksFor (lacks_memory result) old ids new
asks_all (Ok code) old ids new h = h
asks_all (Err (fault.Read cause)) old ids new h = h
asks_all (Err (fault.Write cause)) old ids new h = h
asks_all (Err fault.Memory) old ids new h = (ids, ([], (h, sym (append-nil ids))))

-- why inputs have no plan
pub refused_as : (answer : Binary → Answer) (inputs : Inputs) (error : PlanError) (refusal : PlanFault) → error ≡ build_error.Refused refusal → Builds answer inputs (Err error) → Plans answer inputs (Err refusal)
refused_as answer inputs error refusal is builds = subst (λ (e : PlanError). Builds answer inputs (Err e)) is builds

pub asked_as : (error : PlanError) (refusal : PlanFault) (old ids new : List (List ℕ)) → error ≡ build_error.Refused refusal → Asks {A = Plan} (Err error) old ids new → AsksFor false old ids new
asked_as error refusal old ids new is asks = subst (λ (e : PlanError). Asks {A = Plan} (Err e) old ids new) is asks

pub asked_in_part : (error : PlanError) (old ids new : List (List ℕ)) → error ≡ build_error.OutOfMemory → Asks {A = Plan} (Err error) old ids new → AsksFor true old ids new
asked_in_part error old ids new is asks = subst (λ (e : PlanError). Asks {A = Plan} (Err e) old ids new) is asks

-- what a call asks the lister for is what the plan's building asked for
pub asks_with : (answer : Binary → Answer) (inputs : Inputs) (built : Result Plan PlanError) (lacks : Bool) (old new : List (List ℕ))
    → ((ids : List (List ℕ)) → Asks built old ids new → AsksFor lacks old ids new) → AsksWith answer inputs (building.lacks_memory built) old new → AsksWith answer inputs lacks old new
asks_with answer inputs built lacks old new also asks = record {
  none = asks.none;
  listed = λ choice answers kept is. also (asked_of answer (listed_in inputs answers)) (asks.listed choice answers kept is);
}
