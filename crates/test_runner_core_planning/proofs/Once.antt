-- What is planned of inputs is one.
use Rattle.std.proofs.Common.{◌≡◌, inl, inr, ℕ, List, [], ◌∷◌, ◌++◌, true, false, Option, None, Some, Result, Ok, Err, refl, sym, ap, ◌∙◌, subst}
use Rattle.nextest_filtering_filters.specs.Query.{Test}
use Rattle.nextest_filtering_filters.specs.declared.known_groups.KnownGroups.{KnownGroups}
use Rattle.nextest_filtering_filters.proofs.Parts.{tells_one}
use Rattle.nextest_filtering_syntax.proofs.Trees.{one_tree}
use Rattle.nextest_filtering_ast.specs.Tree.{Tree}
use Rattle.test_runner_core_inputs.specs.declared.inputs.Inputs.{Inputs}
use Rattle.test_runner_core_listing.specs.Answers.{Answers}
use Rattle.test_runner_core_listing.specs.Listing.{Found, listing}
use Rattle.test_runner_core_listing.specs.declared.listing_fault.ListingFault.{ListingFault}
use Rattle.test_runner_core_plan.specs.declared.plan_settings.PlanSettings.{PlanSettings}
use Rattle.test_runner_core_settings.proofs.Once.{one_settings, one_test}
use Rattle.test_runner_core_settings.specs.Laws.{HaveOneReason}
use Rattle.test_runner_core_settings.specs.Pass.{pass_of}
use Rattle.test_runner_core_settings.specs.Sets.{Sets}
use Rattle.test_runner_core_settings.specs.declared.configured.RunSettings.{RunSettings}
use Rattle.test_runner_core_settings.specs.declared.pass.VersionPass.{VersionPass}
use Rattle.test_runner_core_settings.specs.declared.settings_fault.SettingsFault.{SettingsFault}
use Rattle.test_runner_core_settings.specs.declared.settings_fault.SettingsFault.TheVariants as set
use Rattle.test_runner_core_workspace.specs.Lister.{Answer}
use Rattle.test_runner_core_workspace.specs.Workspace.{refusal_of}
use Rattle.test_runner_core_workspace.specs.declared.record.Binary.{Binary}
use Rattle.test_runner_core_workspace.specs.declared.record.WorkspaceRecord.{WorkspaceRecord}
use Rattle.test_runner_core_workspace.specs.declared.workspace_fault.WorkspaceFault.{WorkspaceFault}
use Rattle.test_runner_core_planning.specs.Checks as check
use Rattle.test_runner_core_planning.specs.Checks.{AnswerFor, Breaks, BreaksFirst, Check, IsFound, Keeps, KeepsAll, Planned, SetsAll, all_checks, has_too_many, listed_in}
use Rattle.test_runner_core_planning.specs.Filtering.{AllCanHold, AllHold, AreAnswersOf, AreInForce, AreOfFilterset, Choice, InForce, IsChosen, IsRefused, context_of, unless_ignored}
use Rattle.test_runner_core_planning.specs.Plan.{Plans}
use Rattle.test_runner_core_planning.specs.Refusals.{of_listing, of_pass, of_settings, of_workspace}
use Rattle.test_runner_core_planning.specs.Texts.{name_of, name_of_load, status_of}
use Rattle.test_runner_core_planning.specs.declared.plan_fault.PlanFault.{PlanFault}

-- ---- the filters in force

-- a text is one filterset
of_filterset_once : (workspace : WorkspaceRecord) (known : KnownGroups) (text : Option (List ℕ)) (one other : List Tree) → AreOfFilterset workspace known text one → AreOfFilterset workspace known text other
    → one ≡ other
of_filterset_once workspace known None one other a b = a ∙ sym b
of_filterset_once workspace known (Some text) one other (tree, taken, is) (second, also, same) =
    is ∙ ap (λ (t : Tree). t ∷ []) (one_tree text tree second taken.0 also.0) ∙ sym same

-- so the filters in force are one list
pub in_force_once : (inputs : Inputs) (run : RunSettings) (one other : InForce) → AreInForce inputs run one → AreInForce inputs run other → one ≡ other
in_force_once inputs run one other a b =
    let default : one.default ≡ other.default = one_tree run.default_filter one.default other.default a.default.0 b.default.0 in
    let chosen : a.chosen ≡ b.chosen = of_filterset_once inputs.workspace run.known_groups inputs.filterset a.chosen b.chosen a.filterset b.filterset in
    let filters : one.filters ≡ other.filters =
    a.all
    ∙ ap (λ (trees : List Tree). trees ++ unless_ignored inputs.ignore_default_filter one.default) chosen
    ∙ ap (λ (tree : Tree). b.chosen ++ unless_ignored inputs.ignore_default_filter tree) default
    ∙ sym b.all in
    λ i. record { filters = filters i; default = default i }

-- what is chosen is what the filters in force answer
pub answers_are : (inputs : Inputs) (choice : Choice) (force : InForce) (answers : Answers) → AreInForce inputs choice.run force → IsChosen inputs choice (Ok answers)
    → AreAnswersOf inputs.workspace choice.of_test force answers
answers_are inputs choice force answers is (other, also, are) =
    subst (λ (it : InForce). AreAnswersOf inputs.workspace choice.of_test it answers) (in_force_once inputs choice.run other force also is) are

-- a filterset isn't both accepted and refused
never_both : (workspace : WorkspaceRecord) (known : KnownGroups) (filterset : Option (List ℕ)) (trees : List Tree) → AreOfFilterset workspace known filterset trees → IsRefused workspace known filterset → ⊥
never_both workspace known None trees are never = never
never_both workspace known (Some text) trees (tree, taken, is) never = never tree taken

-- filters in force answer one thing
answers_once : (workspace : WorkspaceRecord) (of_test : Test → PlanSettings) (force : InForce) (a b : Answers) → AreAnswersOf workspace of_test force a → AreAnswersOf workspace of_test force b → a ≡ b
answers_once workspace of_test force a b first second = λ i. record {
  lists = λ binary. tells_one (AllCanHold workspace force binary) (a.lists binary) (b.lists binary) (first.lists binary) (second.lists binary) i;
  selects = λ binary name. tells_one (AllHold workspace of_test force binary name) (a.selects binary name) (b.selects binary name) (first.selects binary name) (second.selects binary name) i;
}

pub chosen_once : (inputs : Inputs) (choice : Choice) (a b : Result Answers PlanFault) → IsChosen inputs choice a → IsChosen inputs choice b → a ≡ b
chosen_once inputs choice (Ok a) (Ok b) (force, is, are) second =
    ap (λ (answers : Answers). Ok answers) (answers_once inputs.workspace choice.of_test force a b are (answers_are inputs choice force b is second))
chosen_once inputs choice (Ok a) (Err b) (force, is, are) second = absurd (never_both inputs.workspace choice.run.known_groups inputs.filterset is.chosen is.filterset second.1)
chosen_once inputs choice (Err a) (Ok b) first (force, is, are) = absurd (never_both inputs.workspace choice.run.known_groups inputs.filterset is.chosen is.filterset first.1)
chosen_once inputs choice (Err a) (Err b) first second = ap (λ (refusal : PlanFault). Err refusal) (first.0 ∙ sym second.0)

-- ---- what is set

-- inputs set one thing
pub sets_once : (inputs : Inputs) (one other : Choice) → SetsAll inputs one → SetsAll inputs other → one ≡ other
sets_once inputs one other a b =
    let cx = context_of inputs.workspace in
    let run : one.run ≡ other.run = one_settings cx inputs (Ok one.run) (Ok other.run) a.run b.run in
    λ i. record { run = run i; of_test = λ test. one_test cx inputs test (one.of_test test) (other.of_test test) (a.tests test) (b.tests test) i }

-- what is chosen beside it
chosen_beside : (inputs : Inputs) (one other : Choice) (answers : Result Answers PlanFault) → SetsAll inputs one → SetsAll inputs other → IsChosen inputs other answers → IsChosen inputs one answers
chosen_beside inputs one other answers a b is = subst (λ (c : Choice). IsChosen inputs c answers) (sets_once inputs other one b a) is

-- and their filters in force answer one thing
pub answered_once : (inputs : Inputs) (one other : Choice) (a b : Answers) → AnswerFor inputs one a → AnswerFor inputs other b → a ≡ b
answered_once inputs one other a b first second =
    let e = chosen_once inputs one (Ok a) (Ok b) first.chosen (chosen_beside inputs one other (Ok b) first.sets second.sets second.chosen) in cc

-- so one listing is made of them
listed_once : (answer : Binary → Answer) (inputs : Inputs) (one other : Choice) (a b : Answers) (given also : Result Found ListingFault) → AnswerFor inputs one a → AnswerFor inputs other b
    → listing answer a (listed_in inputs a) ≡ given → listing answer b (listed_in inputs b) ≡ also → given ≡ also
listed_once answer inputs one other a b given also first second is is_also =
    sym is ∙ ap (λ (answers : Answers). listing answer answers (listed_in inputs answers)) (answered_once inputs one other a b first second) ∙ is_also

pub found_once : (answer : Binary → Answer) (inputs : Inputs) (one other : Planned) → IsFound answer inputs one → IsFound answer inputs other → one ≡ other
found_once answer inputs one other a b =
    let choice = sets_once inputs one.choice other.choice a.answers.sets b.answers.sets in
    let answers = answered_once inputs one.choice other.choice one.answers other.answers a.answers b.answers in
    let found : one.found ≡ other.found =
    (let e = listed_once answer inputs one.choice other.choice one.answers other.answers (Ok one.found) (Ok other.found) a.answers b.answers a.found b.found in cc) in
    λ i. record { choice = choice i; answers = answers i; found = found i }

-- ---- refusals

-- two refusals have one name and one status
abbrev pub SameRefusal : PlanFault → PlanFault → Type 0
SameRefusal one other = (name_of one ≡ name_of other) × (status_of one ≡ status_of other)

same_refusal : (one other : PlanFault) → one ≡ other → SameRefusal one other
same_refusal one other e = (ap name_of e, ap status_of e)

-- those of the configuration, but for the words of the load's
same_reason : (one other : SettingsFault) → HaveOneReason one other → SameRefusal (of_settings one) (of_settings other)
same_reason (set.Load told) (set.Load other) same = (ap name_of_load same, refl)
same_reason (set.Load told) (set.ProfileNotFound other) same = absurd (let h = same in cc)
same_reason (set.Load told) set.RepeatedFact same = absurd (let h = same in cc)
same_reason (set.ProfileNotFound told) other same = (ap (λ (f : SettingsFault). name_of (of_settings f)) same, ap (λ (f : SettingsFault). status_of (of_settings f)) same)
same_reason set.RepeatedFact other same = (ap (λ (f : SettingsFault). name_of (of_settings f)) same, ap (λ (f : SettingsFault). status_of (of_settings f)) same)

-- a refusal that stands for another
same_through : (one other first second : PlanFault) → one ≡ first → other ≡ second → SameRefusal first second → SameRefusal one other
same_through one other first second e f same = (ap name_of e ∙ same.0 ∙ sym (ap name_of f), ap status_of e ∙ same.1 ∙ sym (ap status_of f))

-- a check is broken for one reason
breaks_once : (answer : Binary → Answer) (inputs : Inputs) (it : Check) (one other : PlanFault) → Breaks answer inputs it one → Breaks answer inputs it other → SameRefusal one other
breaks_once answer inputs check.workspace one other (fault, is, e) (second, also, f) =
    let same : fault ≡ second = (let h = sym is ∙ also in cc) in
    same_refusal one other (e ∙ ap of_workspace same ∙ sym f)
breaks_once answer inputs check.versions one other (fault, is, e) (second, also, f) =
    let same : fault ≡ second = (let h = sym is ∙ also in cc) in
    same_refusal one other (e ∙ ap of_pass same ∙ sym f)
breaks_once answer inputs check.configuration one other (fault, is, e) (second, also, f) =
    same_through one other (of_settings fault) (of_settings second) e f (same_reason fault second (one_settings (context_of inputs.workspace) inputs (Err fault) (Err second) is also))
breaks_once answer inputs check.filterset one other (choice, sets, is) (second, also, is_also) = same_refusal one other (is.0 ∙ sym is_also.0)
breaks_once answer inputs check.names one other a b =
    let same : a.fault ≡ b.fault =
    (let e = listed_once answer inputs a.choice b.choice a.answers b.answers (Err a.fault) (Err b.fault) a.answered b.answered a.listed b.listed in cc) in
    same_refusal one other (a.refused ∙ ap of_listing same ∙ sym b.refused)
breaks_once answer inputs check.tries one other (a, e) (b, f) = same_refusal one other (e ∙ sym f)

-- where none is broken, none is the first that is
pub none_breaks : (answer : Binary → Answer) (inputs : Inputs) (checks : List Check) (refusal : PlanFault) → KeepsAll answer inputs checks → BreaksFirst answer inputs checks refusal → ⊥
none_breaks answer inputs [] refusal kept broken = broken
none_breaks answer inputs (it ∷ checks) refusal kept (inl here) = kept.0 refusal here
none_breaks answer inputs (it ∷ checks) refusal kept (inr behind) = none_breaks answer inputs checks refusal kept.1 behind.1

-- the first that is broken is one
first_once : (answer : Binary → Answer) (inputs : Inputs) (checks : List Check) (one other : PlanFault) → BreaksFirst answer inputs checks one → BreaksFirst answer inputs checks other → SameRefusal one other
first_once answer inputs [] one other a b = absurd a
first_once answer inputs (it ∷ checks) one other (inl a) (inl b) = breaks_once answer inputs it one other a b
first_once answer inputs (it ∷ checks) one other (inl a) (inr (kept, b)) = absurd (kept one a)
first_once answer inputs (it ∷ checks) one other (inr (kept, a)) (inl b) = absurd (kept other b)
first_once answer inputs (it ∷ checks) one other (inr (kept, a)) (inr (also, b)) = first_once answer inputs checks one other a b

-- the first of some checks is the first of more
pub breaks_more : (answer : Binary → Answer) (inputs : Inputs) (checks more : List Check) (refusal : PlanFault) → BreaksFirst answer inputs checks refusal → BreaksFirst answer inputs (checks ++ more) refusal
breaks_more answer inputs [] more refusal broken = absurd broken
breaks_more answer inputs (it ∷ checks) more refusal (inl here) = inl here
breaks_more answer inputs (it ∷ checks) more refusal (inr (kept, behind)) = inr (kept, breaks_more answer inputs checks more refusal behind)

-- and where they are kept, it may be one behind them
pub breaks_behind : (answer : Binary → Answer) (inputs : Inputs) (checks more : List Check) (refusal : PlanFault) → KeepsAll answer inputs checks → BreaksFirst answer inputs more refusal
    → BreaksFirst answer inputs (checks ++ more) refusal
breaks_behind answer inputs [] more refusal kept broken = broken
breaks_behind answer inputs (it ∷ checks) more refusal kept broken = inr (kept.0, breaks_behind answer inputs checks more refusal kept.1 broken)

pub keeps_both : (answer : Binary → Answer) (inputs : Inputs) (checks more : List Check) → KeepsAll answer inputs checks → KeepsAll answer inputs more → KeepsAll answer inputs (checks ++ more)
keeps_both answer inputs [] more kept also = also
keeps_both answer inputs (it ∷ checks) more kept also = (kept.0, keeps_both answer inputs checks more kept.1 also)

-- ---- checks that are kept

-- that of the workspace, where nothing refuses it, and the other way
pub keeps_workspace : (answer : Binary → Answer) (inputs : Inputs) → refusal_of inputs.workspace ≡ None → Keeps answer inputs check.workspace
keeps_workspace answer inputs e refusal (fault, is, told) = absurd (let h = sym e ∙ is in cc)

pub not_refused : (answer : Binary → Answer) (inputs : Inputs) → Keeps answer inputs check.workspace → refusal_of inputs.workspace ≡ None
not_refused answer inputs kept = by_refusal (refusal_of inputs.workspace) refl
  where
    by_refusal : (found : Option WorkspaceFault) → refusal_of inputs.workspace ≡ found → found ≡ None
    by_refusal None e = refl
    by_refusal (Some fault) e = absurd (kept (of_workspace fault) (fault, e, refl))

pub keeps_versions : (answer : Binary → Answer) (inputs : Inputs) (passed : VersionPass) → pass_of inputs ≡ Ok passed → Keeps answer inputs check.versions
keeps_versions answer inputs passed e refusal (fault, is, told) = absurd (let h = sym e ∙ is in cc)

pub keeps_configuration : (answer : Binary → Answer) (inputs : Inputs) (run : RunSettings) → Sets (context_of inputs.workspace) inputs (Ok run) → Keeps answer inputs check.configuration
keeps_configuration answer inputs run sets refusal (fault, is, told) = one_settings (context_of inputs.workspace) inputs (Ok run) (Err fault) sets is

pub keeps_filterset : (answer : Binary → Answer) (inputs : Inputs) (choice : Choice) (answers : Answers) → AnswerFor inputs choice answers → Keeps answer inputs check.filterset
keeps_filterset answer inputs choice answers it refusal (other, sets, is) =
    absurd (let e = chosen_once inputs choice (Ok answers) (Err refusal) it.chosen (chosen_beside inputs choice other (Err refusal) it.sets sets is) in cc)

pub keeps_names : (answer : Binary → Answer) (inputs : Inputs) (it : Planned) → IsFound answer inputs it → Keeps answer inputs check.names
keeps_names answer inputs it found refusal bad =
    absurd (let e = listed_once answer inputs it.choice bad.choice it.answers bad.answers (Ok it.found) (Err bad.fault) found.answers bad.answered found.found bad.listed in cc)

pub keeps_tries : (answer : Binary → Answer) (inputs : Inputs) (it : Planned) → IsFound answer inputs it → has_too_many it.choice.of_test it.found.tests ≡ false → Keeps answer inputs check.tries
keeps_tries answer inputs it found few refusal (many, told) =
    let same : many.it ≡ it = found_once answer inputs many.it it many.found found in
    absurd (let e : true ≡ false = sym many.many ∙ ap (λ (p : Planned). has_too_many p.choice.of_test p.found.tests) same ∙ few in cc)

-- ---- what is planned

-- two answers are the same, but for the words of a refusal
abbrev pub Same : Result Planned PlanFault → Result Planned PlanFault → Type 0
Same (Ok one) (Ok other) = one ≡ other
Same (Err one) (Err other) = SameRefusal one other
Same one other = ⊥

pub plans_once : (answer : Binary → Answer) (inputs : Inputs) (a b : Result Planned PlanFault) → Plans answer inputs a → Plans answer inputs b → Same a b
plans_once answer inputs (Ok one) (Ok other) a b = found_once answer inputs one other a.found b.found
plans_once answer inputs (Ok one) (Err refusal) a b = none_breaks answer inputs all_checks refusal a.kept b
plans_once answer inputs (Err refusal) (Ok other) a b = none_breaks answer inputs all_checks refusal b.kept a
plans_once answer inputs (Err one) (Err other) a b = first_once answer inputs all_checks one other a b
