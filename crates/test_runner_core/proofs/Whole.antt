-- What a whole report comes to, by what its parts reported.
use Rattle.std.proofs.Common.{◌≡◌, ℕ, List, [], ◌∷◌, ◌++◌, Option, Ok, Err, take, drop, codes, refl, sym, ap, ◌∙◌, subst, inl, inr, append_assoc, append-nil}
use Rattle.std.specs.Io.KnownBytes.{Appends}
use Rattle.std.proofs.lemmas.List.{take-append-drop}
use Rattle.test_runner_core_log_reader.specs.Cursor.{Cursor}
use Rattle.test_runner_core_plan.specs.declared.plan.Plan.{Plan}
use Rattle.test_runner_core_run_model.specs.State.{State}
use Rattle.test_runner_core_reporter.specs.Parts.{Part, Said}
use Rattle.test_runner_core_reporter.specs.Writes.{WritesAll, WritesPrefix}
use Rattle.test_runner_core_reporter.specs.declared.fault.ReportFault.{ReportFault}
use Rattle.test_runner_core_reporter.specs.declared.fault.ReportFault.TheVariants as untold
use Rattle.test_runner_core_reporter.proofs.Told.{all_then, front_none, front_then, one_text, then_nothing}
use Rattle.test_runner_core.specs.Faults.{fault_of_reporting}
use Rattle.test_runner_core.specs.Inside.{BegunLines, IsBegun, IsGot, IsJudged, JudgedLines, JudgesLines}
use Rattle.test_runner_core.specs.Report.{IsWritten, Reports, ending, exit_status}
use Rattle.test_runner_core.specs.declared.judge_fault.JudgeFault.{JudgeFault}
use Rattle.test_runner_core.specs.declared.judge_fault.JudgeFault.TheVariants as fault
use Rattle.test_runner_core.specs.declared.refused_line.RefusedLine.{RefusedLine}

-- words that are written at once are reported
pub words_told : (words : List ℕ) (before after : Option (List ℕ)) → Appends before after words → WritesAll (Said words ∷ []) before [] after []
words_told words before after taken =
    record { told = words; text = one_text (Said words) words refl; moved = record { written = words; taken = taken; whole = append-nil words } }

-- a prefix of them is written, and the rest is lost
pub words_front : (words : List ℕ) (before after : Option (List ℕ)) (count : ℕ) → Appends before after (take count words) → WritesPrefix (Said words ∷ []) before [] after
words_front words before after count taken =
    record {
      front = Said words ∷ [];
      rest = [];
      whole = refl;
      told = words;
      text = one_text (Said words) words refl;
      lost = drop count words;
      moved = record { written = take count words; taken = taken; whole = take-append-drop count words };
    }

-- where only what waited is written behind them, parts are reported as before
pub told_and_written : (parts : List Part) (before middle after : Option (List ℕ)) (waited mid waits : List ℕ)
    → WritesAll parts before waited middle mid → WritesAll [] middle mid after waits → WritesAll parts before waited after waits
told_and_written parts before middle after waited mid waits told written = then_nothing {T = Unit {0}} {E = Unit {0}} (Ok tt) parts before middle after waited mid waits told written

pub told_unwritten : (parts : List Part) (before middle after : Option (List ℕ)) (waited mid : List ℕ)
    → WritesAll parts before waited middle mid → WritesPrefix [] middle mid after → WritesPrefix parts before waited after
told_unwritten parts before middle after waited mid told failed = then_nothing {T = Unit {0}} {E = Unit {0}} (Err tt) parts before middle after waited mid [] told failed

-- the words of a refused line, with its number and the text of its refusal
pub line_words : (number refusal : List ℕ) → codes "refused\tline\t" ++ (number ++ (codes "\t" ++ (refusal ++ codes "\n"))) ≡ codes "refused\tline\t" ++ ((number ++ (codes "\t" ++ refusal)) ++ codes "\n")
line_words number refusal = ap (λ (t : List ℕ). codes "refused\tline\t" ++ t) (sym (append_assoc number (codes "\t" ++ refusal) (codes "\n")))

-- where nothing waits any more, all that was reported is written
pub all_written : (parts : List Part) (before after : Option (List ℕ)) (waits : List ℕ) → WritesAll parts before [] after waits → waits ≡ [] → IsWritten parts before after
all_written parts before after waits all none =
    let same : all.moved.written ≡ all.told = sym (append-nil all.moved.written) ∙ ap (λ (t : List ℕ). all.moved.written ++ t) (sym none) ∙ all.moved.whole in
    (all.told, all.text, subst (λ (t : List ℕ). Appends before after t) same all.moved.taken)

-- judged lines and the ending make up the whole report
pub whole_judged : (plan : Plan) (last : State) (found : Option RefusedLine) (begin : Cursor) (known before after : Option (List ℕ)) (waits : List ℕ)
    → (judged : JudgedLines plan last found begin known before after waits) → IsJudged plan begin known (judged.parts ++ ending plan last found) (exit_status last found)
whole_judged plan last found begin known before after waits judged =
    let log = judged.whole in (
      log.0,
      log.1,
      record {
        front = judged.front;
        rest = judged.rest;
        whole = log.2;
        last = last;
        told = judged.parts;
        so_far = judged.so_far;
        found = found;
        finds = judged.finds;
        composed = refl;
        status = refl;
      },
    )

-- what is answered where the ending is reported, and nothing waits
pub reports_whole : (plan : Plan) (last : State) (found : Option RefusedLine) (begin : Cursor) (known left before middle after : Option (List ℕ)) (mid waits : List ℕ) (code : ℕ)
    → JudgedLines plan last found begin known before middle mid → WritesAll (ending plan last found) middle mid after waits → waits ≡ [] → code ≡ exit_status last found
    → Reports (Ok code) (IsJudged plan begin known) (IsGot plan begin known left) (IsBegun plan begin known) before after
reports_whole plan last found begin known left before middle after mid waits code judged ended none status = (
  judged.parts ++ ending plan last found,
  subst (λ (n : ℕ). IsJudged plan begin known (judged.parts ++ ending plan last found) n) (sym status) (whole_judged plan last found begin known before middle mid judged),
  all_written (judged.parts ++ ending plan last found) before after waits (all_then judged.parts (ending plan last found) before middle after [] mid waits judged.told ended) none,
)

-- where the ending fails to be reported, a prefix of the whole report is written
begun_whole : (plan : Plan) (last : State) (found : Option RefusedLine) (begin : Cursor) (known before middle after : Option (List ℕ)) (mid : List ℕ)
    → JudgedLines plan last found begin known before middle mid → WritesPrefix (ending plan last found) middle mid after
    → (parts : List Part) × IsBegun plan begin known parts × WritesPrefix parts before [] after
begun_whole plan last found begin known before middle after mid judged failed = (
  judged.parts ++ ending plan last found,
  inr (inr (exit_status last found, whole_judged plan last found begin known before middle mid judged)),
  front_then judged.parts (ending plan last found) before middle after [] mid judged.told failed,
)

pub reports_unended : (why : ReportFault) (plan : Plan) (last : State) (found : Option RefusedLine) (begin : Cursor) (known left before middle after : Option (List ℕ)) (mid : List ℕ)
    → JudgedLines plan last found begin known before middle mid → WritesPrefix (ending plan last found) middle mid after
    → Reports (Err (fault_of_reporting why)) (IsJudged plan begin known) (IsGot plan begin known left) (IsBegun plan begin known) before after
reports_unended untold.Memory plan last found begin known left before middle after mid judged failed = begun_whole plan last found begin known before middle after mid judged failed
reports_unended (untold.Write cause) plan last found begin known left before middle after mid judged failed = begun_whole plan last found begin known before middle after mid judged failed

-- where the lines fail to be judged
begun_lines : (plan : Plan) (begin : Cursor) (known before after : Option (List ℕ)) → BegunLines plan begin known before after
    → (parts : List Part) × IsBegun plan begin known parts × WritesPrefix parts before [] after
begun_lines plan begin known before after begun = (begun.parts, inr (inl (begun.front, (begun.rest, (begun.whole, (begun.last, begun.so_far))))), begun.told)

pub reports_unjudged : (why : JudgeFault) (plan : Plan) (last : State) (begin : Cursor) (known left before after : Option (List ℕ)) (waits : List ℕ)
    → JudgesLines (Err why) plan last begin known left before after waits
    → Reports (Err why) (IsJudged plan begin known) (IsGot plan begin known left) (IsBegun plan begin known) before after
reports_unjudged fault.Memory plan last begin known left before after waits begun = begun_lines plan begin known before after begun
reports_unjudged (fault.Read cause) plan last begin known left before after waits got =
    (got.parts, (got.front, got.got, (got.last, got.so_far)), inr (inl (got.front, (got.rest, (got.whole, (got.last, got.so_far))))), got.written)
reports_unjudged (fault.Write cause) plan last begin known left before after waits begun = begun_lines plan begin known before after begun

-- where there is no memory to begin
pub reports_none : (plan : Plan) (begin : Cursor) (known left before : Option (List ℕ))
    → Reports (Err fault.Memory) (IsJudged plan begin known) (IsGot plan begin known left) (IsBegun plan begin known) before before
reports_none plan begin known left before = ([], inl refl, front_none [] before [])
