-- The scripts of a plan, by their places.
use Rattle.std.proofs.Common.{◌≡◌, ◌<◌, ℕ, zero, suc, List, [], ◌∷◌, Bor, Option, Some, None, length, get_or, refl, sym, ap, ◌∙◌}
use Rattle.std.specs.Prelude.{slice_get}
use Rattle.nextest_run_events_results.specs.declared.record.Record.{Record}
use Rattle.test_runner_core_run_state.proofs.Kept.{script_told_back}
use Rattle.test_runner_core_run_state.specs.Statuses.{IsScriptStatus, ScriptStatus, script_record_in}
use Rattle.test_runner_core_report_lines.specs.Texts.{script_text}
use Rattle.test_runner_core_reporter.specs.Final.{script_texts}
use Rattle.test_runner_core_reporter.proofs.Each.{lent_here}

pub text_at : (ids : List (List ℕ)) (records : List Record) (place : ℕ) (id : List ℕ) → slice_get ids place ≡ Some id
    → slice_get (script_texts ids records) place ≡ Some (script_text id (slice_get records place))
text_at [] records place id here = absurd (let e = here in cc)
text_at (first ∷ ids) [] zero id here = ap (λ (i : List ℕ). Some (script_text i None)) (let e = here in cc)
text_at (first ∷ ids) [] (suc place) id here = text_at ids [] place id here
text_at (first ∷ ids) (told ∷ records) zero id here = ap (λ (i : List ℕ). Some (script_text i (Some told))) (let e = here in cc)
text_at (first ∷ ids) (told ∷ records) (suc place) id here = text_at ids records place id here

-- by the status of the script, and its id as it is lent
pub told_text_at : (ids lent : List (List ℕ)) (records : List Record) (place : ℕ) (id word : List ℕ) (status : Option (Bor ScriptStatus))
    → lent ≡ ids → place < length lent → id ≡ get_or lent place id → word ≡ id → IsScriptStatus (slice_get records place) status
    → slice_get (script_texts ids records) place ≡ Some (script_text word (script_record_in status))
told_text_at ids lent records place id word status same within item spelled is =
    text_at ids records place id (lent_here ids lent place id same within item)
    ∙ sym (ap (λ (i : List ℕ). Some (script_text i (script_record_in status))) spelled
    ∙ ap (λ (told : Option Record). Some (script_text id told)) (script_told_back (slice_get records place) status is))

-- there are as many as ids
pub texts_count : (ids : List (List ℕ)) (records : List Record) → length (script_texts ids records) ≡ length ids
texts_count [] records = refl
texts_count (id ∷ ids) [] = ap suc (texts_count ids [])
texts_count (id ∷ ids) (told ∷ records) = ap suc (texts_count ids records)
