use Rattle.std.proofs.Common.{Bool, ℕ, List, Option, ap, sym, subst, ◌∙◌}
use Rattle.std.specs.Prelude.{option_copied}
use Rattle.nextest_run_events_slices.specs.Slices.{IsSlice, bytes_of_output}
use Rattle.test_runner_core_report_lines.specs.Texts.{IsShownSlice, err_of, out_of}
use Rattle.test_runner_core_report_lines.proofs.outputs.slice_of.Goals as goal

pub returns : goal.returns
returns c =
    let told = c.args.ended.now.output in
    let found = c.heuristic_extract.result in
    let by_out = subst (λ (out : Option (List ℕ)). IsSlice (bytes_of_output out) (bytes_of_output (option_copied c.err.result)) found) (c.out.ensures ∙ ap out_of c.in_record-written.ensures) c.heuristic_extract.ensures.slice in
    let by_both = subst (λ (err : Option (List ℕ)). IsSlice (bytes_of_output (out_of told)) (bytes_of_output err) found) (c.err.ensures ∙ ap err_of c.in_record-written.ensures) by_out in
    subst (λ (success : Bool). IsShownSlice success told found) (sym c.if-is_success.false ∙ c.is_success.ensures) by_both
