use Rattle.std.proofs.lemmas.Result.{err_from_is_err_and}
use Rattle.test_runner_core_planning.specs.Filtering.{context_of}
use Rattle.test_runner_core_planning.proofs.Building.{refuses_filterset, wants_error}
use Rattle.test_runner_core_planning.proofs.Choosing.{choice_of, choice_sets}
use Rattle.test_runner_core_planning.proofs.wanted.wanted_in.Goals as goal

pub returns-in_err-run : goal.returns-in_err-run
returns-in_err-run c =
    let inputs = c.args.inputs.now in
    let p = err_from_is_err_and c.from_residual.result c.from_residual.ensures.1 in
    let of = c.requires.configured in
    rw (p.1, p.2) (wants_error inputs c.in_err-run.field-0.0 of.passed (c.in_err-run.ensures (context_of inputs.workspace) of.reads))

pub returns-in_err-filterset : goal.returns-in_err-filterset
returns-in_err-filterset c =
    let inputs = c.args.inputs.now in
    let of = c.requires.configured in
    let p = err_from_is_err_and c.from_residual-in_err-filterset.result c.from_residual-in_err-filterset.ensures.1 in
    let run = c.in_ok-run.run' in
    let chooses = c.in_ok-run.ensures (context_of inputs.workspace) of.reads in
    rw (p.1, p.2) (refuses_filterset inputs (choice_of inputs run chooses) c.in_err-filterset.field-0.0 of.passed (choice_sets inputs run chooses) c.in_err-filterset.ensures)

pub returns : goal.returns
returns c =
    let inputs = c.args.inputs.now in
    let of = c.requires.configured in
    record { passed = of.passed; chooses = c.in_ok-run.ensures (context_of inputs.workspace) of.reads; filtered = c.in_ok-filterset.ensures }
