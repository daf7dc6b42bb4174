use Rattle.std.proofs.Common.{◌<◌, ap, ◌∙◌, arith, length, refl, slice_set}
use Rattle.std.proofs.lemmas.Option.{slice_get_past, slice_get_read}
use Rattle.test_runner_core_run_model.specs.State.{TestState}
use Rattle.test_runner_core_run_state.proofs.OtherRecords.{none_unwritten, set_unwritten}
use Rattle.test_runner_core_run_state.proofs.test_states.forget_at.Goals as goal

pub returns-then-place-len : goal.returns-then-place-len
returns-then-place-len c =
    let tests = c.args.tests.now.items in
    let many = c.len.ensures in
    let over = c.if-place-len.true in
    none_unwritten tests c.args.place (slice_get_past tests c.args.place (omega (arith, many, over)))

pub returns : goal.returns
returns c =
    let tests = c.args.tests.now.items in
    let many = c.len.ensures in
    let less = c.if-place-len.false in
    let within : c.args.place < length tests = omega (arith, many, less) in
    ap (λ (test : TestState). slice_set tests c.args.place test) c.forget_outputs.ensures
    ∙ set_unwritten tests c.args.place c.index_mut-test.result.now
    (slice_get_read tests (length tests) c.args.place c.index_mut-test.result.now refl within c.index_mut-test.ensures.value)
