use Rattle.std.proofs.Common.{◌≡◌, List, length, refl, ap, ◌∙◌, sym, subst, Some, None}
use Rattle.std.specs.Prelude.{slice_get}
use Rattle.std.proofs.lemmas.Option.{slice_get_past, slice_get_read}
use Rattle.test_runner_core_plan.specs.declared.plan.Plan.{Plan}
use Rattle.test_runner_core_plan.specs.declared.plan.PlanTest.{PlanTest}
use Rattle.test_runner_core_reporter.specs.Final.{shows_of}
use Rattle.test_runner_core_reporter.proofs.Named.{kept_none, kept_some, no_test}
use Rattle.test_runner_core_reporter.proofs.final_text.shown_test_at.Goals as goal

pub returns-in_err-test : goal.returns-in_err-test
returns-in_err-test c =
    let session = c.args.session.now in
    let same = c.as_slice-tests.ensures ∙ ap (λ (p : Plan). p.tests) c.plan-plan.ensures in
    c.from_residual.ensures
    ∙ sym (no_test session.plan session.plan.tests session.run.tests c.args.place
    (subst (λ (xs : List PlanTest). slice_get xs c.args.place ≡ None) same (slice_get_past c.as_slice-tests.result.now c.args.place c.in_err-test.ensures.lookup.3)))

pub returns-in_default : goal.returns-in_default
returns-in_default c =
    let session = c.args.session.now in
    sym (kept_none _ _ session.plan session.plan.tests session.run.tests c.args.place c.in_default.ensures)

pub returns : goal.returns
returns c =
    let session = c.args.session.now in
    let same = c.as_slice-tests.ensures ∙ ap (λ (p : Plan). p.tests) c.plan-plan.ensures in
    let lookup = c.in_ok-test.ensures.lookup in
    let test = c.in_ok-test.test.now in
    let here : slice_get session.plan.tests c.args.place ≡ Some test =
    subst (λ (xs : List PlanTest). slice_get xs c.args.place ≡ Some test) same (slice_get_read c.as_slice-tests.result.now (length c.as_slice-tests.result.now) c.args.place test refl lookup.3.0 lookup.1) in
    kept_some _ _ session.plan session.plan.tests session.run.tests c.args.place test c.in-Some.kept c.shows_of.result c.new.result _ here c.in-Some.ensures
    (c.shows_of.ensures ∙ ap (λ (p : Plan). shows_of p test) c.plan-plan.ensures)
    (c.new.ensures.binary ∙ c.as_ref.ensures.binary_id) (c.new.ensures.name ∙ c.as_ref.ensures.test_name) c.new.ensures.state c.as_slice-records.ensures
