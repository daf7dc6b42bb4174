use Rattle.std.proofs.Common.{◌≡◌, ap, sym, subst, ◌∙◌, List, Err, true, false}
use Rattle.std.specs.List.{list_any}
use Rattle.std.specs.List.Sorted.{IsPermutation}
use Rattle.std.proofs.lemmas.List.Sorted.{IsPermutation-trans, list_any-IsPermutation}
use Rattle.std.proofs.lemmas.Result.{err_from_is_err_and}
use Rattle.nextest_config_resolution_profiles.specs.Enabled.{AreNamesOf}
use Rattle.nextest_config_resolution_profiles.proofs.Enabling.{same_names}
use Rattle.test_runner_core_listing.specs.Listing.{asked_of}
use Rattle.test_runner_core_listing.specs.Selected.{tests_in}
use Rattle.test_runner_core_listing.specs.declared.selection.Selection.{Selection}
use Rattle.test_runner_core_plan.specs.declared.plan.PlanTest.{PlanTest}
use Rattle.test_runner_core_planning.specs.Filtering.{context_of}
use Rattle.test_runner_core_planning.specs.Checks.{has_too_many, listed_in, overflows}
use Rattle.test_runner_core_planning.specs.Plan.{lacks_memory}
use Rattle.test_runner_core_planning.proofs.Building.{any_overflows, asks_lacking, asks_nothing, asks_with, plans_found, refused_before, refused_listing, refused_tries, tries_fit, wants_settled}
use Rattle.test_runner_core_planning.proofs.Choosing.{has_each, own, wanted_answers}
use Rattle.test_runner_core_planning.proofs.build.plan_in.Goals as goal
use Rattle.test_runner_core_settings.specs.Sets.{IsEnabled}

pub returns-in_err-config-clause-builds : goal.returns-in_err-config-clause-builds
returns-in_err-config-clause-builds g c =
    let p = err_from_is_err_and c.from_residual.result c.from_residual.ensures.1 in
    let inputs = c.args.inputs.now in
    let error = c.in_err-config.field-0.0 in
    rw (p.1, p.2) (refused_before (g.L.Lister.answer c.args.lister.now) inputs error (wants_settled inputs error c.in_err-config.ensures))

pub returns-in_err-config-clause-asks : goal.returns-in_err-config-clause-asks
returns-in_err-config-clause-asks g c =
    let p = err_from_is_err_and c.from_residual.result c.from_residual.ensures.1 in
    let inputs = c.args.inputs.now in
    let error = c.in_err-config.field-0.0 in
    rw (p.1, p.2) (asks_nothing (g.L.Lister.answer c.args.lister.now) inputs error (g.L.Lister.asked c.args.lister.now) (wants_settled inputs error c.in_err-config.ensures))

pub returns-in_err-wanted-clause-builds : goal.returns-in_err-wanted-clause-builds
returns-in_err-wanted-clause-builds g c =
    let p = err_from_is_err_and c.from_residual-in_err-wanted.result c.from_residual-in_err-wanted.ensures.1 in
    rw (p.1, p.2) (refused_before (g.L.Lister.answer c.args.lister.now) c.args.inputs.now c.in_err-wanted.field-0.0 c.in_err-wanted.ensures)

pub returns-in_err-wanted-clause-asks : goal.returns-in_err-wanted-clause-asks
returns-in_err-wanted-clause-asks g c =
    let p = err_from_is_err_and c.from_residual-in_err-wanted.result c.from_residual-in_err-wanted.ensures.1 in
    rw (p.1, p.2) (asks_nothing (g.L.Lister.answer c.args.lister.now) c.args.inputs.now c.in_err-wanted.field-0.0 (g.L.Lister.asked c.args.lister.now) c.in_err-wanted.ensures)

pub returns-in_err-listed-clause-builds : goal.returns-in_err-listed-clause-builds
returns-in_err-listed-clause-builds g c =
    let p = err_from_is_err_and c.from_residual-in_err-listed.result c.from_residual-in_err-listed.ensures.1 in
    let inputs = c.args.inputs.now in
    let has = c.in_ok-wanted.ensures in
    let choice = own inputs c.in_ok-wanted.wanted has in
    let made = wanted_answers inputs c.in_ok-wanted.wanted has in
    rw (p.1, p.2) (refused_listing (g.L.Lister.answer c.args.lister.now) inputs choice made.0 c.in_err-listed.field-0.0 has.passed made.1 (c.in_err-listed.ensures.selects choice made.0 made.1))

pub returns-in_err-listed-clause-asks : goal.returns-in_err-listed-clause-asks
returns-in_err-listed-clause-asks g c =
    let p = err_from_is_err_and c.from_residual-in_err-listed.result c.from_residual-in_err-listed.ensures.1 in
    let inputs = c.args.inputs.now in
    let has = c.in_ok-wanted.ensures in
    let choice = own inputs c.in_ok-wanted.wanted has in
    let made = wanted_answers inputs c.in_ok-wanted.wanted has in
    rw (p.1, p.2) (asks_with (g.L.Lister.answer c.args.lister.now) inputs choice made.0 (lacks_memory {A = Selection} (Err c.in_err-listed.field-0.0)) (g.L.Lister.asked c.args.lister.now) (g.L.Lister.asked c.selection_by.new.lister)
    has.passed made.1 c.in_err-listed.ensures.asks)

pub returns-in_err-tests-clause-asks : goal.returns-in_err-tests-clause-asks
returns-in_err-tests-clause-asks g c =
    let p = err_from_is_err_and c.from_residual-in_err-tests.result c.from_residual-in_err-tests.ensures.1 in
    let answer = g.L.Lister.answer c.args.lister.now in
    let inputs = c.args.inputs.now in
    let old = g.L.Lister.asked c.args.lister.now in
    let new = g.L.Lister.asked c.selection_by.new.lister in
    let has = c.in_ok-wanted.ensures in
    let choice = own inputs c.in_ok-wanted.wanted has in
    let made = wanted_answers inputs c.in_ok-wanted.wanted has in
    rw (p.1, p.2) (asks_with answer inputs choice made.0 true old new has.passed made.1
    (λ other answers are. asks_lacking old (asked_of answer (listed_in inputs answers)) new (c.in_ok-listed.ensures.asks other answers are)))

pub returns-then-has_too_many-clause-builds : goal.returns-then-has_too_many-clause-builds
returns-then-has_too_many-clause-builds g c =
    let inputs = c.args.inputs.now in
    let wanted = c.in_ok-wanted.wanted in
    let has = c.in_ok-wanted.ensures in
    let choice = own inputs wanted has in
    let made = wanted_answers inputs wanted has in
    let selection = c.in_ok-listed.field-0 in
    let selects = c.in_ok-listed.ensures.selects choice made.0 made.1 in
    let tests = c.in_ok-tests.ensures.tests choice.of_test (has_each inputs wanted.run has.chooses) in
    let many : has_too_many choice.of_test (tests_in selection.tests.items) ≡ true =
    sym (any_overflows choice.of_test (tests_in selection.tests.items))
    ∙ list_any-IsPermutation (λ (test : PlanTest). overflows test.settings) _ c.in_ok-tests.field-0.tests.items tests
    ∙ ap (list_any (λ (test : PlanTest). overflows test.settings)) (sym c.as_slice.ensures.value)
    ∙ sym c.has_too_many.ensures ∙ c.if-has_too_many.true in
    refused_tries (g.L.Lister.answer c.args.lister.now) inputs
    (record { choice = choice; answers = made.0; found = record { tests = tests_in selection.tests.items; skipped = selection.skipped } }) has.passed
    (record { answers = made.1; found = selects.0 }) many

pub returns-then-has_too_many-clause-asks : goal.returns-then-has_too_many-clause-asks
returns-then-has_too_many-clause-asks g c =
    let inputs = c.args.inputs.now in
    let has = c.in_ok-wanted.ensures in
    let choice = own inputs c.in_ok-wanted.wanted has in
    let made = wanted_answers inputs c.in_ok-wanted.wanted has in
    asks_with (g.L.Lister.answer c.args.lister.now) inputs choice made.0 false (g.L.Lister.asked c.args.lister.now) (g.L.Lister.asked c.selection_by.new.lister)
    has.passed made.1 c.in_ok-listed.ensures.asks

pub returns-clause-builds : goal.returns-clause-builds
returns-clause-builds g c =
    let inputs = c.args.inputs.now in
    let wanted = c.in_ok-wanted.wanted in
    let has = c.in_ok-wanted.ensures in
    let choice = own inputs wanted has in
    let made = wanted_answers inputs wanted has in
    let selection = c.in_ok-listed.field-0 in
    let selects = c.in_ok-listed.ensures.selects choice made.0 made.1 in
    let tests = c.in_ok-tests.ensures.tests choice.of_test (has_each inputs wanted.run has.chooses) in
    let few : has_too_many choice.of_test (tests_in selection.tests.items) ≡ false =
    sym (any_overflows choice.of_test (tests_in selection.tests.items))
    ∙ list_any-IsPermutation (λ (test : PlanTest). overflows test.settings) _ c.in_ok-tests.field-0.tests.items tests
    ∙ ap (list_any (λ (test : PlanTest). overflows test.settings)) (sym c.as_slice.ensures.value)
    ∙ sym c.has_too_many.ensures ∙ c.if-has_too_many.false in
    let plan = c.plan_of.ensures in (
      record { choice = choice; answers = made.0; found = record { tests = tests_in selection.tests.items; skipped = selection.skipped } },
      plans_found (g.L.Lister.answer c.args.lister.now) inputs
          (record { choice = choice; answers = made.0; found = record { tests = tests_in selection.tests.items; skipped = selection.skipped } }) has.passed
          (record { answers = made.1; found = selects.0 }) few,
      record {
        tests = IsPermutation-trans _ c.in_ok-tests.field-0.tests.items c.plan_of.result.tests
            (subst (λ (it : List PlanTest). IsPermutation it c.in_ok-tests.field-0.tests.items) (tries_fit choice.of_test (tests_in selection.tests.items) few) tests) plan.tests;
        order = plan.order;
        skipped = plan.skipped;
        listed = plan.listed ∙ selects.1;
        limit = plan.limit;
        levels = plan.levels;
        scripts = subst (AreNamesOf (IsEnabled (context_of inputs.workspace) inputs (tests_in selection.tests.items))) (sym plan.scripts)
            (same_names c.in_ok-tests.field-0.scripts (has.chooses.answers.enabled (tests_in selection.tests.items)) c.in_ok-tests.ensures.scripts);
        warnings = plan.warnings ∙ c.in_ok-config.ensures.1;
      },
    )

pub returns-clause-asks : goal.returns-clause-asks
returns-clause-asks g c =
    let inputs = c.args.inputs.now in
    let has = c.in_ok-wanted.ensures in
    let choice = own inputs c.in_ok-wanted.wanted has in
    let made = wanted_answers inputs c.in_ok-wanted.wanted has in
    asks_with (g.L.Lister.answer c.args.lister.now) inputs choice made.0 false (g.L.Lister.asked c.args.lister.now) (g.L.Lister.asked c.selection_by.new.lister)
    has.passed made.1 c.in_ok-listed.ensures.asks
