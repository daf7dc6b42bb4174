use Rattle.std.proofs.Common.{ℕ, IfSome, List, Option, ap, ◌∙◌, subst}
use Rattle.nextest_config_resolution_profiles.specs.HeldRules.{held_row}
use Rattle.nextest_config_resolution_profiles.proofs.Columns.{held_at}
use Rattle.nextest_config_resolution_profiles.proofs.RowNumbers.{held_count}
use Rattle.nextest_filtering_compiling.specs.Filtersets.{HasOnTest}
use Rattle.test_runner_core_listing.specs.Answers.{query_of, seen_test}
use Rattle.test_runner_core_plan.specs.declared.plan_settings.PlanSettings.{PlanSettings}
use Rattle.test_runner_core_planning.specs.Settled.{tests_of_binary}
use Rattle.test_runner_core_planning.specs.Tests.{HasForRow}
use Rattle.test_runner_core_planning.proofs.Settled.{settled_names}
use Rattle.test_runner_core_planning.proofs.settled_tests.settled_binary.Goals as goal

pub settings_of_each-requires-clause-counted : goal.settings_of_each-requires-clause-counted
settings_of_each-requires-clause-counted c =
    held_count HasOnTest c.args.profile.now (query_of c.args.of_binary.binary.now) c.args.of_binary.names c.in_ok-held.held c.in_ok-held.ensures

pub returns-clause-tests : goal.returns-clause-tests
returns-clause-tests c = λ of_test has.
    let profile = c.args.profile.now in
    let binary = c.args.of_binary.binary.now in
    let names = c.args.of_binary.names in
    let held = c.in_ok-held.ensures in
    let settings = c.in_ok-settings.settings.items in
    let told = settled_names of_test binary names settings (c.in_ok-settings.ensures.count ∙ c.len-2.ensures)
    (λ place name it at got. has (seen_test binary name) it
    (subst (λ (found : Option PlanSettings). IfSome found (HasForRow profile c.args.mode (held_row place c.in_ok-held.held))) got (c.in_ok-settings.ensures.settings place)
    (seen_test binary name) (held_at HasOnTest profile (query_of binary) names c.in_ok-held.held held place name at))) in
    ap (λ (id : List ℕ). tests_of_binary id names settings) (c.in_ok-new.ensures ∙ c.as_str.ensures) ∙ told

pub returns-clause-scripts : goal.returns-clause-scripts
returns-clause-scripts c = λ before has.
    let profile = c.args.profile.now in
    let binary = c.args.of_binary.binary.now in
    let names = c.args.of_binary.names in
    c.in_ok-add_scripts.ensures (query_of binary) names before c.in_ok-held.ensures
    c.len.ensures has
