use Rattle.std.proofs.Common.{◌≡◌, ℕ, List, length, Option, Some, None, ap, sym, ◌∙◌}
use Rattle.std.proofs.lemmas.Iterator.Adapters.{position_from-zero}
use Rattle.std.specs.List.{position_from}
use Rattle.std.specs.Option.{unwrap_or}
use Rattle.nextest_run_events_results.specs.declared.instance.OwnedTestInstanceId.{OwnedTestInstanceId}
use Rattle.nextest_run_events_results.specs.declared.instance.TestInstanceId.{TestInstanceId}
use Rattle.test_runner_core_session.proofs.ByName.{length_names, position_owned}
use Rattle.test_runner_core_session.specs.Names.{is_named, name_of, names}
use Rattle.test_runner_core_session.proofs.places.place_among.Goals as goal

pub returns-in-Some : goal.returns-in-Some
returns-in-Some c =
    let id = c.args.test.binary_id.now in
    let name = c.args.test.test_name.now in
    let index = c.args.index.now.keys in
    let tests = names c.args.tests.now in
    let found : Some c.in-Some.place ≡ position_from (is_named id name) 0 tests =
    c.in-Some.ensures.index ∙ position_from-zero (λ (it : TestInstanceId). is_named id name (name_of it)) index ∙ position_owned id name index 0
    ∙ ap (λ (them : List OwnedTestInstanceId). position_from (is_named id name) 0 them) c.requires in
    ap (λ (o : Option ℕ). unwrap_or o (length tests)) found

pub returns-in-None : goal.returns-in-None
returns-in-None c =
    let id = c.args.test.binary_id.now in
    let name = c.args.test.test_name.now in
    let index = c.args.index.now.keys in
    let tests = names c.args.tests.now in
    let found : None ≡ position_from (is_named id name) 0 tests =
    c.in-None.ensures.index ∙ position_from-zero (λ (it : TestInstanceId). is_named id name (name_of it)) index ∙ position_owned id name index 0
    ∙ ap (λ (them : List OwnedTestInstanceId). position_from (is_named id name) 0 them) c.requires in
    sym (length_names c.args.tests.now) ∙ ap (λ (o : Option ℕ). unwrap_or o (length tests)) found
