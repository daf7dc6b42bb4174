use Rattle.std.proofs.Common.{◌≡◌, false, sym, ap, ◌∙◌, Option, Some, ◌&&◌, List, ℕ, get_or}
use Rattle.std.proofs.lemmas.Option.{slice_get-get_or, slice_get_past}
use Rattle.std.specs.Option.{option_map_or}
use Rattle.std.specs.Str.{bytes_eq}
use Rattle.test_runner_core_plan.specs.declared.plan.PlanTest.{PlanTest}
use Rattle.test_runner_core_session.specs.Names.{is_named}
use Rattle.test_runner_core_session.proofs.places.is_at.Goals as goal

pub returns-in-Some : goal.returns-in-Some
returns-in-Some c =
    let test = c.args.test in
    let found = c.in-Some.planned.now in
    let at = slice_get-get_or c.args.tests.now c.args.place found c.in-Some.ensures.lookup.3.0 in
    let is : get_or c.args.tests.now c.args.place found ≡ found = sym c.in-Some.ensures.lookup.1 in
    let same : c.eq.result ≡ is_named test.binary_id.now test.test_name.now found.instance =
    c.eq.ensures
    ∙ ap (λ (id : List ℕ). bytes_eq test.binary_id.now id && bytes_eq test.test_name.now c.as_ref.result.test_name.now) c.as_ref.ensures.binary_id
    ∙ ap (λ (name : List ℕ). bytes_eq test.binary_id.now found.instance.binary_id && bytes_eq test.test_name.now name) c.as_ref.ensures.test_name in
    same ∙ sym (ap (λ (o : Option PlanTest). option_map_or (λ planned. is_named test.binary_id.now test.test_name.now planned.instance) o false) (at ∙ ap (λ (t : PlanTest). Some t) is))

pub returns-in-None : goal.returns-in-None
returns-in-None c = sym (ap (λ (o : Option PlanTest). option_map_or (λ planned. is_named c.args.test.binary_id.now c.args.test.test_name.now planned.instance) o false) (slice_get_past c.args.tests.now c.args.place c.in-None.ensures.lookup.3))
