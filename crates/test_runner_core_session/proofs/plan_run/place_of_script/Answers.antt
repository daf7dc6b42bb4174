use Rattle.std.proofs.Common.{◌≡◌, ℕ, List, length, Option, true, false, ap, sym, ◌∙◌}
use Rattle.std.specs.Option.{unwrap_or}
use Rattle.std.specs.Str.{bytes_eq}
use Rattle.test_runner_core_session.proofs.InOrder.{at_place}
use Rattle.test_runner_core_session.proofs.plan_run.place_of_script.Goals as goal

pub returns-then-eq : goal.returns-then-eq
returns-then-eq c =
    let scripts = c.args.scripts.now in
    let id = c.args.id.now in
    let found : bytes_eq c.index-scripts-place.result id ≡ true = ap (λ (s : List ℕ). bytes_eq s id) (sym c.as_str.ensures) ∙ sym c.eq.ensures ∙ c.if-eq.true in
    let at = at_place (λ (script : List ℕ). bytes_eq script id) scripts c.loop-place.place c.index-scripts-place.result true c.loop-place-test.true c.index-scripts-place.is found in
    ap (λ (o : Option ℕ). unwrap_or o (length scripts)) (sym at ∙ c.loop-place.invariant)

pub loop-place-preserved : goal.loop-place-preserved
loop-place-preserved c =
    let scripts = c.args.scripts.now in
    let id = c.args.id.now in
    let found : bytes_eq c.index-scripts-place.result id ≡ false = ap (λ (s : List ℕ). bytes_eq s id) (sym c.as_str.ensures) ∙ sym c.eq.ensures ∙ c.if-eq.false in
    let at = at_place (λ (script : List ℕ). bytes_eq script id) scripts c.loop-place.place c.index-scripts-place.result false c.loop-place-test.true c.index-scripts-place.is found in
    sym at ∙ c.loop-place.invariant
