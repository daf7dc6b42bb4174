use Rattle.std.proofs.Common.{◌≡◌, ℕ, false, slice_get, arith, inl, inr, sym, subst, ◌∙◌}
use Rattle.std.proofs.lemmas.Bool.{cases_lt}
use Rattle.std.specs.Option.{option_map_or}
use Rattle.test_runner_core_session.proofs.ByName.{first_named, has, looked_at, none_named}
use Rattle.test_runner_core_session.proofs.places.first_place.Goals as goal

pub loop-place-init : goal.loop-place-init
loop-place-init c = λ j below. absurd (omega (arith, below))

pub returns-then-is_at : goal.returns-then-is_at
returns-then-is_at c =
    let id = c.args.test.binary_id.now in
    let name = c.args.test.test_name.now in
    let tests = c.args.tests.now in
    first_named tests id name c.loop-place.place (λ test within here j below. looked_at tests id name j test (omega (arith, below, within)) (c.loop-place.invariant j below))
    (sym c.is_at.ensures ∙ c.if-is_at.true)

pub loop-place-preserved : goal.loop-place-preserved
loop-place-preserved c = λ j below.
    elim (cases_lt j c.loop-place.place) [
      | inl before ↦ c.loop-place.invariant j before
      | inr from ↦
          let here : c.loop-place.place ≡ j = omega (arith, below, from) in
          subst (λ (n : ℕ). option_map_or (has c.args.test.binary_id.now c.args.test.test_name.now) (slice_get c.args.tests.now n) false ≡ false) here
          (sym c.is_at.ensures ∙ c.if-is_at.false)
    ]

pub returns : goal.returns
returns c =
    let id = c.args.test.binary_id.now in
    let name = c.args.test.test_name.now in
    let tests = c.args.tests.now in
    none_named tests id name (λ j d inside. looked_at tests id name j d inside (c.loop-place.invariant j (omega (arith, inside, c.loop-place-test.false))))
