use Rattle.std.proofs.Common.{◌≡◌, ℕ, ◌<◌, false, length, get_or, take, drop, sym, ap, ◌∙◌, arith}
use Rattle.nextest_config_elements_values.specs.Class.{is_of}
use Rattle.nextest_config_elements_values.proofs.Fronts.{ends_at, whole_run}
use Rattle.nextest_config_elements_values.proofs.runs.split_run.Goals as goal

pub returns-then-not-is_of-clause-run : goal.returns-then-not-is_of-clause-run
returns-then-not-is_of-clause-run c =
    let within : c.loop-index.index < length c.args.text.now = omega arith in
    let fails : is_of c.args.class (get_or c.args.text.now c.loop-index.index 0) ≡ false = sym c.is_of.ensures ∙ c.if-not-is_of.true in
    let end = ends_at (is_of c.args.class) c.args.text.now c.loop-index.index within c.loop-index.invariant fails in
    c.split_at.ensures.front ∙ ap (λ (n : ℕ). take n c.args.text.now) (sym end)

pub returns-then-not-is_of-clause-rest : goal.returns-then-not-is_of-clause-rest
returns-then-not-is_of-clause-rest c =
    let within : c.loop-index.index < length c.args.text.now = omega arith in
    let fails : is_of c.args.class (get_or c.args.text.now c.loop-index.index 0) ≡ false = sym c.is_of.ensures ∙ c.if-not-is_of.true in
    let end = ends_at (is_of c.args.class) c.args.text.now c.loop-index.index within c.loop-index.invariant fails in
    c.split_at.ensures.back ∙ ap (λ (n : ℕ). drop n c.args.text.now) (sym end)

pub returns-clause-run : goal.returns-clause-run
returns-clause-run c = (whole_run (is_of c.args.class) c.args.text.now (λ k below. c.loop-index.invariant k (omega arith))).0

pub returns-clause-rest : goal.returns-clause-rest
returns-clause-rest c = (whole_run (is_of c.args.class) c.args.text.now (λ k below. c.loop-index.invariant k (omega arith))).1
