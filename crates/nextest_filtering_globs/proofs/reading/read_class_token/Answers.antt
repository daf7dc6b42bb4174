use Rattle.std.proofs.Common.{◌∷◌}
use Rattle.std.proofs.lemmas.Result.{err_from_is_err_and}
use Rattle.nextest_filtering_globs.specs.Signs.{opening_bracket}
use Rattle.nextest_filtering_globs.specs.Syntax.{Spells, SpellsClass}
use Rattle.nextest_filtering_globs.proofs.Beginnings.{only-class}
use Rattle.nextest_filtering_globs.proofs.Refusals.{refuses}
use Rattle.nextest_filtering_globs.proofs.reading.read_class_token.Goals as goal

pub returns-in_err-negated-clause-exact : goal.returns-in_err-negated-clause-exact
returns-in_err-negated-clause-exact c =
    let p = err_from_is_err_and c.from_residual.result c.from_residual.ensures.1 in
    rw (p.1, p.2) (refuses (λ class rest. SpellsClass class.0 class.1 c.args.text.now rest)
    (λ token rest. Spells c.args.inside token (opening_bracket ∷ c.args.text.now) rest) c.in_err-negated.field-0.0
    (λ none token rest h. let read = only-class c.args.inside token c.args.text.now rest h in none (read.0, read.1)
    rest read.3)
    c.in_err-negated.ensures.exact)
