use Rattle.std.proofs.Common.{◌∷◌, refl, ap, ◌∙◌}
use Rattle.nextest_filtering_filters.specs.Formula.{either}
use Rattle.nextest_filtering_filters.specs.Steps.{waiting_of}
use Rattle.nextest_filtering_filters.specs.declared.step.FormulaStep.TheVariants as step
use Rattle.nextest_filtering_filters.proofs.Building.{either_waits, made_more}
use Rattle.nextest_filtering_filters.proofs.builder.FormulaBuilder.either.Goals as goal

pub invariant_of-self-2 : goal.invariant_of-self-2
invariant_of-self-2 c =
    either_waits c.self.inside.steps.items c.push.new.self.items (waiting_of c.args.self.now) c.in_ok-push.ensures.items c.self.invariant (ap waiting_of c.self.view_is) c.requires.two

pub returns-clause-joined : goal.returns-clause-joined
returns-clause-joined c = λ right left more same.
    (made_more c.self.inside.steps.items c.push.new.self.items step.Either (right ∷ left ∷ more) (either left right ∷ more) c.in_ok-push.ensures.items c.self.invariant (ap waiting_of c.self.view_is ∙ same) refl).1
