use Rattle.std.proofs.Common.{◌∷◌, refl, ap, ◌∙◌}
use Rattle.nextest_filtering_filters.specs.Formula.{both}
use Rattle.nextest_filtering_filters.specs.Steps.{waiting_of}
use Rattle.nextest_filtering_filters.specs.declared.step.FormulaStep.TheVariants as step
use Rattle.nextest_filtering_filters.proofs.Building.{both_waits, made_more}
use Rattle.nextest_filtering_filters.proofs.builder.FormulaBuilder.both.Goals as goal

pub invariant_of-self-2 : goal.invariant_of-self-2
invariant_of-self-2 c =
    both_waits c.self.inside.steps.items c.push.new.self.items (waiting_of c.args.self.now) c.in_ok-push.ensures.items c.self.invariant (ap waiting_of c.self.view_is) c.requires.two

pub returns-clause-joined : goal.returns-clause-joined
returns-clause-joined c = λ right left more same.
    (made_more c.self.inside.steps.items c.push.new.self.items step.Both (right ∷ left ∷ more) (both left right ∷ more) c.in_ok-push.ensures.items c.self.invariant (ap waiting_of c.self.view_is ∙ same) refl).1
