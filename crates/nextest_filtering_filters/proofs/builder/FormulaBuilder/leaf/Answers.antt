use Rattle.std.proofs.Common.{◌∷◌, refl, ap}
use Rattle.nextest_filtering_filters.specs.Formula.{leaf}
use Rattle.nextest_filtering_filters.specs.Steps.{waiting_of}
use Rattle.nextest_filtering_filters.specs.declared.step.FormulaStep.TheVariants as step
use Rattle.nextest_filtering_filters.proofs.Building.{made_more}
use Rattle.nextest_filtering_filters.proofs.builder.FormulaBuilder.leaf.Goals as goal

pub invariant_of-self-2 : goal.invariant_of-self-2
invariant_of-self-2 c =
    let waiting = waiting_of c.self.inside.steps.items in
    (made_more c.self.inside.steps.items c.push.new.self.items (step.Leaf c.args.number) waiting (leaf c.args.number ∷ waiting) c.in_ok-push.ensures.items c.self.invariant refl refl).0

pub returns-clause-added : goal.returns-clause-added
returns-clause-added c =
    let waiting = waiting_of c.args.self.now in
    (made_more c.self.inside.steps.items c.push.new.self.items (step.Leaf c.args.number) waiting (leaf c.args.number ∷ waiting) c.in_ok-push.ensures.items c.self.invariant (ap waiting_of c.self.view_is) refl).1
