use Rattle.std.proofs.Common.{refl, rules}
use Rattle.std.proofs.Math.Path.{◌∙◌}
use Rattle.nextest_filtering_arguments.proofs.Spans.{suffix_in}
use Rattle.nextest_filtering_syntax.proofs.Steps.{ascended_all, ascended_leads, ascended_none, ascended_once, fewer_wait, leads_by, whole_by}
use Rattle.nextest_filtering_syntax.proofs.parser.ascend.Goals as goal

pub loop-behind-init : goal.loop-behind-init
loop-behind-init c = (Prim.search rules, refl, ascended_none _ _ _ _)

pub ahead_of-requires : goal.ahead_of-requires
ahead_of-requires c = record { suffix = suffix_in _ _ _ _ c.loop-behind.invariant.1 c.loop-behind.invariant.2.behind c.requires.suffix }

pub returns-in-Operand-clause-ascends : goal.returns-in-Operand-clause-ascends
returns-in-Operand-clause-ascends c =
    ascended_leads _ _ _ _ _ _ _ _ _ _ _ c.loop-behind.invariant.2 (leads_by _ _ _ _ _ _ _ c.in-Operand.behind c.in-Operand.is c.in_ok-behind.ensures.follows)

pub returns-then-not-take_parens-clause-ascends : goal.returns-then-not-take_parens-clause-ascends
returns-then-not-take_parens-clause-ascends c =
    ascended_all _ _ _ _ _ _ _ c.in-Whole.expression _ _ _ c.loop-behind.invariant.2
    (whole_by _ _ _ _ _ _ _ c.in-Whole.expression c.in-Whole.is c.in_ok-behind.ensures.follows) (c.if-not-take_parens.ensures.no refl).1

pub close-requires : goal.close-requires
close-requires c = record { suffix = suffix_in _ _ _ _ (c.in_ok-behind.ensures.input ∙ c.loop-behind.invariant.1) c.loop-behind.invariant.2.behind c.requires.suffix }

pub loop-behind-smaller : goal.loop-behind-smaller
loop-behind-smaller c =
    fewer_wait _ _ _ _ _ _ _ _ (whole_by _ _ _ _ _ _ _ c.in-Whole.expression c.in-Whole.is c.in_ok-behind.ensures.follows) (c.take_parens.ensures.yes (Prim.search rules))

pub loop-behind-preserved : goal.loop-behind-preserved
loop-behind-preserved c = (
  Prim.search rules,
  c.in_ok-rest-in-Whole.ensures.input ∙ (c.in_ok-behind.ensures.input ∙ c.loop-behind.invariant.1),
  ascended_once _ _ _ _ _ _ _ c.in-Whole.expression _ _ _ _ _ _ _ c.loop-behind.invariant.2
      (whole_by _ _ _ _ _ _ _ c.in-Whole.expression c.in-Whole.is c.in_ok-behind.ensures.follows) (c.take_parens.ensures.yes (Prim.search rules))
      c.in_ok-rest-in-Whole.ensures.closes c.in_ok-operand-in-Whole.ensures.tree c.in_ok-operand-in-Whole.ensures.placed c.in_ok-operand-in-Whole.ensures.stands,
)
