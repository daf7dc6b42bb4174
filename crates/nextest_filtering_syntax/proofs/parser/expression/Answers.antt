use Rattle.std.proofs.Common.{rules, refl}
use Rattle.std.specs.Prelude.{Err}
use Rattle.std.proofs.Math.Path.{◌∙◌}
use Rattle.nextest_filtering_arguments.proofs.Spans.{suffix_in, suffix_trans}
use Rattle.nextest_filtering_syntax.proofs.Expressions.{operand_found, operand_part, read_all, read_down, read_none, read_nothing, read_on, read_shorter, stands_all}
use Rattle.nextest_filtering_syntax.proofs.Operands.{passes}
use Rattle.nextest_filtering_syntax.proofs.Places.{placed_in, stands_in}
use Rattle.nextest_filtering_syntax.proofs.Steps.{all_by, next_by}
use Rattle.nextest_filtering_syntax.proofs.parser.expression.Goals as goal

pub loop-stack-init : goal.loop-stack-init
loop-stack-init c = (Prim.search rules, refl, read_none _ _ _ _ c.new-stack.ensures)

pub predicate-requires : goal.predicate-requires
predicate-requires c = record {
  suffix =
      suffix_in _ _ _ _ c.loop-stack.invariant.1 (suffix_trans _ _ _ c.in_ok-start.ensures.descends.behind c.loop-stack.invariant.2.behind) c.requires.suffix;
}

pub returns-in_err-operand-clause-finds : goal.returns-in_err-operand-clause-finds
returns-in_err-operand-clause-finds c =
    passes _ _ _ _ _ _ _ (λ none. read_nothing _ _ _ _ _ _ _ (read_down _ _ _ _ _ _ _ _ c.loop-stack.invariant.2 c.in_ok-start.ensures.descends) none)
    (operand_found _ _ _ (Err _) c.in_ok-start.ensures.none c.in_err-operand.ensures.finds) c.from_residual-in_err-operand.ensures.1

pub ascend-requires : goal.ascend-requires
ascend-requires c =
    let part = operand_part _ _ _ c.in_ok-operand.operand c.in_ok-operand.behind c.in_ok-start.ensures.none c.in_ok-operand.ensures.finds in
    let down = suffix_trans _ _ _ c.in_ok-start.ensures.descends.behind c.loop-stack.invariant.2.behind in
    record { suffix = suffix_in _ _ _ _ (c.in_ok-operand.ensures.input ∙ c.loop-stack.invariant.1) (suffix_trans _ _ _ part.behind down) c.requires.suffix }

pub loop-stack-smaller : goal.loop-stack-smaller
loop-stack-smaller c =
    let part = operand_part _ _ _ c.in_ok-operand.operand c.in_ok-operand.behind c.in_ok-start.ensures.none c.in_ok-operand.ensures.finds in
    let leads = next_by _ _ _ _ _ _ _ c.in-Operand.ahead c.in-Operand.is c.in_ok-ahead.ensures.ascends in
    read_shorter _ _ _ _ leads.behind part.shorter c.in_ok-start.ensures.descends.behind

pub loop-stack-preserved : goal.loop-stack-preserved
loop-stack-preserved c = (
  Prim.search rules,
  c.in_ok-ahead.ensures.input ∙ (c.in_ok-operand.ensures.input ∙ c.loop-stack.invariant.1),
  read_on _ _ _ _ _ _ _ _ _ _ _ _
      (read_down _ _ _ _ _ _ _ _ c.loop-stack.invariant.2 c.in_ok-start.ensures.descends)
      (operand_part _ _ _ c.in_ok-operand.operand c.in_ok-operand.behind c.in_ok-start.ensures.none c.in_ok-operand.ensures.finds)
      (placed_in _ _ c.in_ok-operand.operand c.loop-stack.invariant.1 c.in_ok-operand.ensures.placed)
      (λ same. stands_in _ _ _ _ _ c.loop-stack.invariant.1 (c.in_ok-operand.ensures.stands same))
      (next_by _ _ _ _ _ _ _ c.in-Operand.ahead c.in-Operand.is c.in_ok-ahead.ensures.ascends),
)

pub returns-in-Done-clause-finds : goal.returns-in-Done-clause-finds
returns-in-Done-clause-finds c =
    read_all _ _ _ _ _ _ _ _ _ _ _ _
    (read_down _ _ _ _ _ _ _ _ c.loop-stack.invariant.2 c.in_ok-start.ensures.descends)
    (operand_part _ _ _ c.in_ok-operand.operand c.in_ok-operand.behind c.in_ok-start.ensures.none c.in_ok-operand.ensures.finds)
    (all_by _ _ _ _ _ _ _ c.in-Done.tree c.in-Done.end c.in-Done.is c.in_ok-ahead.ensures.ascends)

pub returns-in-Done-clause-placed : goal.returns-in-Done-clause-placed
returns-in-Done-clause-placed c =
    let down = read_down _ _ _ _ _ _ _ _ c.loop-stack.invariant.2 c.in_ok-start.ensures.descends in
    let ends = all_by _ _ _ _ _ _ _ c.in-Done.tree c.in-Done.end c.in-Done.is c.in_ok-ahead.ensures.ascends in
    ends.placed _ down.placed (placed_in _ _ c.in_ok-operand.operand c.loop-stack.invariant.1 c.in_ok-operand.ensures.placed)

pub returns-in-Done-clause-stands : goal.returns-in-Done-clause-stands
returns-in-Done-clause-stands c = λ same.
    stands_all _ _ _ _ _ _ _ _ _ _ _ _
    (read_down _ _ _ _ _ _ _ _ c.loop-stack.invariant.2 c.in_ok-start.ensures.descends)
    (operand_part _ _ _ c.in_ok-operand.operand c.in_ok-operand.behind c.in_ok-start.ensures.none c.in_ok-operand.ensures.finds)
    (λ still. stands_in _ _ _ _ _ c.loop-stack.invariant.1 (c.in_ok-operand.ensures.stands still))
    (all_by _ _ _ _ _ _ _ c.in-Done.tree c.in-Done.end c.in-Done.is c.in_ok-ahead.ensures.ascends) same
