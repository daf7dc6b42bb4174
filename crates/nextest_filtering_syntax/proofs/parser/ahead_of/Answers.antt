use Rattle.std.proofs.Common.{rules}
use Rattle.nextest_filtering_syntax.proofs.Chains.{no_operator_found, operator_found}
use Rattle.nextest_filtering_syntax.proofs.Steps.{ends_whole, leads_by_joint, leads_by_union}
use Rattle.nextest_filtering_syntax.proofs.parser.ahead_of.Goals as goal

pub returns-in-Some-clause-follows : goal.returns-in-Some-clause-follows
returns-in-Some-clause-follows c =
    leads_by_joint _ _ _ _ _ _ c.in_ok-new.field-0 c.in-Some.op _ _ _ _ _ c.in_ok-operand.ensures.makes c.in_ok-conjunction.ensures.makes
    (Prim.search rules) c.in_ok-push.ensures (operator_found _ _ _ _ _ _ c.in-Some.is c.in_ok-op.ensures.finds)

pub returns-in-Some-2-clause-follows : goal.returns-in-Some-2-clause-follows
returns-in-Some-2-clause-follows c =
    leads_by_union _ _ _ _ _ _ _ _ c.in_ok-new-2.field-0 c.in-Some-2.op _ _ _ _ _ _ c.in_ok-operand.ensures.makes c.in_ok-conjunction.ensures.makes
    (no_operator_found _ _ _ _ _ _ c.in_default.is c.in_ok-op.ensures.finds) c.in_ok-expression.ensures.makes
    (Prim.search rules) c.in_ok-push-2.ensures (operator_found _ _ _ _ _ _ c.in-Some-2.is c.in_ok-op-2.ensures.finds)

pub returns-clause-follows : goal.returns-clause-follows
returns-clause-follows c =
    ends_whole _ _ _ _ _ _ _ _ _ _ _ _ c.in_ok-operand.ensures.makes c.in_ok-conjunction.ensures.makes
    (no_operator_found _ _ _ _ _ _ c.in_default.is c.in_ok-op.ensures.finds) c.in_ok-expression.ensures.makes
    c.in_ok-expression.ensures.takes (no_operator_found _ _ _ _ _ _ c.in_default-2.is c.in_ok-op-2.ensures.finds)
