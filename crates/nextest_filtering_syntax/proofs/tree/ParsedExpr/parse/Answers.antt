use Rattle.nextest_filtering_syntax.proofs.Wholes.{parse_some, parse_none}
use Rattle.nextest_filtering_syntax.proofs.tree.ParsedExpr.parse.Goals as goal

pub returns-in-Some : goal.returns-in-Some
returns-in-Some c = parse_some _ c.in_ok-tree.field-0 _ c.in-Some.is c.in_ok-tree.ensures

pub returns-in-None : goal.returns-in-None
returns-in-None c = parse_none _ c.in_ok-tree.field-0 c.in-None.is c.in_ok-tree.ensures
