use Rattle.nextest_filtering_ast.proofs.Patterns.{no_pattern}
use Rattle.nextest_filtering_ast.proofs.pattern.Pattern.new.Goals as goal

pub returns-in-Err-Syntax-clause-refused : goal.returns-in-Err-Syntax-clause-refused
returns-in-Err-Syntax-clause-refused c _ = no_pattern _ _ _ _ c.in-Err-Syntax.field-0-is c.in-Err-Syntax.ensures.by_grammar c.in-Err-Syntax.ensures.kind
