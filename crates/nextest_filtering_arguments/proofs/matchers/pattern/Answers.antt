use Rattle.std.proofs.Common.{Err, ap, ◌∙◌}
use Rattle.nextest_filtering_ast.specs.declared.pattern.PatternError.{PatternError}
use Rattle.nextest_filtering_arguments.proofs.Arguments.{pattern_found, pattern_refused, pattern_unclosed}
use Rattle.nextest_filtering_arguments.proofs.matchers.pattern.Goals as goal

pub returns-in_default-clause-finds : goal.returns-in_default-clause-finds
returns-in_default-clause-finds c = pattern_unclosed _ _ _ c.in_default.ensures.none c.in_ok-report.ensures.ok

pub returns-in-Ok-clause-finds : goal.returns-in-Ok-clause-finds
returns-in-Ok-clause-finds c =
    pattern_found _ _ _ _ _ _ _ c.in-Some.ensures.whole c.in-Some.ensures.ends c.in-Some.ensures.only c.in_ok-spelled.ensures c.as_str.ensures c.in-Ok.ensures.text c.in-Ok.ensures.read

pub returns-clause-finds : goal.returns-clause-finds
returns-clause-finds c =
    pattern_refused _ _ _ _ _ _ _ c.in-Some.ensures.whole c.in-Some.ensures.ends c.in-Some.ensures.only c.in_ok-spelled.ensures c.as_str.ensures
    (c.new.ensures.refused (c.in-Err-Syntax.is ∙ ap (λ (e : PatternError). Err e) c.in-Err-Syntax.field-0-is)) c.in_ok-report-in-Err-Syntax.ensures.ok
