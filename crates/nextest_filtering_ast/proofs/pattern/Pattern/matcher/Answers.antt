use Rattle.std.proofs.Common.{ap, ◌∙◌}
use Rattle.regex.specs.Strings.{regex_pattern}
use Rattle.nextest_filtering_ast.proofs.Looking.{pattern_for}
use Rattle.nextest_filtering_ast.proofs.pattern.Pattern.matcher.Goals as goal

pub invariant_of-result : goal.invariant_of-result
invariant_of-result c =
    pattern_for c.self.inside.regex.value c.args.self.now c.in_ok-matcher.field-0 c.self.view_is c.self.invariant.0 c.self.invariant.1
    (c.in_ok-matcher.ensures.pattern ∙ ap regex_pattern c.deref.ensures)
