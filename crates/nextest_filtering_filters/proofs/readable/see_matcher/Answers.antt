use Rattle.std.proofs.Common.{sym, subst}
use Rattle.nextest_filtering_ast.specs.Tree.{IsGlobText, matcher_of}
use Rattle.nextest_filtering_ast.specs.declared.matcher.NameMatcher.{NameMatcher}
use Rattle.nextest_filtering_filters.proofs.readable.see_matcher.Goals as goal

pub returns-in-Glob : goal.returns-in-Glob
returns-in-Glob c = λ is. subst (λ (m : NameMatcher). IsGlobText (matcher_of m).text) (sym c.in-Glob.is) (c.in-Glob.glob.tokens, c.tokens-spelled.ensures.spelled)
