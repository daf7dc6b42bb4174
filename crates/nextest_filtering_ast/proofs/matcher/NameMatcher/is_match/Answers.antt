use Rattle.std.proofs.Common.{◌≡◌, ◌↔◌, true, IfOk, ℕ, List, subst}
use Rattle.nextest_filtering_ast.specs.Matching.{text_of}
use Rattle.nextest_filtering_ast.specs.Meaning.{Compares}
use Rattle.nextest_filtering_ast.specs.Tree.{Comparison, matcher_of}
use Rattle.nextest_filtering_ast.proofs.matcher.NameMatcher.is_match.Goals as goal

pub returns : goal.returns
returns c =
    let m = matcher_of c.args.self.now in
    subst (λ (text : List ℕ). IfOk c.is_match.result (λ answer. (answer ≡ true) ↔ Compares m.comparison text c.args.name.now)) c.in_ok-matching.ensures.text
    (subst (λ (by : Comparison). IfOk c.is_match.result (λ answer. (answer ≡ true) ↔ Compares by (text_of c.in_ok-matching.matching) c.args.name.now)) c.in_ok-matching.ensures.comparison c.is_match.ensures.exact)
