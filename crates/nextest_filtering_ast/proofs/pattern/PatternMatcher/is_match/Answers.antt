use Rattle.std.proofs.Common.{◌<◌, arith}
use Rattle.std.proofs.lemmas.List.Elements.{All-from_get_or}
use Rattle.nextest_filtering_ast.proofs.Looking.{found_is}
use Rattle.nextest_filtering_ast.proofs.pattern.PatternMatcher.is_match.Goals as goal

pub returns-clause-exact : goal.returns-clause-exact
returns-clause-exact c =
    let bytes = All-from_get_or (λ x. x < 256) c.args.text.now 0 (λ i less. let fits = c.type_inv.text i in omega (arith, fits)) in
    rw c.self.view_is at (found_is c.self.inside.pattern.now c.args.text.now c.self.inside.matcher c.is_match.result c.self.invariant bytes c.is_match.ensures.found)
