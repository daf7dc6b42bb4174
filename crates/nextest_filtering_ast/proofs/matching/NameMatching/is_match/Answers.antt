use Rattle.std.proofs.Common.{◌≡◌, ◌↔◌, true, IfOk, subst, sym}
use Rattle.std.proofs.lemmas.Str.Pattern.{contains_text}
use Rattle.nextest_filtering_ast.specs.Matching.{comparison_of, text_of}
use Rattle.nextest_filtering_ast.specs.Meaning.{Compares}
use Rattle.nextest_filtering_ast.specs.declared.matching.NameMatching.{NameMatching}
use Rattle.nextest_filtering_ast.proofs.Looking.{by_tokens_of}
use Rattle.nextest_filtering_ast.proofs.matching.NameMatching.is_match.Goals as goal

pub returns-in-Contains-clause-exact : goal.returns-in-Contains-clause-exact
returns-in-Contains-clause-exact c =
    subst (λ (it : NameMatching). (c.contains.result ≡ true) ↔ Compares (comparison_of it) (text_of it) c.args.name.now) (sym c.in-Contains.is)
    (contains_text _ c.in-Contains.text.now _ c.contains.ensures.cases)

pub returns-in-Glob-clause-exact : goal.returns-in-Glob-clause-exact
returns-in-Glob-clause-exact c =
    subst (λ (it : NameMatching). IfOk c.is_match.result (λ answer. (answer ≡ true) ↔ Compares (comparison_of it) (text_of it) c.args.name.now)) (sym c.in-Glob.is)
    (by_tokens_of c.in-Glob.glob.text c.args.name.now c.in-Glob.glob.tokens c.is_match.result c.is_match.ensures.spelled c.is_match.ensures.exact)
