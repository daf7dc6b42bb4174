use Rattle.std.proofs.Common.{◌∙◌, List, ℕ, IsTrue, subst, sym}
use Rattle.std.specs.Prelude.{◌↔◌}
use Rattle.std.specs.Str.{chars}
use Rattle.std.proofs.lemmas.Result.{IfOk-weaker}
use Rattle.std.proofs.lemmas.Str.{chars-IsAscii}
use Rattle.nextest_filtering_globs.specs.Glob.{Glob}
use Rattle.nextest_filtering_globs.specs.Inside.{IsBalanced}
use Rattle.nextest_filtering_globs.specs.Meaning.{Matches}
use Rattle.nextest_filtering_globs.specs.declared.token.GlobToken.{GlobToken}
use Rattle.nextest_filtering_globs.proofs.Trees.{spelled_closes}
use Rattle.nextest_filtering_globs.proofs.matcher.GlobMatcher.is_match.Goals as goal

pub is_matched-requires : goal.is_matched-requires
is_matched-requires c =
    let glob = c.self.inside.glob.now in
    subst IsBalanced (sym c.tokens-tokens.ensures.value)
    (spelled_closes 0 glob.tokens (chars glob.text) c.tokens-tokens.ensures.spelled)

pub is_matched-requires-2 : goal.is_matched-requires-2
is_matched-requires-2 c =
    let glob = c.self.inside.glob.now in
    subst IsBalanced (sym c.tokens-tokens.ensures.value)
    (spelled_closes 0 glob.tokens (chars glob.text) c.tokens-tokens.ensures.spelled)

pub returns-then-is_ascii-clause-exact : goal.returns-then-is_ascii-clause-exact
returns-then-is_ascii-clause-exact c =
    let text = c.args.text.now in
    let tokens = c.tokens-tokens.result.now in
    IfOk-weaker c.is_matched.result _ _
    (λ answer both. subst (λ (it : Glob). IsTrue answer ↔ Matches it.tokens (chars text)) c.self.view_is
    (subst (λ (them : List GlobToken). IsTrue answer ↔ Matches them (chars text)) c.tokens-tokens.ensures.value
    (subst (λ (them : List ℕ). IsTrue answer ↔ Matches tokens them) (c.as_bytes.ensures.value ∙ sym (chars-IsAscii text c.if-is_ascii.ensures.cases)) both)))
    c.is_matched.ensures
