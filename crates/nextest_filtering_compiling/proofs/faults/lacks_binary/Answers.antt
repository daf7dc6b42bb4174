use Rattle.std.proofs.Common.{ℕ, List, ◌∙◌, length, ◌≤◌, take, ap, subst}
use Rattle.std.specs.Prelude.{All}
use Rattle.nextest_filtering_ast.specs.Meaning.{MatchesName}
use Rattle.nextest_filtering_ast.specs.Tree.{matcher_of}
use Rattle.nextest_filtering_compiling.specs.Faults.{asked_of}
use Rattle.nextest_filtering_compiling.proofs.Looked.{no_binary, none_more}
use Rattle.nextest_filtering_compiling.proofs.faults.lacks_binary.Goals as goal

pub loop-binary-preserved : goal.loop-binary-preserved
loop-binary-preserved c =
    record {
      comparison = c.is_match.ensures.comparison ∙ c.loop-binary.invariant.comparison;
      text = c.is_match.ensures.text ∙ c.loop-binary.invariant.text;
      none = none_more (asked_of c.args.part) (matcher_of c.args.matcher.now) c.loop-binary.names c.binaries-binary-items.result.now c.loop-binary.binary-index c.binary-item.result c.asked_of.result.now
          c.in_ok-is_match.field-0 c.loop-binary-test.true c.loop-binary.invariant.comparison c.loop-binary.invariant.text (c.asked_of.ensures ∙ ap (asked_of c.args.part) c.binary-item.is) c.in_ok-is_match.ensures.exact c.if-branch.false
          c.loop-binary.invariant.none;
    }

pub returns : goal.returns
returns c =
    let part : List ℕ × List ℕ → List ℕ = asked_of c.args.part in
    let m = matcher_of c.args.matcher.now in
    no_binary c.args.cx.now part m c.loop-binary.binary-index c.binaries.result.now c.is_empty.result c.binaries.ensures
    (subst (λ (l : List (List ℕ × List ℕ)). length l ≤ c.loop-binary.binary-index) c.binaries-binary-items.ensures c.loop-binary-test.false)
    (subst (λ (l : List (List ℕ × List ℕ)). All (λ it. MatchesName m (part it) → ⊥) (take c.loop-binary.binary-index l)) c.binaries-binary-items.ensures c.loop-binary.invariant.none) c.is_empty.ensures
