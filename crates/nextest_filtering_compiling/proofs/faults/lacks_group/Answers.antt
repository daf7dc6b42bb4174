use Rattle.std.proofs.Common.{ℕ, List, ◌∙◌, true, refl, subst, sym, codes, length, ◌≤◌, take}
use Rattle.std.specs.Prelude.{All}
use Rattle.nextest_filtering_filters.specs.Meaning.{Tells}
use Rattle.nextest_filtering_ast.specs.Meaning.{MatchesName}
use Rattle.nextest_filtering_ast.specs.Tree.{matcher_of}
use Rattle.nextest_filtering_compiling.specs.Faults.{NoGroup}
use Rattle.nextest_filtering_filters.specs.declared.known_groups.KnownGroups.{KnownGroups}
use Rattle.nextest_filtering_compiling.proofs.Looked.{none_more, none_of_all, not_so, tells_name}
use Rattle.nextest_filtering_compiling.proofs.faults.lacks_group.Goals as goal

pub loop-name-preserved : goal.loop-name-preserved
loop-name-preserved c = record {
  comparison = c.is_match-in-loop-name.ensures.comparison ∙ c.loop-name.invariant.comparison;
  text = c.is_match-in-loop-name.ensures.text ∙ c.loop-name.invariant.text;
  none = none_more (λ (it : List ℕ). it) (matcher_of c.args.matcher.now) c.loop-name.names c.as_slice-name-items.result.now c.loop-name.name-index c.name-item.result c.as_str.result.now
      c.in_ok-is_match-2.field-0 c.loop-name-test.true c.loop-name.invariant.comparison c.loop-name.invariant.text (c.as_str.ensures ∙ c.name-item.is) c.in_ok-is_match-2.ensures.exact c.if-branch-2.false
      c.loop-name.invariant.none;
}

pub returns : goal.returns
returns c =
    let m = matcher_of c.args.matcher.now in
    subst (λ (known : KnownGroups). Tells (NoGroup known m) true) (sym c.in-Known.is) (
      (λ _. (
        not_so c.in_ok-is_match.field-0
            (tells_name m c.in_ok-names.names (codes "@global") c.in_ok-is_match.field-0 c.in_ok-names.ensures.comparison c.in_ok-names.ensures.text c.in_ok-is_match.ensures.exact)
            c.if-branch.false,
        none_of_all (λ (it : List ℕ). it) m c.in-Known.groups c.loop-name.name-index
            (subst (λ (l : List (List ℕ)). length l ≤ c.loop-name.name-index) c.as_slice-name-items.ensures c.loop-name-test.false)
            (subst (λ (l : List (List ℕ)). All (λ it. MatchesName m it → ⊥) (take c.loop-name.name-index l)) c.as_slice-name-items.ensures c.loop-name.invariant.none),
      )),
      (λ _. refl),
    )
