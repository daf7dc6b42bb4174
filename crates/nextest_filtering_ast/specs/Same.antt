-- When two matchers are the same.
use Rattle.std.specs.Prelude.{ℕ, nat_eq, Bool, false, ◌&&◌}
use Rattle.std.specs.Bool.{beq}
use Rattle.std.specs.Cmp.{IsEquivalence, bool_eq_equiv}
use Rattle.std.specs.Cmp.Lexicographic.{pointwise, nat_list_eq_equiv}
use Rattle.std.proofs.lemmas.Cmp.{nat_eq_equiv, on_equiv, and_equiv}
use Rattle.nextest_filtering_ast.specs.declared.matcher.NameMatcher.{NameMatcher}
use Rattle.nextest_filtering_ast.specs.Tree.{Comparison, equal, contains, glob, regex, Matcher, matcher_of}

-- numbers that tell the comparisons apart
abbrev pub comparison_index : Comparison → ℕ
comparison_index equal = 0
comparison_index contains = 1
comparison_index glob = 2
comparison_index regex = 3

-- that a text was written without its sign counts, but not of a glob
abbrev pub counts_implicit : Comparison → Bool → Bool
counts_implicit equal implicit = implicit
counts_implicit contains implicit = implicit
counts_implicit glob implicit = false
counts_implicit regex implicit = implicit

-- they compare alike, with one text, and both or neither without a sign that counts
abbrev pub same_matcher : Matcher → Matcher → Bool
same_matcher a b = nat_eq (comparison_index a.comparison) (comparison_index b.comparison)
    && beq (counts_implicit a.comparison a.implicit) (counts_implicit b.comparison b.implicit) && pointwise nat_eq a.text b.text

pub same_matcher_equiv : IsEquivalence same_matcher
same_matcher_equiv =
    and_equiv (and_equiv (on_equiv (λ (m : Matcher). comparison_index m.comparison) nat_eq_equiv)
    (on_equiv (λ (m : Matcher). counts_implicit m.comparison m.implicit) bool_eq_equiv)) (on_equiv (λ (m : Matcher). m.text) nat_list_eq_equiv)

-- two values that stand for the same matcher
abbrev pub same_value : NameMatcher → NameMatcher → Bool
same_value a b = same_matcher (matcher_of a) (matcher_of b)

pub same_value_equiv : IsEquivalence same_value
same_value_equiv = on_equiv matcher_of same_matcher_equiv
