-- Which versions are the same.
use Rattle.std.specs.Prelude.{Bool, nat_eq}
use Rattle.std.specs.Cmp.{IsEquivalence, and_equiv, on_equiv, nat_eq_equiv}
use Rattle.std.specs.Cmp.Lexicographic.{pointwise, nat_list_eq_equiv}
use Rattle.std.specs.Ordering.{on, eq_of_both}
use Rattle.semver.specs.Parse.{Parts}

-- the numbers are the same, and the texts of the pre-release and of the build
abbrev pub is_same : Parts → Parts → Bool
is_same =
    eq_of_both (on (λ it. it.0) nat_eq)
    (eq_of_both (on (λ it. it.1) nat_eq)
    (eq_of_both (on (λ it. it.2) nat_eq)
    (eq_of_both (on (λ it. it.3) (pointwise nat_eq)) (on (λ it. it.4) (pointwise nat_eq)))))

-- sameness is an equivalence
pub is_same_equiv : IsEquivalence is_same
is_same_equiv =
    and_equiv (on_equiv (λ it. it.0) nat_eq_equiv)
    (and_equiv (on_equiv (λ it. it.1) nat_eq_equiv)
    (and_equiv (on_equiv (λ it. it.2) nat_eq_equiv)
    (and_equiv (on_equiv (λ it. it.3) nat_list_eq_equiv) (on_equiv (λ it. it.4) nat_list_eq_equiv))))
