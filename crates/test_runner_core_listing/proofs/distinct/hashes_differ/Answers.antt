use Rattle.std.proofs.Common.{rules, of_calls, subst, sym}
use Rattle.std.proofs.lemmas.Fn.{always_returns_same}
use Rattle.std.specs.List.Sorted.{IsPermutation}
use Rattle.std.specs.Ordering.{is_lt, nat_cmp}
use Rattle.test_runner_core_listing.proofs.Differing.{hashed_differ, rising}
use Rattle.test_runner_core_listing.proofs.distinct.hashes_differ.Goals as goal

pub returns : goal.returns
returns c = λ names are found.
    let sorted = c.deref.result.now in
    hashed_differ c.args.hashes.items sorted names are (subst (IsPermutation c.args.hashes.items) (sym c.deref.ensures.value) c.sort_unstable.ensures.permutation)
    (rising sorted c.is_sorted_by.result (c.is_sorted_by.ensures.cases (λ a b. is_lt (nat_cmp a b)) (always_returns_same _ _ _ (λ a r f k. search (rules, of_calls)))) found)
