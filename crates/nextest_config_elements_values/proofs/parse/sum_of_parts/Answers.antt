use Rattle.std.proofs.Common.{◌≡◌, ℕ, ◌+◌, ◌<◌, List, length, sym, subst, arith}
use Rattle.std.proofs.lemmas.Bool.Decides.{nat_tests}
use Rattle.nextest_config_elements_values.specs.Ahead.{Reads}
use Rattle.nextest_config_elements_values.proofs.Sums.{reads_start, reads_more, reads_less, nothing_reads}
use Rattle.nextest_config_elements_values.proofs.parse.sum_of_parts.Goals as goal

pub returns-in_default-clause-none : goal.returns-in_default-clause-none
returns-in_default-clause-none c = λ nanos reads.
    let some : 0 < length c.loop-rest.rest.now = grind (arith, nat_tests) in
    let split = c.loop-rest.invariant.less nanos reads in
    let start = reads_start c.loop-rest.rest.now split.0 some split.2 in
    let most = c.in_default.ensures.none start.0 start.1 in
    omega (arith, split.1, start.2, most)

pub returns-in_default-checked_add-clause-none : goal.returns-in_default-checked_add-clause-none
returns-in_default-checked_add-clause-none c = λ nanos reads.
    let split = c.loop-rest.invariant.less nanos reads in
    let left = reads_less c.loop-rest.rest.now c.in-Some.nanos split.0 c.in-Some.ensures.found split.2 in
    let most = c.in_default-checked_add.ensures in
    omega (arith, split.1, left.1, most)

pub loop-rest-preserved : goal.loop-rest-preserved
loop-rest-preserved c =
    let sums = c.in-Some-checked_add.ensures.1 in
    let rest = c.in-Some.ensures.rest in
    record {
      more = λ left reads.
          let ahead = reads_more c.loop-rest.rest.now c.in-Some.nanos left c.in-Some.ensures.found (subst (λ (text : List ℕ). Reads text left) rest reads) in
          let same : c.loop-rest.sum + (c.in-Some.nanos + left) ≡ c.in-Some-checked_add.more + left = omega (arith, sums) in
          subst (λ (n : ℕ). Reads c.args.text.now n) same (c.loop-rest.invariant.more (c.in-Some.nanos + left) ahead);
      fits = omega arith;
      less = λ nanos reads.
          let split = c.loop-rest.invariant.less nanos reads in
          let left = reads_less c.loop-rest.rest.now c.in-Some.nanos split.0 c.in-Some.ensures.found split.2 in
          (left.0, (omega (arith, sums, split.1, left.1)), subst (λ (text : List ℕ). Reads text left.0) (sym rest) left.2);
    }

pub returns-clause-found : goal.returns-clause-found
returns-clause-found c =
    let none : length c.loop-rest.rest.now ≡ 0 = grind (arith, nat_tests) in
    let same : c.loop-rest.sum + 0 ≡ c.loop-rest.sum = omega arith in
    subst (λ (n : ℕ). Reads c.args.text.now n) same (c.loop-rest.invariant.more 0 (nothing_reads c.loop-rest.rest.now none))
