use Rattle.std.proofs.Common.{rules, of_calls}
use Rattle.std.proofs.lemmas.List.Sorted.{IsPartitionPoint-from_clause}
use Rattle.nextest_config_resolution_tree.specs.Ends.{cut}
use Rattle.nextest_config_resolution_tree.specs.Runs.{within}
use Rattle.nextest_config_resolution_tree.specs.declared.entry.Entry.{Entry}
use Rattle.nextest_config_resolution_tree.proofs.Parting.{before_it, behind_it, parted, parting}
use Rattle.nextest_config_resolution_tree.proofs.run.parted.Goals as goal

pub returns-clause-front : goal.returns-clause-front
returns-clause-front c = λ front back whole fits fails.
    let entries = c.args.entries.now in
    let seen = cut c.args.depth in
    let test = within c.args.key.now in
    let point = IsPartitionPoint-from_clause (λ (entry : Entry). test (seen entry)) entries c.partition_point-count.result c.partition_point-count.ensures.partitioned
    (parted seen test entries front back whole fits fails) (λ a r f k. search (rules, of_calls)) in
    rw c.split_at.ensures.front (before_it seen test entries front back whole fits fails c.partition_point-count.result
    (parting seen test entries front back whole fits fails c.partition_point-count.result c.partition_point-count.ensures.bound point))

pub returns-clause-back : goal.returns-clause-back
returns-clause-back c = λ front back whole fits fails.
    let entries = c.args.entries.now in
    let seen = cut c.args.depth in
    let test = within c.args.key.now in
    let point = IsPartitionPoint-from_clause (λ (entry : Entry). test (seen entry)) entries c.partition_point-count.result c.partition_point-count.ensures.partitioned
    (parted seen test entries front back whole fits fails) (λ a r f k. search (rules, of_calls)) in
    rw c.split_at.ensures.back (behind_it seen test entries front back whole fits fails c.partition_point-count.result
    (parting seen test entries front back whole fits fails c.partition_point-count.result c.partition_point-count.ensures.bound point))
