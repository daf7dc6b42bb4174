use Rattle.std.proofs.Common.{rules, of_calls}
use Rattle.std.proofs.lemmas.List.Sorted.{IsPartitionPoint-from_clause}
use Rattle.nextest_config_resolution_tree.specs.Ends.{cut}
use Rattle.nextest_config_resolution_tree.specs.Runs.{ahead}
use Rattle.nextest_config_resolution_tree.specs.declared.entry.Entry.{Entry}
use Rattle.nextest_config_resolution_tree.proofs.Parting.{parted, parting, behind_it}
use Rattle.nextest_config_resolution_tree.proofs.run.from_key.Goals as goal

pub returns : goal.returns
returns c = λ front back whole fits fails.
    let entries = c.args.entries.now in
    let seen = cut c.args.depth in
    let test = ahead c.args.key.now in
    let point = IsPartitionPoint-from_clause (λ (entry : Entry). test (seen entry)) entries c.partition_point-start.result c.partition_point-start.ensures.partitioned
    (parted seen test entries front back whole fits fails) (λ a r f k. search (rules, of_calls)) in
    rw c.split_at.ensures.back (behind_it seen test entries front back whole fits fails c.partition_point-start.result
    (parting seen test entries front back whole fits fails c.partition_point-start.result c.partition_point-start.ensures.bound point))
