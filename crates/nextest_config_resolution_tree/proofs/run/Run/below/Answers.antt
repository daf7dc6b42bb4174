use Rattle.std.proofs.Common.{rules}
use Rattle.nextest_config_resolution_tree.specs.Runs.{below}
use Rattle.nextest_config_resolution_tree.specs.RunOf.{run_of}
use Rattle.nextest_config_resolution_tree.proofs.Keyed.{deep, is_further, rises_further}
use Rattle.nextest_config_resolution_tree.proofs.run.Run.below.Goals as goal

pub overflow_add-result : goal.overflow_add-result
overflow_add-result c =
    let run = run_of c.args.self.now in
    let less = deep c.args.self.now.depth c.found-found.result.now c.in-Some.first.now _ c.args.key.now (below c.args.key.now run)
    c.in-Some.ensures.cases.0 (c.found-found.ensures c.args.self.now.rises) in
    search (rules, less)

pub invariant_of-result-2 : goal.invariant_of-result-2
invariant_of-result-2 c = record {
  rises = rises_further c.args.self.now.depth c.found-found.result.now c.args.key.now (run_of c.args.self.now) c.args.self.now.rises (c.found-found.ensures c.args.self.now.rises);
}

pub returns : goal.returns
returns c =
    is_further c.args.self.now.depth c.found-found.result.now c.args.key.now (below c.args.key.now (run_of c.args.self.now)) (c.found-found.ensures c.args.self.now.rises)
