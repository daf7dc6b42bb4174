use Rattle.nextest_filtering_graph.proofs.closing.fill.Goals as goal

pub close-requires-clause-rows : goal.close-requires-clause-rows
close-requires-clause-rows c = c.join_steps.ensures c.args.links.now c.join_links.ensures.rows
