use Rattle.std.proofs.Common.{map, sym, ap, ◌∙◌, rules}
use Rattle.std.proofs.lemmas.Iterator.Adapters.{YieldsList-from_vec}
use Rattle.std.proofs.lemmas.List.{map-id}
use Rattle.std.proofs.lemmas.Iterator.Consumers.{YieldsList-end, YieldsList-from_enumerate}
use Rattle.nextest_config_resolution_load.specs.Rules.{placed_at}
use Rattle.nextest_config_resolution_load.proofs.placing.placed_overrides.Goals as goal

pub returns : goal.returns
returns c =
    let start = c.into_iter-index-iterator.result in
    let listed = YieldsList-from_vec {s = start.iter} c.args.overrides (search rules) (search rules) in
    let numbered = YieldsList-from_enumerate {s = start} listed (search rules) in
    let end = YieldsList-end numbered c.loop-index.yielded c.loop-index.index-iterator c.loop-index.yielded_by c.next.result c.next.new.self c.in-None.is c.next.ensures.steps in
    c.loop-index.invariant ∙ ap (λ all. map (placed_at c.args.path.now c.args.profile.now) all) (sym (map-id c.loop-index.yielded) ∙ end.0)
