use Rattle.std.proofs.Common.{◌≡◌, List, get_or, take, sym, ap, ◌∙◌, arith}
use Rattle.std.proofs.lemmas.Grind.{common_steps}
use Rattle.std.specs.List.{list_any}
use Rattle.std.specs.Str.{bytes_eq}
use Rattle.nextest_config_resolution_load.proofs.NameChecks.{names_more}
use Rattle.nextest_config_resolution_load.proofs.Passing.{taken_more}
use Rattle.nextest_config_resolution_load.proofs.named.names_of.Goals as goal

pub loop-it-preserved : goal.loop-it-preserved
loop-it-preserved g c = λ name.
    let all = c.args.all.now in
    let place = c.loop-it.it-index in
    let it = c.it-item.result in
    let at : it ≡ get_or all place it = grind (arith, common_steps) in
    let name_of = g.T.Named.name_of in
    names_more name_of c.loop-it.names c.insert.new.self c.as_str.result (take place all) it c.in_ok-insert.ensures.updates (c.as_str.ensures.value ∙ c.name.ensures) c.loop-it.invariant name
    ∙ ap (λ (them : List _). list_any (λ one. bytes_eq name (name_of one)) them) (sym (taken_more all place it c.loop-it-test.true at))
