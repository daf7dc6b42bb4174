use Rattle.std.proofs.Common.{◌++◌, ◌∙◌, Bool, List, ap, get_or, map, subst}
use Rattle.std.proofs.lemmas.List.{take_all}
use Rattle.nextest_config_resolution_profiles.specs.Carried.{AreCarried, number_with}
use Rattle.nextest_config_resolution_profiles.specs.HeldRules.{value_at}
use Rattle.nextest_config_resolution_profiles.proofs.RowNumbers.{carried_next}
use Rattle.nextest_config_resolution_profiles.proofs.held_rules.add_columns.Goals as goal

pub loop-column-preserved : goal.loop-column-preserved
loop-column-preserved c = λ before count so_far.
    let column = c.column-item.result in
    carried_next (λ it. it.items) before c.args.columns.now c.loop-column.column-index column count c.loop-column.next _ c.loop-column.numbers c.add_column.new.numbers
    c.loop-column-test.true c.column-item.is (c.loop-column.invariant before count so_far) c.next_weight-next.ensures c.add_column.ensures.count
    (λ index within. c.add_column.ensures.numbers index within ∙ ap (λ (it : List Bool). number_with c.loop-column.next (value_at index it) (get_or c.loop-column.numbers index 0)) c.as_slice.ensures.value)

pub returns : goal.returns
returns c = λ before count so_far.
    subst (λ (them : List _). AreCarried (before ++ map (λ column. column.items) them) count c.loop-column.next c.loop-column.numbers) (take_all c.loop-column.column-index c.args.columns.now c.loop-column-test.false)
    (c.loop-column.invariant before count so_far)
