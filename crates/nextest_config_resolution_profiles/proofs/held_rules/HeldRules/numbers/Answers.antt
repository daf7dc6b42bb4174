use Rattle.std.proofs.Common.{◌≡◌, ◌++◌, ◌∙◌, Bool, List, [], ap, map, replicate, subst, sym}
use Rattle.nextest_config_resolution_profiles.specs.Carried.{AreCarried}
use Rattle.nextest_config_resolution_profiles.specs.HeldRules.{AreNumbers, Columns, held_row}
use Rattle.nextest_config_resolution_profiles.proofs.RowNumbers.{all_carried, given_back, none_carried}
use Rattle.nextest_config_resolution_profiles.proofs.held_rules.HeldRules.numbers.Goals as goal

pub returns : goal.returns
returns c =
    let count = c.args.count in
    let zeros : c.in_ok-numbers.numbers.items ≡ replicate count 0 = c.in_ok-numbers.ensures.items_if_clones_equal (λ y is. is) in
    let start : AreCarried [] count 1 c.as_mut_slice-so_far.result.now = subst (AreCarried [] count 1) (sym (c.as_mut_slice-so_far.ensures.value ∙ zeros)) (none_carried count) in
    let overrides : map (λ column. column.items) c.as_slice.result.now ≡ c.args.self.now.overrides = ap (map (λ column. column.items)) c.as_slice.ensures.value ∙ ap (λ (it : Columns). it.overrides) c.self.view_is in
    let scripts : map (λ column. column.items) c.as_slice-2.result.now ≡ c.args.self.now.scripts = ap (map (λ column. column.items)) c.as_slice-2.ensures.value ∙ ap (λ (it : Columns). it.scripts) c.self.view_is in
    let are = c.add_columns.ensures _ count (c.add_columns-weight.ensures [] count start) in
    let all : AreCarried (c.args.self.now.overrides ++ c.args.self.now.scripts) count c.add_columns.result c.add_columns.new.numbers
    = subst (λ (them : List (List Bool)). AreCarried them count c.add_columns.result c.add_columns.new.numbers) (cc (overrides, scripts)) are in
    let numbers = all_carried c.args.self.now count c.add_columns.result c.add_columns.new.numbers all in
    subst (AreNumbers (λ place. held_row place c.args.self.now) count) (sym (given_back c.add_columns.new.numbers c.in_ok-numbers.numbers.items c.in_ok-numbers.numbers.len (numbers.counted ∙ sym c.in_ok-numbers.ensures.len))) numbers
