use Rattle.std.proofs.Common.{List, [], ◌∷◌, ◌++◌, ap, sym, ◌∙◌, append_assoc, map, BTreeMap, String, Global}
use Rattle.std.specs.List.{AllByRecursion}
use Rattle.toml.specs.Data.{Data}
use Rattle.toml.specs.View.{table_view}
use Rattle.toml.specs.declared.value.Value.{Value}
use Rattle.nextest_config_resolution_tree.specs.Gathered.{KeysRise, given_at, member_at, values_at}
use Rattle.nextest_config_resolution_tree.proofs.gathering.gathered.Goals as goal

abbrev Table : Type 0
Table = BTreeMap (String Global) Value

all_more : (done : List Table) (table : Table) → AllByRecursion KeysRise done → KeysRise table → AllByRecursion KeysRise (done ++ table ∷ [])
all_more [] table all here = (here, tt)
all_more (first ∷ done) table all here = (all.0, all_more done table all.1 here)

pub loop-table-preserved : goal.loop-table-preserved
loop-table-preserved c =
    let table : Table = c.in-Some.table in
    let left : List Table = c.next.new.self.rest.items in
    let all = c.in-Some.ensures.steps.0 in
    let done = c.loop-table.invariant.1.0 in (
      λ key.
          let now = given_at key c.loop-table.members.entries in
          ap (λ (given : List Data). given ++ values_at key (map table_view left)) (c.in_ok-add_table.ensures.gives key)
          ∙ append_assoc now (member_at key (table_view table)) (values_at key (map table_view left))
          ∙ ap (λ (tables : List Table). now ++ values_at key (map table_view tables)) (sym all)
          ∙ c.loop-table.invariant.0 key,
      (
        done ++ table ∷ [],
        c.loop-table.invariant.1.1 ∙ ap (λ (tables : List Table). done ++ tables) all ∙ sym (append_assoc done (table ∷ []) left),
        all_more done table c.loop-table.invariant.1.2 c.in_ok-add_table.ensures.rise,
      ),
    )
