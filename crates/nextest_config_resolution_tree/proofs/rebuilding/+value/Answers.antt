use Rattle.std.proofs.Common.{◌≡◌, ℕ, List, map, Option, Some, None, option_map, refl, sym, ap, ◌∙◌, arith}
use Rattle.toml.specs.Data.{Data}
use Rattle.toml.specs.View.{members_view, table_view, view}
use Rattle.toml.specs.declared.value.Value.{Value}
use Rattle.nextest_config_resolution_tree.specs.Tree.{with_member}
use Rattle.nextest_config_resolution_tree.proofs.Tables.{set_entry}
use Rattle.nextest_config_resolution_tree.specs.Ends.{behind}
use Rattle.nextest_config_resolution_tree.specs.RunOf.{run_of}
use Rattle.nextest_config_resolution_tree.proofs.Rebuilt.{leaf_there, next_member, none_left, none_there, weight, weight_append, weight_behind}
use Rattle.nextest_config_resolution_tree.proofs.rebuilding.+value.Goals as goal

pub table_in-add_member-requires : goal.table_in-add_member-requires
table_in-add_member-requires t c =
    let key = c.in-Some.key.now in
    let below = run_of c.in-Some.below in
    let whole = ap weight c.in-Some.ensures.some.whole ∙ weight_append (map (behind key) below) (run_of c.in-Some.behind) in
    let deeper = weight_behind key below in
    (omega (arith, whole, deeper, c.in-Some.ensures.some.some, c.loop-key.invariant.0), tt)

pub table_in-loop-key-preserved : goal.table_in-loop-key-preserved
table_in-loop-key-preserved t c =
    let key = c.in-Some.key.now in
    let below = run_of c.in-Some.below in
    let whole = ap weight c.in-Some.ensures.some.whole ∙ weight_append (map (behind key) below) (run_of c.in-Some.behind) in (
      omega (arith, whole, c.loop-key.invariant.0),
      λ members sorted is.
          next_member members (table_view c.loop-key.table) (table_view c.add_member.new.table) (run_of c.loop-key.left) below (run_of c.in-Some.behind) key sorted
          (c.loop-key.invariant.1 members sorted is) c.in-Some.ensures.some c.in_ok-add_member.ensures,
    )

pub table_in-returns : goal.table_in-returns
table_in-returns t c = λ members sorted is.
    none_left members (table_view c.loop-key.table) (run_of c.loop-key.left) (c.loop-key.invariant.1 members sorted is) c.in_default.ensures.none

pub value_in-returns-then-is_empty : goal.value_in-returns-then-is_empty
value_in-returns-then-is_empty t c = λ found sorted is. none_there found (run_of c.args.run) (c.is_empty.ensures.0 c.if-is_empty.true) is

pub value_in-returns-in-Some : goal.value_in-returns-in-Some
value_in-returns-in-Some t c = λ found sorted is.
    let same : view c.in_ok-clone.field-0 ≡ view c.in-Some.leaf.now = c.in_ok-clone.ensures.cases in
    ap (λ (it : Data). Some it) same ∙ leaf_there found (run_of c.args.run) (view c.in-Some.leaf.now) (sym c.in-Some.ensures) is

pub add_member-returns-in_ok-insert : goal.add_member-returns-in_ok-insert
add_member-returns-in_ok-insert t c = λ value sorted is.
    let gives : Some (view c.in-Some.value) ≡ Some value = ap (option_map view) (sym c.in-Some.is) ∙ c.in_ok-value.ensures (Some value) sorted is in
    let made : view c.in-Some.value ≡ value = (let e = gives in cc) in
    ap members_view c.in_ok-insert.ensures.entries ∙ set_entry c.args.table.now.entries c.in_ok-from_str.field-0 c.in-Some.value
    ∙ ap (λ (key : List ℕ). with_member key (view c.in-Some.value) (table_view c.args.table.now)) c.in_ok-from_str.ensures.ok
    ∙ ap (λ (it : Data). with_member c.args.key.now it (table_view c.args.table.now)) made

no_value : (found : Option Value) (value : Data) → ((it : Value) → found ≡ Some it → ⊥) → option_map view found ≡ Some value → ⊥
no_value None value never is = (let e = is in cc)
no_value (Some it) value never is = never it refl

pub add_member-returns-in_default : goal.add_member-returns-in_default
add_member-returns-in_default t c = λ value sorted is. absurd (no_value c.in_ok-value.field-0 value c.in_default.not-Some (c.in_ok-value.ensures (Some value) sorted is))
