use Rattle.std.proofs.Common.{◌≡◌, Option, ◌+◌, [], ◌∷◌, ◌++◌, List, arith, decimal, drop, refl, ap, ◌∙◌, string_bytes, subst}
use Rattle.std.proofs.lemmas.Grind.{common_steps}
use Rattle.std.specs.Option.{option_map, option_map_or}
use Rattle.toml.specs.Data.{Items, Members, item, member}
use Rattle.toml.specs.View.{items_view, members_view, view}
use Rattle.nextest_config_resolution_warnings.proofs.Ways.{found_further, item_first}
use Rattle.nextest_config_resolution_warnings.specs.Keys.{keys_of, place_seen}
use Rattle.nextest_config_resolution_warnings.specs.Places.{Place, place_of}
use Rattle.nextest_config_resolution_warnings.specs.Steps.{paths_below}
use Rattle.nextest_config_resolution_warnings.specs.Unknown.{unknown_in, unknown_items, unknown_members}
use Rattle.nextest_config_resolution_warnings.specs.declared.step.KeyStep.{KeyStep}
use Rattle.nextest_config_resolution_warnings.specs.declared.step.KeyStep.TheVariants.{Key, Position}
use Rattle.nextest_config_resolution_warnings.proofs.walk.+walk.Goals as goal

pub walk_items-items-preserved : goal.walk_items-items-preserved
walk_items-items-preserved t c =
    let steps = c.args.steps.now.items in
    let items = c.args.items.now.items in
    let at = c.items.position in
    let value = c.item-item.result in
    let left = items_view (drop (at + 1) items) in
    let whole = c.args.found.now ++ paths_below steps (unknown_items (place_seen c.args.place) 0 (items_view items)) in
    let pushed : c.push.new.self.items ≡ steps ++ Position at ∷ [] =
    subst (λ (l : List KeyStep). c.push.new.self.items ≡ l ++ Position at ∷ []) c.items.invariant.steps c.in_ok-push.ensures.items in
    let first : items_view (drop at items) ≡ item (view value) left =
    item_first items at value (grind (arith, common_steps)) (grind (arith, common_steps)) in
    record {
      steps = grind (arith, common_steps);
      found = found_further steps (Position at) (decimal at) c.items.found c.walk.new.found whole (unknown_in (place_seen c.args.place) (view value))
          (unknown_items (place_seen c.args.place) (at + 1) left) refl
          (subst (λ (its : Items). c.items.found ++ paths_below steps (unknown_items (place_seen c.args.place) at its) ≡ whole) first c.items.invariant.found)
          (subst (λ (l : List KeyStep). c.walk.new.found ≡ c.items.found ++ paths_below l (unknown_in (place_seen c.args.place) (view value))) pushed c.in_ok-walk.ensures.found);
    }

pub walk_table-members-preserved : goal.walk_table-members-preserved
walk_table-members-preserved t c =
    let steps = c.args.steps.now.items in
    let keys = keys_of c.args.keys in
    let key = string_bytes c.in-Some.key.now in
    let value = view c.in-Some.member.now in
    let step = Key c.as_str.result in
    let left = members_view c.next.new.self in
    let here = λ (place : Option Place). option_map_or (λ it. unknown_in it value) place ([] ∷ []) in
    let looked_up : option_map place_seen c.place_of.result ≡ place_of keys key = c.place_of.ensures ∙ ap (place_of keys) c.as_str-in-members.ensures.value in
    let whole = c.args.found.now ++ paths_below steps (unknown_members keys (members_view c.args.table.now.entries)) in
    let pushed : c.push.new.self.items ≡ steps ++ step ∷ [] =
    subst (λ (l : List KeyStep). c.push.new.self.items ≡ l ++ step ∷ []) c.members.invariant.steps c.in_ok-push.ensures.items in
    let first : members_view c.members.key-iterator ≡ member key value left = ap members_view c.in-Some.ensures.steps in
    record {
      steps = grind (arith, common_steps);
      found = found_further steps step key c.members.found c.walk_member.new.found whole (here (place_of keys key)) (unknown_members keys left) c.as_str.ensures.value
          (subst (λ (ms : Members). c.members.found ++ paths_below steps (unknown_members keys ms) ≡ whole) first c.members.invariant.found)
          (subst (λ (place : Option Place). c.walk_member.new.found ≡ c.members.found ++ paths_below (steps ++ step ∷ []) (here place)) looked_up
          (subst (λ (l : List KeyStep). c.walk_member.new.found ≡ c.members.found ++ paths_below l (here (option_map place_seen c.place_of.result))) pushed c.in_ok-walk_member.ensures.found));
    }
