use Rattle.std.proofs.Common.{Some, None, option_map, map, ap, ◌∙◌, sym, Global}
use Rattle.json.specs.Value.{value_view}
use Rattle.serde_json.specs.View.{view}
use Rattle.nextest_json.specs.Listed.{items, list_of_items}
use Rattle.nextest_json.proofs.Places.{at_place, in_tree}
use Rattle.nextest_json.proofs.Lists.{items_at, listed_items}
use Rattle.nextest_json.proofs.value.JsonValue.items.Goals as goal

pub of_document-requires : goal.of_document-requires
of_document-requires c = (items_at (Some c.in-Some.items) (value_view c.in-Document.value.now) _ (at_place c.args.self.now c.in-Document.value c.in-Document.is) c.in-Some.ensures).0

pub returns-in-Some : goal.returns-in-Some
returns-in-Some c = c.of_document.ensures ∙ (items_at (Some c.in-Some.items) (value_view c.in-Document.value.now) _ (at_place c.args.self.now c.in-Document.value c.in-Document.is) c.in-Some.ensures).1

pub returns-in-None : goal.returns-in-None
returns-in-None c = sym (items_at {A = Global} None (value_view c.in-Document.value.now) _ (at_place c.args.self.now c.in-Document.value c.in-Document.is) c.in-None.ensures)

pub returns-in-Some-as_array : goal.returns-in-Some-as_array
returns-in-Some-as_array c =
    ap Some (c.of_trees.ensures ∙ ap (map view) c.as_slice.ensures.value ∙ sym (listed_items (map view c.in-Some-as_array.values.now.items)))
    ∙ ap (option_map list_of_items) c.in-Some-as_array.ensures
    ∙ ap items (in_tree c.args.self.now c.in-Tree.value c.in-Tree.is)

pub returns-in-None-as_array : goal.returns-in-None-as_array
returns-in-None-as_array c = ap (option_map list_of_items) c.in-None-as_array.ensures ∙ ap items (in_tree c.args.self.now c.in-Tree.value c.in-Tree.is)
