use Rattle.std.proofs.Common.{Some, None, ap, ◌∙◌, sym, Global}
use Rattle.json.specs.Value.{value_view}
use Rattle.serde_json.specs.Find.{get}
use Rattle.nextest_json.proofs.Places.{get_at, at_place, in_tree}
use Rattle.nextest_json.proofs.value.JsonValue.get.Goals as goal

pub of_document-requires : goal.of_document-requires
of_document-requires c = (get_at c.args.name.now (value_view c.in-Document.value.now) _ (Some c.in-Some.found) (at_place c.args.self.now c.in-Document.value c.in-Document.is) c.in-Some.ensures).0

pub returns-in-Some : goal.returns-in-Some
returns-in-Some c = c.of_document.ensures ∙ (get_at c.args.name.now (value_view c.in-Document.value.now) _ (Some c.in-Some.found) (at_place c.args.self.now c.in-Document.value c.in-Document.is) c.in-Some.ensures).1

pub returns-in-None : goal.returns-in-None
returns-in-None c = sym (get_at {A = Global} c.args.name.now (value_view c.in-Document.value.now) _ None (at_place c.args.self.now c.in-Document.value c.in-Document.is) c.in-None.ensures)

pub returns-in-Some-get : goal.returns-in-Some-get
returns-in-Some-get c = ap Some c.of_tree.ensures ∙ c.in-Some-get.ensures ∙ ap (get c.args.name.now) (in_tree c.args.self.now c.in-Tree.value c.in-Tree.is)

pub returns-in-None-get : goal.returns-in-None-get
returns-in-None-get c = c.in-None-get.ensures ∙ ap (get c.args.name.now) (in_tree c.args.self.now c.in-Tree.value c.in-Tree.is)
