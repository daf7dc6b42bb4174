use Rattle.std.proofs.Common.{ap, ◌∙◌}
use Rattle.nextest_json.proofs.Shapes.{is_object, is_object_read}
use Rattle.nextest_json.proofs.Places.{at_place, in_tree}
use Rattle.nextest_json.proofs.value.JsonValue.is_object.Goals as goal

pub returns-in-Document : goal.returns-in-Document
returns-in-Document c = c.is_object.ensures ∙ is_object_read _ _ (at_place c.args.self.now c.in-Document.value c.in-Document.is)

pub returns-in-Tree : goal.returns-in-Tree
returns-in-Tree c = c.is_object-in-Tree.ensures ∙ ap is_object (in_tree c.args.self.now c.in-Tree.value c.in-Tree.is)
