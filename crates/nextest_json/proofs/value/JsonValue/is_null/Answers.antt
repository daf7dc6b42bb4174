use Rattle.std.proofs.Common.{ap, ◌∙◌}
use Rattle.nextest_json.proofs.Shapes.{is_null, is_null_read}
use Rattle.nextest_json.proofs.Places.{at_place, in_tree}
use Rattle.nextest_json.proofs.value.JsonValue.is_null.Goals as goal

pub returns-in-Document : goal.returns-in-Document
returns-in-Document c = c.is_null.ensures ∙ is_null_read _ _ (at_place c.args.self.now c.in-Document.value c.in-Document.is)

pub returns-in-Tree : goal.returns-in-Tree
returns-in-Tree c = c.is_null-in-Tree.ensures ∙ ap is_null (in_tree c.args.self.now c.in-Tree.value c.in-Tree.is)
