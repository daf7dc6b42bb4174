use Rattle.std.proofs.Common.{ap, ◌∙◌}
use Rattle.serde_json.specs.Find.{as_bool}
use Rattle.nextest_json.proofs.Shapes.{as_bool_read}
use Rattle.nextest_json.proofs.Places.{at_place, in_tree}
use Rattle.nextest_json.proofs.value.JsonValue.as_bool.Goals as goal

pub returns-in-Document : goal.returns-in-Document
returns-in-Document c = c.as_bool.ensures ∙ as_bool_read _ _ (at_place c.args.self.now c.in-Document.value c.in-Document.is)

pub returns-in-Tree : goal.returns-in-Tree
returns-in-Tree c = c.as_bool-in-Tree.ensures ∙ ap as_bool (in_tree c.args.self.now c.in-Tree.value c.in-Tree.is)
