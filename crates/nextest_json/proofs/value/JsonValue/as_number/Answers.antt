use Rattle.std.proofs.Common.{option_map, option_and_then, ap, ◌∙◌}
use Rattle.serde_json.specs.Find.{as_number}
use Rattle.serde_json.specs.Read.{number_of}
use Rattle.serde_json.specs.View.{number_view}
use Rattle.nextest_json.proofs.Shapes.{as_number_read}
use Rattle.nextest_json.proofs.Places.{at_place, in_tree, copied_view}
use Rattle.nextest_json.proofs.value.JsonValue.as_number.Goals as goal

pub returns-in-Some : goal.returns-in-Some
returns-in-Some c =
    c.number_in.ensures
    ∙ ap (option_and_then number_of) c.in-Some.ensures
    ∙ as_number_read _ _ (at_place c.args.self.now c.in-Document.value c.in-Document.is)

pub returns-in-None : goal.returns-in-None
returns-in-None c = ap (option_and_then number_of) c.in-None.ensures ∙ as_number_read _ _ (at_place c.args.self.now c.in-Document.value c.in-Document.is)

pub returns-in-Tree : goal.returns-in-Tree
returns-in-Tree c =
    ap (option_map number_view) c.copied.ensures ∙ copied_view c.as_number-in-Tree.result ∙ c.as_number-in-Tree.ensures ∙ ap as_number (in_tree c.args.self.now c.in-Tree.value c.in-Tree.is)
