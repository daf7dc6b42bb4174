use Rattle.std.specs.Arc.{arc_str_bytes}
use Rattle.std.proofs.lemmas.Str.{IsUtf8-string_bytes}
use Rattle.nextest_text.proofs.Cut.{one_more}
use Rattle.nextest_text.proofs.texts.next_span.Goals as goal

pub returns-clause-inside : goal.returns-clause-inside
returns-clause-inside c = (one_more (arc_str_bytes c.args.whole.now) c.args.start c.args.text.now c.requires.0 (IsUtf8-string_bytes c.args.whole.now.text.value) c.utf8.text c.requires.1).inside

pub returns-clause-left : goal.returns-clause-left
returns-clause-left c left at = (one_more (arc_str_bytes c.args.whole.now) c.args.start c.args.text.now left (IsUtf8-string_bytes c.args.whole.now.text.value) c.utf8.text at).next
