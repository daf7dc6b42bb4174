use Rattle.std.proofs.Common.{ap, ◌∙◌, sym}
use Rattle.json.specs.Json as json
use Rattle.json.specs.Reads.{token_of}
use Rattle.json.specs.Value.{value_view}
use Rattle.nextest_json.specs.Documents.{whole}
use Rattle.nextest_json.proofs.Numbers.{read_in_range}
use Rattle.nextest_json.proofs.Places.{known}
use Rattle.nextest_json.proofs.Texts.{no_more, nothing_follows, unread}
use Rattle.nextest_json.proofs.document.JsonDocument.parse.Goals as goal

pub invariant_of-result : goal.invariant_of-result
invariant_of-result c = record { there = read_in_range (value_view c.in-Ok.root) ∙ sym c.if-is_in_range.ensures }

pub returns-then-is_in_range : goal.returns-then-is_in_range
unfolding whole
returns-then-is_in_range c =
    nothing_follows c.args.text.now (value_view c.in-Ok.root) c.read.new.reader (ap (json.value 127) (sym c.in_ok-reader.ensures.ok) ∙ c.in-Ok.ensures.ok)
    (no_more token_of c.next.result _ _ c.next.ensures.value (sym c.if-is_some.ensures))
    ∙ known _ (read_in_range (value_view c.in-Ok.root) ∙ sym c.if-is_in_range.ensures)

pub returns : goal.returns
returns c =
    nothing_follows c.args.text.now (value_view c.in-Ok.root) c.read.new.reader (ap (json.value 127) (sym c.in_ok-reader.ensures.ok) ∙ c.in-Ok.ensures.ok)
    (no_more token_of c.next.result _ _ c.next.ensures.value (sym c.if-is_some.ensures))
    ∙ unread _ (read_in_range (value_view c.in-Ok.root) ∙ sym c.if-is_in_range.ensures)
