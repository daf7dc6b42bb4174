use Rattle.std.proofs.Common.{sym}
use Rattle.json.specs.Value.{value_view}
use Rattle.serde_json.specs.Read.{of_json}
use Rattle.nextest_json.specs.Seen.{data_of}
use Rattle.nextest_json.proofs.Places.{known}
use Rattle.nextest_json.proofs.value.JsonValue.of_document.Goals as goal

pub returns : goal.returns
unfolding data_of
returns c = sym (known (of_json (value_view c.args.value.now)) c.requires)
