use Rattle.std.proofs.Common.{ap, unwrap_or}
use Rattle.serde_json.specs.Data.{null}
use Rattle.nextest_json.specs.Documents.{whole}
use Rattle.nextest_json.proofs.document.JsonDocument.root.Goals as goal

pub returns : goal.returns
unfolding whole
returns c = ap (λ o. unwrap_or o null) c.of_document.ensures
