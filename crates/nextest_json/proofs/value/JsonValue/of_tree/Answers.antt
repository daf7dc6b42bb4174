use Rattle.std.proofs.Common.{refl}
use Rattle.nextest_json.specs.Seen.{data_of}
use Rattle.nextest_json.proofs.value.JsonValue.of_tree.Goals as goal

pub returns : goal.returns
unfolding data_of
returns c = refl
