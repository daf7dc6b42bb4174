use Rattle.std.proofs.Common.{refl}
use Rattle.nextest_json.specs.Left.{items_left}
use Rattle.nextest_json.proofs.items.JsonItems.of_trees.Goals as goal

pub returns : goal.returns
unfolding items_left
returns c = refl
