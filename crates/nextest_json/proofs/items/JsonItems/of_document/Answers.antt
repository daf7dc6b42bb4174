use Rattle.std.proofs.Common.{sym}
use Rattle.nextest_json.specs.Left.{items_left}
use Rattle.nextest_json.specs.Rest.{data_of_items}
use Rattle.nextest_json.proofs.Lists.{known}
use Rattle.nextest_json.proofs.items.JsonItems.of_document.Goals as goal

pub returns : goal.returns
unfolding items_left
returns c = sym (known (data_of_items c.args.items.now) c.requires)
