use Rattle.std.proofs.Common.{◌∙◌}
use Rattle.nextest_config_resolution_warnings.proofs.Rules.{has_no_items_is}
use Rattle.nextest_config_resolution_warnings.proofs.scripts.has_no_items.Goals as goal

pub returns : goal.returns
returns c = c.is_empty.ensures ∙ has_no_items_is c.args.items.now
