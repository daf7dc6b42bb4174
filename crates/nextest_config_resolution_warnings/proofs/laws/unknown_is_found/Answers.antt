use Rattle.nextest_config_resolution_warnings.proofs.Exact.{finds_unknown}
use Rattle.nextest_config_resolution_warnings.proofs.InOrder.{finds_in_order, finds_once}
use Rattle.nextest_config_resolution_warnings.proofs.laws.unknown_is_found.Goals as goal

pub returns : goal.returns
returns c = record { exact = finds_unknown; in_order = finds_in_order; once = finds_once }
