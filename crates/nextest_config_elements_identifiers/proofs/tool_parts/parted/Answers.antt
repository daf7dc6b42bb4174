use Rattle.std.proofs.Common.{arith}
use Rattle.nextest_config_elements_identifiers.proofs.Division.{parted_once}
use Rattle.nextest_config_elements_identifiers.proofs.tool_parts.parted.Goals as goal

pub returns : goal.returns
returns c = parted_once c.args.text.now c.split_once.result (c.split_once.ensures.byte (omega arith) (λ text found is. is))
