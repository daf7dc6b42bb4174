use Rattle.nextest_config_elements_identifiers.proofs.ToolForm.{tool_identifier}
use Rattle.nextest_config_elements_identifiers.proofs.laws.tool_identifier.Goals as goal

pub returns : goal.returns
returns c = tool_identifier
