use Rattle.std.proofs.Common.{◌≤◌, ◌^◌, length, arith, sym, ◌∙◌, ap}
use Rattle.serde_json.specs.Read.{read}
use Rattle.test_runner_core_inputs.proofs.Bytes.{none_unless_utf8, value_of_utf8}
use Rattle.test_runner_core_inputs.proofs.inputs.document_of.Goals as goal

pub returns-in_default : goal.returns-in_default
returns-in_default c = none_unless_utf8 c.args.bytes.now c.in_default.ensures.cases.0

pub returns-in-Ok-parse : goal.returns-in-Ok-parse
returns-in-Ok-parse c =
    let within : length c.args.bytes.now ≤ 2 ^ 24 = omega arith in
    value_of_utf8 c.args.bytes.now within c.in-Ok.ensures.cases.1 ∙ ap read (sym c.in-Ok.ensures.cases.0) ∙ c.in-Ok-parse.ensures
