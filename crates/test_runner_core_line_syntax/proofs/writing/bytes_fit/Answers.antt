use Rattle.std.proofs.Common.{arith}
use Rattle.test_runner_core_line_syntax.proofs.writing.bytes_fit.Goals as goal

pub returns : goal.returns
returns c = λ i. let fits = c.type_inv.bytes i in omega arith
