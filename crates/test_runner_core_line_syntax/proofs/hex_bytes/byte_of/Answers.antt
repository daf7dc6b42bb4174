use Rattle.test_runner_core_line_syntax.proofs.Hex.{byte_spelled, no_high, no_low}
use Rattle.test_runner_core_line_syntax.proofs.hex_bytes.byte_of.Goals as goal

pub returns-in_err-high : goal.returns-in_err-high
returns-in_err-high c = rw c.from_residual.ensures (no_high c.args.high c.args.low c.in_err-high.ensures)

pub returns-in_err-low : goal.returns-in_err-low
returns-in_err-low c = rw c.from_residual-in_err-low.ensures (no_low c.args.high c.args.low c.in_err-low.ensures)

pub returns : goal.returns
returns c =
    let high = c.in_ok-high.ensures in
    let low = c.in_ok-low.ensures in
    byte_spelled c.args.high c.args.low c.in_ok-high.high c.in_ok-low.low high.0 low.0 high.1 low.1
