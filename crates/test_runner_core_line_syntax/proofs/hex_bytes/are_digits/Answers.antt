use Rattle.std.proofs.Common.{arith}
use Rattle.std.proofs.lemmas.List.{take_all}
use Rattle.test_runner_core_line_syntax.proofs.Hex.{digits_more}
use Rattle.test_runner_core_line_syntax.proofs.hex_bytes.are_digits.Goals as goal

pub loop-byte-preserved : goal.loop-byte-preserved
loop-byte-preserved c =
    digits_more c.args.bytes.now c.loop-byte.byte-index c.loop-byte.so_far c.is_digit-so_far.result (omega (arith, c.loop-byte-test.true)) c.loop-byte.invariant c.is_digit-so_far.ensures

pub returns : goal.returns
returns c =
    let whole = take_all c.loop-byte.byte-index c.args.bytes.now (omega (arith, c.loop-byte-test.false, c.loop-byte.auto)) in
    rw whole at c.loop-byte.invariant
