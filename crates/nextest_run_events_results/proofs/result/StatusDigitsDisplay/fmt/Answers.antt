use Rattle.std.proofs.Common.{◌<◌, ◌^◌, arith}
use Rattle.std.proofs.lemmas.Int.{ints, of_z-to_z}
use Rattle.std.specs.Int.{w32, cast_unsigned}
use Rattle.nextest_run_events_results.proofs.Hex.{padded_hex}
use Rattle.nextest_run_events_results.proofs.result.StatusDigitsDisplay.fmt.Goals as goal

pub returns-clause-writes : goal.returns-clause-writes
returns-clause-writes g c plain ok =
    let fits : cast_unsigned w32 c.args.self.now.0 < 2 ^ 32 = omega (arith, ints) in
    let hex = padded_hex (cast_unsigned w32 c.args.self.now.0) fits in
    let written = rw (c.laid_out.ensures, c.in_radix.ensures, of_z-to_z w32 (cast_unsigned w32 c.args.self.now.0) fits, hex) at c.write.ensures.writes in
    written plain ok
