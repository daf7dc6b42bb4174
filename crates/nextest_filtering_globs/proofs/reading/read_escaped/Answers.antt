use Rattle.std.proofs.Common.{length, ap, arith}
use Rattle.nextest_filtering_globs.proofs.Beginnings.{only-escaped}
use Rattle.nextest_filtering_globs.proofs.reading.read_escaped.Goals as goal

pub returns-in-None-clause-exact : goal.returns-in-None-clause-exact
returns-in-None-clause-exact c other rest h =
    let read = only-escaped c.args.inside other c.args.text.now rest h in
    omega (arith, c.in-None.ensures.cases, ap length read.2)
