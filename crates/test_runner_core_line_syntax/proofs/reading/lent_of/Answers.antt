use Rattle.std.proofs.Common.{rules, sym}
use Rattle.test_runner_core_line_syntax.proofs.Lines.{bad_line}
use Rattle.test_runner_core_line_syntax.proofs.reading.lent_of.Goals as goal

pub returns-in_default-lent_line_of :
    goal.returns-in_default-lent_line_of
returns-in_default-lent_line_of c =
    let text = c.in-Ok.ensures.cases in
    let bad = bad_line c.in-Ok.text.now c.args.bytes.now text.0 text.1 (sym c.if-is_empty.ensures) c.in_default-lent_line_of.ensures in
    search (rules, bad)
