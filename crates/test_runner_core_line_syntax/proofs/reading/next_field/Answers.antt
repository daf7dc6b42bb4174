use Rattle.std.proofs.Common.{rules}
use Rattle.test_runner_core_line_syntax.proofs.Fields.{behind_tab, fields_at_tab, fields_without_tab}
use Rattle.test_runner_core_line_syntax.proofs.reading.next_field.Goals as goal

pub returns-in_err-tab : goal.returns-in_err-tab
returns-in_err-tab c =
    let none = rw c.as_bytes.ensures.value at c.in_err-tab.ensures in
    let one = fields_without_tab c.args.rest.now none in
    rw c.from_residual.ensures one

pub range_from-requires : goal.range_from-requires
range_from-requires c =
    let found = rw c.as_bytes.ensures.value at c.in_ok-tab.ensures in
    λ _. behind_tab c.args.rest.now c.in_ok-tab.tab c.utf8.rest found.0.high found.1

pub returns : goal.returns
returns c =
    let found = rw c.as_bytes.ensures.value at c.in_ok-tab.ensures in
    let parts = fields_at_tab c.args.rest.now c.in_ok-tab.tab found.0 found.1 in
    search (rules, parts)
