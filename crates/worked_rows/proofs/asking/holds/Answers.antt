use Rattle.std.proofs.Common.{rules, subst, Some}
use Rattle.nextest_filtering_arguments.specs.declared.ban.FiltersetKind.TheVariants as purpose
use Rattle.nextest_filtering_filters.specs.Query.{binary_of, test_of}
use Rattle.worked_rows.proofs.asking.holds.Goals as goal

pub returns-in-Some : goal.returns-in-Some
returns-in-Some g c =
    let laws = g.met.F.Filters.laws in
    let cx = c.args.cx.now in
    let known = c.args.known_groups.now in
    let filter = c.in_ok-filter.filter in
    let default = c.in_ok-default.default in
    let test = test_of c.args.query.now in
    let sure = c.in-Some.sure in
    let read : g.F.Filters.is_parsed cx purpose.OverrideFilter known c.args.filter_text filter = search rules in
    let default_read : g.F.Filters.is_parsed cx purpose.DefaultFilter known c.args.default_text default = search rules in
    let on_binary : g.F.Filters.on_binary filter default (binary_of c.args.query.now.binary_query) (Some sure) = search rules in
    let told = laws.some_on_test filter default test (cx, purpose.OverrideFilter, known, c.args.filter_text, read) (cx, purpose.DefaultFilter, known, c.args.default_text, default_read)
    (laws.default_serves cx known c.args.default_text default default_read) (laws.override_has_no_groups cx known c.args.filter_text filter read) in
    (filter, default, read, default_read, subst (g.F.Filters.on_test filter default test) (laws.sure_of_tests filter default test sure told.0 (search rules) on_binary told.1) told.1)
