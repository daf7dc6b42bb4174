use Rattle.std.proofs.Common.{Some, sym, subst}
use Rattle.std.specs.List.{AllZip}
use Rattle.nextest_filtering_filters.specs.Formula.{Gives, IsValue}
use Rattle.nextest_filtering_filters.specs.Asking.{IsFor, IsLeafValue, PartOf}
use Rattle.nextest_filtering_filters.specs.Filter.{filter_of}
use Rattle.nextest_filtering_filters.specs.Query.{binary_of, test_of}
use Rattle.nextest_filtering_filters.proofs.Parts.{on_test, some_on_test}
use Rattle.nextest_filtering_filters.proofs.part.Part.on_test.Goals as goal

pub value-requires : goal.value-requires
value-requires g c =
    let it = c.self.inside.filter.now in
    let binary = binary_of c.self.inside.binary in
    let test = test_of c.args.test.now in
    let all = c.in_ok-values_on_test.ensures.values binary it.leaves (subst (AllZip (IsFor binary) it.leaves) (sym c.as_mut_slice.ensures.value) c.self.invariant.0) in
    record { some = some_on_test binary test.name (g.G.GroupLookup.member c.args.groups.now test) c.args.default it.leaves c.values_on_test.new.values.items c.as_slice.result.now all c.as_slice.ensures.value }

pub returns-clause-value : goal.returns-clause-value
returns-clause-value g c =
    let it = c.self.inside.filter.now in
    let binary = binary_of c.self.inside.binary in
    let test = test_of c.args.test.now in
    let Member = g.G.GroupLookup.member c.args.groups.now test in
    let all = c.in_ok-values_on_test.ensures.values binary it.leaves (subst (AllZip (IsFor binary) it.leaves) (sym c.as_mut_slice.ensures.value) c.self.invariant.0) in
    subst (λ (part : PartOf). IsValue (Gives (IsLeafValue part.binary test.name Member c.args.default) (filter_of part.filter)) (Some c.one_value.result)) c.self.view_is
    (on_test it binary test.name Member c.args.default c.values_on_test.new.values.items c.as_slice.result.now c.formula.result.now all c.as_slice.ensures.value c.formula.ensures c.in_ok-value.value
    c.one_value.result c.one_value.ensures c.in_ok-value.ensures)
