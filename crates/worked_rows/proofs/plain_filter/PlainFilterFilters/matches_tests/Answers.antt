use Rattle.std.proofs.Common.{◌≡◌, Bool, Bor, List, [], ℕ, arith}
use Rattle.nextest_filtering_filters.proofs.Lists.{zip_end, zip_more_read}
use Rattle.worked_rows.specs.PlainFilters.{name_value}
use Rattle.worked_rows.proofs.plain_filter.PlainFilterFilters.matches_tests.Goals as goal

pub loop-name-preserved : goal.loop-name-preserved
loop-name-preserved c =
    let none : Bor (List ℕ) = record { ref_ptr = (0, 0); now = [] } in
    zip_more_read (λ (name : Bor (List ℕ)) (value : Bool). value ≡ name_value c.args.self.now name.now) c.args.names.now c.loop-name.values.items c.push.new.self.items c.loop-name.name-index none
    c.holds_on.result c.loop-name-test.true c.in_ok-push.ensures.items c.holds_on.ensures c.loop-name.invariant

pub returns : goal.returns
returns c =
    zip_end (λ (name : Bor (List ℕ)) (value : Bool). value ≡ name_value c.args.self.now name.now) c.args.names.now c.loop-name.values.items c.loop-name.name-index (omega arith) c.loop-name.invariant
