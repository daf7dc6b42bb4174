use Rattle.std.proofs.Common.{arith}
use Rattle.nextest_filtering_filters.specs.Asking.{AreOn, IsFor}
use Rattle.nextest_filtering_filters.proofs.Lists.{as_long, value_more, zip_end}
use Rattle.nextest_filtering_filters.proofs.part.values_on_binary.Goals as goal

pub loop-it-preserved : goal.loop-it-preserved
loop-it-preserved c = λ binary leaves all.
    value_more (IsFor binary) (AreOn binary c.args.default) leaves c.args.asked.now c.loop-it.values.items c.push.new.self.items c.loop-it.it-index c.it-item.result c.on_binary.result (omega arith) c.it-item.is
    c.in_ok-push.ensures.items (λ leaf is. (c.on_binary.ensures.values binary leaf is, c.on_binary.ensures.some)) all (c.loop-it.invariant binary leaves all)

pub returns : goal.returns
returns c = λ binary leaves all.
    zip_end (AreOn binary c.args.default) leaves c.loop-it.values.items c.loop-it.it-index (omega (arith, as_long (IsFor binary) leaves c.args.asked.now all)) (c.loop-it.invariant binary leaves all)
