use Rattle.std.proofs.Common.{◌≡◌, ◌≤◌, Some, None, length, sym}
use Rattle.std.proofs.lemmas.List.Elements.{All-nil}
use Rattle.nextest_config_resolution_settings.proofs.Searching.{nearest_at, none_more, none_all}
use Rattle.nextest_config_resolution_settings.proofs.layers.nearest.Goals as goal

pub loop-place-init : goal.loop-place-init
loop-place-init g c = All-nil (λ layer. g.L.Sets.value layer ≡ None)

pub returns-in-Some-clause-found : goal.returns-in-Some-clause-found
returns-in-Some-clause-found g c =
    let sets : g.L.Sets.value c.index-layers-place.result.now ≡ Some c.in-Some.value.now = sym c.in-Some.ensures in
    nearest_at g.L.Sets.value c.args.layers.now c.loop-place.place c.index-layers-place.result c.in-Some.value.now
    c.loop-place-test.true c.index-layers-place.is c.loop-place.invariant sets

pub loop-place-preserved : goal.loop-place-preserved
loop-place-preserved g c =
    let sets : g.L.Sets.value c.index-layers-place.result.now ≡ None = sym c.in_default.ensures in
    none_more g.L.Sets.value c.args.layers.now c.loop-place.place c.index-layers-place.result
    c.loop-place-test.true c.index-layers-place.is c.loop-place.invariant sets

pub returns-clause-none : goal.returns-clause-none
returns-clause-none g c =
    let over : length c.args.layers.now ≤ c.loop-place.place = c.loop-place-test.false in
    none_all g.L.Sets.value c.args.layers.now c.loop-place.place over c.loop-place.invariant
