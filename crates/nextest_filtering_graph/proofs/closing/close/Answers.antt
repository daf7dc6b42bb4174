use Rattle.std.proofs.Common.{◌≡◌, ◌*◌, ◌^◌, ◌≤◌, ◌<◌, length, sum, get_or, Fits, w64, arith}
use Rattle.std.proofs.lemmas.List.Sums.{sum_by-le}
use Rattle.std.proofs.lemmas.Grind.{get_or_default_zero}
use Rattle.nextest_filtering_graph.proofs.closing.close.Goals as goal

pub loop-smaller : goal.loop-smaller
loop-smaller c =
    let more : sum c.loop.words < sum c.join_links.new.words = c.join_links.ensures.grown c.loop-test.true in
    let most : sum c.join_links.new.words ≤ length c.join_links.new.words * 2 ^ 64 = sum_by-le (λ n. n) (2 ^ 64) c.join_links.new.words (λ k d within. let fits : Fits w64 (get_or c.join_links.new.words k 0) = c.type_inv.words k in omega (arith, get_or_default_zero c.join_links.new.words k d within)) in
    let same : length c.join_links.new.words ≡ length c.loop.words = c.join_links.auto.words in
    omega arith
