use Rattle.std.proofs.Common.{◌≡◌, ℕ, List, ◌++◌, take, drop, length, sym, ap, subst, ◌∙◌}
use Rattle.std.proofs.Math.Seq.{take-append_seam}
use Rattle.nextest_filtering_graph.specs.Rows.{AreRows, AreReached}
use Rattle.nextest_filtering_graph.proofs.Rows.{reached}
use Rattle.nextest_filtering_graph.proofs.closing.reached_rows.Goals as goal

pub fill-requires-clause-rows : goal.fill-requires-clause-rows
fill-requires-clause-rows c =
    subst (λ (words : List ℕ). AreRows c.args.links.now c.args.width c.args.count words) (sym c.deref_mut.ensures.value) (c.in_ok-words.ensures c.args.links.now)

pub returns-clause-reached : goal.returns-clause-reached
returns-clause-reached c =
    let sized : c.in_ok-words.words.len ≡ length c.fill.new.words = sym (c.fill.auto.words ∙ c.deref_mut.ensures.len) in
    let whole : take c.in_ok-words.words.len (c.fill.new.words ++ drop (length c.fill.new.words) c.in_ok-words.words.items) ≡ c.fill.new.words
    = ap (λ (n : ℕ). take n (c.fill.new.words ++ drop (length c.fill.new.words) c.in_ok-words.words.items)) sized
    ∙ take-append_seam c.fill.new.words (drop (length c.fill.new.words) c.in_ok-words.words.items) in
    subst (λ (words : List ℕ). AreReached c.args.links.now c.args.width c.args.count words) (sym whole)
    (reached c.args.links.now c.args.width c.args.count c.fill.new.words c.requires.links c.fill.ensures.rows c.fill.ensures.closed)
