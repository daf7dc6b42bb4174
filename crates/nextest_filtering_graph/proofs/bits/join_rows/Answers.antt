use Rattle.std.proofs.Common.{ℕ, ◌+◌, ◌*◌, ◌<◌, length, arith, get_or, refl, sym, get_or-set_same, get_or-set_other}
use Rattle.std.proofs.Math.ListN.{set}
use Rattle.std.specs.Prelude.{bit_or}
use Rattle.nextest_filtering_graph.proofs.Words.{rows_joined, one_more_word, sum_grows, sum_at_least}
use Rattle.nextest_filtering_graph.proofs.bits.join_rows.Goals.{then-new-old, else-new-old}
use Rattle.nextest_filtering_graph.proofs.bits.join_rows.Goals as goal

pub loop-word-preserved : goal.loop-word-preserved
loop-word-preserved c =
    let place : ℕ = c.args.from * c.args.width + c.loop-word.word in
    let old : ℕ = get_or c.loop-word.words place 0 in
    let more : ℕ = get_or c.loop-word.words (c.args.to * c.args.width + c.loop-word.word) 0 in
    let within : place < length c.loop-word.words = omega arith in
    elim c.if-new-old.branch [
      | then-new-old w ↦
          let both = one_more_word c.args.words.now c.loop-word.words (set c.loop-word.words place (bit_or old more)) c.args.width c.args.from c.args.to c.loop-word.word c.loop-word-test.true
          c.loop-word.invariant.joined c.loop-word.invariant.others
          (get_or-set_same c.loop-word.words place (bit_or old more) 0 within) (λ other apart. get_or-set_other c.loop-word.words place other (bit_or old more) 0 apart) in
          rw (w.words-is, w.is_changed-is) (record {
            joined = both.0;
            others = both.1;
            kept = λ e. cc;
            grown = λ _. sum_grows c.args.words.now c.loop-word.words place more within
                (sum_at_least c.args.words.now c.loop-word.words c.loop-word.is_changed c.loop-word.invariant.kept c.loop-word.invariant.grown) w.if-new-old.true;
          })
      | else-new-old w ↦
          let both = one_more_word c.args.words.now c.loop-word.words c.loop-word.words c.args.width c.args.from c.args.to c.loop-word.word c.loop-word-test.true
          c.loop-word.invariant.joined c.loop-word.invariant.others (sym w.if-new-old.false) (λ other apart. refl) in
          rw (w.words-is, w.is_changed-is) (record { joined = both.0; others = both.1; kept = c.loop-word.invariant.kept; grown = c.loop-word.invariant.grown })
    ]

pub returns-clause-joined : goal.returns-clause-joined
returns-clause-joined c =
    rows_joined c.args.words.now c.loop-word.words c.args.width c.args.from c.args.to
    (λ k within. c.loop-word.invariant.joined k (omega arith)) (λ place none. c.loop-word.invariant.others place (λ k less. none k (omega arith)))
