use Rattle.nextest_run_events_slices.proofs.PanicHeads.{no_head_unnamed, no_head_unspaced, head_behind}
use Rattle.nextest_run_events_slices.proofs.heads.behind_panic_head.Goals as goal

pub returns-in_err-quoted : goal.returns-in_err-quoted
returns-in_err-quoted c =
    rw c.from_residual-in_err-quoted.ensures (no_head_unnamed c.args.text.now c.in_ok-named.named.now c.in_ok-named.ensures c.in_err-quoted.ensures)

pub returns-in_err-numbered : goal.returns-in_err-numbered
returns-in_err-numbered c =
    rw c.from_residual-in_err-numbered.ensures
    (no_head_unspaced c.args.text.now c.in_ok-named.named.now c.in_ok-named.ensures c.in_ok-quoted.quoted.now c.in_ok-quoted.ensures c.in_err-numbered.ensures)

pub returns : goal.returns
returns c =
    head_behind c.args.text.now c.in_ok-named.named.now c.in_ok-named.ensures c.in_ok-quoted.quoted.now c.in_ok-quoted.ensures c.in_ok-numbered.numbered.now
    c.behind_verb.result c.in_ok-numbered.ensures c.behind_verb.ensures
