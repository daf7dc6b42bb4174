use Rattle.nextest_run_events_slices.proofs.PanicHeads.{verb_plain, no_number, verb_numbered}
use Rattle.nextest_run_events_slices.proofs.heads.behind_verb.Goals as goal

pub returns-in_default : goal.returns-in_default
returns-in_default c = verb_plain c.args.text.now c.behind-in_default.result c.in_default.ensures c.behind-in_default.ensures

pub returns-in_err-verb : goal.returns-in_err-verb
returns-in_err-verb c = rw c.from_residual.ensures (no_number c.args.text.now c.in-Some.numbered.now c.in-Some.ensures c.in_err-verb.ensures)

pub returns : goal.returns
returns c =
    verb_numbered c.args.text.now c.in-Some.numbered.now c.in_ok-verb.verb.now c.behind-2.result c.in-Some.ensures c.in_ok-verb.ensures c.behind-2.ensures
