use Rattle.std.proofs.Common.{◌≡◌, length}
use Rattle.nextest_text.specs.Parts.{lent_texts}
use Rattle.nextest_json.specs.Left.{items_left}
use Rattle.nextest_json.specs.Reading.{each, text}
use Rattle.nextest_json.proofs.Collected.{behind}
use Rattle.nextest_json.proofs.form.lent_texts.Given as goal

-- the texts that were found so far, and then what reading the rest gives, is what reading all gives
abbrev pub invariant-loop-item : goal.invariant-loop-item
invariant-loop-item l = behind (lent_texts l.found.items) (each text (length l.found.items) (items_left l.more)) ≡ each text 0 (items_left l.fn.items)

abbrev pub decreases-loop-item : goal.decreases-loop-item
decreases-loop-item l = length (items_left l.more)
