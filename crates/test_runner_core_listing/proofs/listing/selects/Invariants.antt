use Rattle.std.proofs.Common.{◌≡◌, map, take}
use Rattle.nextest_text.specs.Parts.{lent_texts}
use Rattle.test_runner_core_workspace.specs.declared.record.Binary.{Binary}
use Rattle.test_runner_core_listing.specs.Answers.{Answers, AnswerOn}
use Rattle.test_runner_core_listing.proofs.listing.selects.Given as goal

-- so it is told of the names so far, by filters that stay as they were
abbrev pub invariant-loop-name : goal.invariant-loop-name
invariant-loop-name g l =
    let Member = g.G.GroupLookup.member l.groups in
    record {
      same : l.evaluators ≡ l.fn.evaluators;
      told : (binary : Binary) (chosen : Answers) → AnswerOn l.fn.evaluators binary Member chosen → l.selected.items ≡ map (chosen.selects binary) (take l.name-index (lent_texts l.names));
    }
