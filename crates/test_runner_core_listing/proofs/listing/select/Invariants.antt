use Rattle.std.proofs.Common.{◌≡◌, drop}
use Rattle.test_runner_core_workspace.specs.declared.record.Binary.{Binary}
use Rattle.test_runner_core_listing.specs.Answers.{Answers, AnswerAs, lent_compiled}
use Rattle.test_runner_core_listing.specs.Listing.{listed_of}
use Rattle.test_runner_core_listing.proofs.Walk.{Walked}
use Rattle.test_runner_core_listing.proofs.listing.select.Given as goal

-- whatever the filters answer, the listed ones among the binaries so far were asked, and those of
-- the rest are ahead
abbrev pub invariant-loop-binary : goal.invariant-loop-binary
invariant-loop-binary g l =
    let answer = g.L.Lister.answer l.fn.lister in
    record {
      walked : (chosen : Answers) → AnswerAs (lent_compiled l.filters) l.ecx (g.G.GroupLookup.member l.groups) chosen → Walked answer chosen (listed_of chosen l.binaries) (listed_of chosen (drop l.binary-index l.binaries)) l.found (g.L.Lister.asked l.fn.lister) (g.L.Lister.asked l.lister);
      stays : (other : Binary) → g.L.Lister.answer l.lister other ≡ answer other;
    }
