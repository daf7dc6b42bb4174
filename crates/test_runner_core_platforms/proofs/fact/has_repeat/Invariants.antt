use Rattle.std.proofs.Common.{◌≡◌, take, false, option_copied}
use Rattle.std.specs.BTreeSet.{contains_by}
use Rattle.std.specs.List.{list_any}
use Rattle.test_runner_core_platforms.specs.Facts.{is_of, has_repeat}
use Rattle.test_runner_core_platforms.proofs.Repeats.{Key, compare}
use Rattle.test_runner_core_platforms.proofs.fact.has_repeat.Given as goal

-- the keys are those of the facts so far, which don't repeat
abbrev pub invariant-loop-fact : goal.invariant-loop-fact
invariant-loop-fact l = record {
  known : (q : Key) → contains_by (compare q) l.keys ≡ list_any (is_of q.0.now (option_copied q.1)) (take l.fact-index l.facts);
  single : has_repeat (take l.fact-index l.facts) ≡ false;
}
