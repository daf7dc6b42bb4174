use Rattle.std.proofs.Common.{◌≡◌, List, [], ◌∷◌, ◌++◌, map, sym, ap, ◌∙◌, subst, append_assoc, append-nil, string_bytes}
use Rattle.nextest_config_elements_toml.specs.Reading.{Path}
use Rattle.nextest_config_resolution_tree.specs.declared.merging.Waiting.{Waiting}
use Rattle.nextest_config_resolution_tree.specs.Ends.{End, along, ends}
use Rattle.nextest_config_resolution_tree.specs.Gathered.{merged_layers}
use Rattle.nextest_config_resolution_tree.specs.Waiting.{AllSorted, waiting_ends}
use Rattle.nextest_config_resolution_tree.proofs.Ends.{EachSorted, added, each_more, members_sorted}
use Rattle.nextest_config_resolution_tree.proofs.Gathered.{Entry}
use Rattle.nextest_config_resolution_tree.proofs.Rising.{entries_rise}
use Rattle.nextest_config_resolution_tree.proofs.Waiting.{ends_more, sorted_less}
use Rattle.nextest_config_resolution_tree.proofs.merging.push_members.Goals as goal

pub loop-key-preserved : goal.loop-key-preserved
loop-key-preserved c =
    let done = c.loop-key.invariant.0 in
    let entry : Entry = (c.in-Some.key, c.in-Some.layers) in
    let left : List Entry = c.next.new.self in
    let all : c.args.members.entries ≡ done ++ entry ∷ left = c.loop-key.invariant.1 ∙ ap (λ (it : List Entry). done ++ it) c.in-Some.ensures.steps in
    let before : List Waiting = c.loop-key.waiting.items in
    let last : Waiting = record { path = c.in_ok-path.path; layers = c.in-Some.layers } in
    let these = ends (merged_layers entry.1) in (
      done ++ entry ∷ [],
      all ∙ sym (append_assoc done (entry ∷ []) left),
      ap waiting_ends c.in_ok-push.ensures.items ∙ ends_more before last
          ∙ ap (λ (way : Path). waiting_ends before ++ map (along way) these) c.in_ok-path.ensures
          ∙ ap (λ (it : List End). it ++ map (along (c.args.path.now ++ string_bytes entry.0 ∷ [])) these) c.loop-key.invariant.2
          ∙ added c.args.path.now (waiting_ends c.args.waiting.now.items) done entry,
      λ sorted.
          let (earlier, here) = sorted_less before last (subst AllSorted c.in_ok-push.ensures.items sorted) in
          let (first, each) = c.loop-key.invariant.3 earlier in
          (first, each_more done entry each here),
    )

pub returns-clause-sorted : goal.returns-clause-sorted
returns-clause-sorted c = λ sorted.
    let all = c.loop-key.invariant.1 ∙ ap (λ (it : List Entry). c.loop-key.invariant.0 ++ it) c.in-None.ensures.steps.0 ∙ append-nil c.loop-key.invariant.0 in
    let (before, each) = c.loop-key.invariant.3 sorted in
    (before, members_sorted c.args.members.entries (entries_rise c.args.members.entries c.into_iter-key-iterator.ensures.into_iter_gives.5) (subst EachSorted (sym all) each))
