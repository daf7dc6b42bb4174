use Rattle.std.proofs.Common.{◌≡◌, ◌+◌, ◌<◌, ◌++◌, List, Some, length, map, ap, sym, ◌∙◌, subst, option_map}
use Rattle.std.specs.List.{list_all}
use Rattle.nextest_config_resolution_tree.specs.Ends.{End, behind, cut, ends_of, rises}
use Rattle.nextest_config_resolution_tree.specs.RunOf.{run_of}
use Rattle.nextest_config_resolution_tree.specs.Runs.{after, below, first_key}
use Rattle.nextest_config_resolution_tree.proofs.Keyed.{is_further, key_behind, key_here, key_run, rises_further, rises_rest}
use Rattle.nextest_config_resolution_tree.proofs.run.Run.split_key.Goals as goal

pub invariant_of-result : goal.invariant_of-result
invariant_of-result c =
    let run = c.args.self.now in
    let key = c.in-Some-key_at.key.now in
    let at : first_key (cut run.depth c.in-Some.first.now) ≡ Some key = sym c.key_at.ensures.key ∙ ap (option_map (λ it. it.now)) c.in-Some-key_at.is in
    let it = key_run key run.depth run.entries.now c.in-Some.first.now _ c.in-Some.ensures.cases.0 at run.rises in
    record { rises = rises_further run.depth c.parted.result.0.now key (run_of run) run.rises (key_here key (run_of run) it c.parted.ensures.front) }

pub invariant_of-result-2 : goal.invariant_of-result-2
invariant_of-result-2 c =
    let run = c.args.self.now in
    let key = c.in-Some-key_at.key.now in
    let at : first_key (cut run.depth c.in-Some.first.now) ≡ Some key = sym c.key_at.ensures.key ∙ ap (option_map (λ it. it.now)) c.in-Some-key_at.is in
    let it = key_run key run.depth run.entries.now c.in-Some.first.now _ c.in-Some.ensures.cases.0 at run.rises in
    let left : ends_of run.depth c.parted.result.1.now ≡ it.back = key_behind key (run_of run) it c.parted.ensures.back in
    record {
      rises = ap rises left ∙ rises_rest (map (behind key) (below key (run_of run))) it.back (sym (ap rises it.whole) ∙ run.rises);
    }

pub returns-clause-some : goal.returns-clause-some
returns-clause-some c =
    let run = c.args.self.now in
    let key = c.in-Some-key_at.key.now in
    let at : first_key (cut run.depth c.in-Some.first.now) ≡ Some key = sym c.key_at.ensures.key ∙ ap (option_map (λ it. it.now)) c.in-Some-key_at.is in
    let it = key_run key run.depth run.entries.now c.in-Some.first.now _ c.in-Some.ensures.cases.0 at run.rises in
    let here = is_further run.depth c.parted.result.0.now key (below key (run_of run)) (key_here key (run_of run) it c.parted.ensures.front) in
    let left : ends_of run.depth c.parted.result.1.now ≡ it.back = key_behind key (run_of run) it c.parted.ensures.back in
    record {
      whole = it.whole ∙ ap (λ (found : List End). map (behind key) found ++ it.back) (sym here) ∙ ap (λ (rest : List End). map (behind key) (ends_of (run.depth + 1) c.parted.result.0.now) ++ rest) (sym left);
      some = subst (λ (found : List End). 0 < length found) (sym here) it.some;
      later = ap (list_all (after key)) left ∙ it.later;
    }
