-- What waits, with one more behind it, and ends that were found from the last one on.
use Rattle.std.proofs.Common.{◌≡◌, List, [], ◌∷◌, ◌++◌, map, refl, sym, ap, ◌∙◌, append_assoc, append-nil}
use Rattle.std.specs.Prelude.{reverse}
use Rattle.std.proofs.lemmas.List.{map-append, reverse-append}
use Rattle.nextest_config_resolution_tree.specs.declared.entry.Entry.{Entry}
use Rattle.nextest_config_resolution_tree.specs.declared.merging.Waiting.{Waiting}
use Rattle.nextest_config_resolution_tree.specs.Ends.{End, IsSorted, along, cut, ends, ends_of}
use Rattle.nextest_config_resolution_tree.specs.Gathered.{merged_layers}
use Rattle.nextest_config_resolution_tree.specs.Waiting.{AllSorted, waiting_ends}

pub ends_more : (front : List Waiting) (last : Waiting)
    → waiting_ends (front ++ last ∷ []) ≡ waiting_ends front ++ map (along last.path) (ends (merged_layers last.layers))
ends_more [] last = append-nil (map (along last.path) (ends (merged_layers last.layers)))
ends_more (first ∷ front) last =
    let these = map (along first.path) (ends (merged_layers first.layers)) in
    ap (λ (more : List End). these ++ more) (ends_more front last)
    ∙ sym (append_assoc these (waiting_ends front) (map (along last.path) (ends (merged_layers last.layers))))

pub sorted_more : (front : List Waiting) (last : Waiting) → AllSorted front → IsSorted (merged_layers last.layers) → AllSorted (front ++ last ∷ [])
sorted_more [] last all here = (here, tt)
sorted_more (first ∷ front) last all here = (all.0, sorted_more front last all.1 here)

pub sorted_less : (front : List Waiting) (last : Waiting) → AllSorted (front ++ last ∷ []) → AllSorted front × IsSorted (merged_layers last.layers)
sorted_less [] last all = (tt, all.0)
sorted_less (first ∷ front) last all =
    let (more, here) = sorted_less front last all.1 in
    ((all.0, more), here)

-- an end that was found behind what waits
pub found_one : (waits found : List End) (end : End) → waits ++ reverse (found ++ end ∷ []) ≡ (waits ++ end ∷ []) ++ reverse found
found_one waits found end =
    ap (λ (all : List End). waits ++ all) (reverse-append found (end ∷ [])) ∙ sym (append_assoc waits (end ∷ []) (reverse found))

pub ends_reversed : (entries : List Entry) → ends_of 0 (reverse entries) ≡ reverse (ends_of 0 entries)
ends_reversed [] = refl
ends_reversed (first ∷ entries) =
    ap (ends_of 0) (reverse-append (first ∷ []) entries)
    ∙ map-append (cut 0) (reverse entries) (first ∷ [])
    ∙ ap (λ (all : List End). all ++ cut 0 first ∷ []) (ends_reversed entries)
    ∙ sym (reverse-append (cut 0 first ∷ []) (ends_of 0 entries))
