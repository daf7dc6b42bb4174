-- Predicates one after another, and the faults of those that may not stand.
use Rattle.std.proofs.Common.{◌≡◌, ℕ, ◌+◌, ◌<◌, List, [], ◌∷◌, ◌++◌, length, get_or, take, map, ap, sym, ◌∙◌}
use Rattle.std.proofs.lemmas.List.{take_more, map-append, append_assoc, append-nil}
use Rattle.nextest_filtering_arguments.specs.declared.ban.FiltersetKind.{FiltersetKind}
use Rattle.nextest_filtering_arguments.specs.declared.error.ParseSingleError.{ParseSingleError}
use Rattle.nextest_filtering_ast.specs.Tree.{leaf_of}
use Rattle.nextest_filtering_ast.specs.declared.leaf.ParsedLeaf.{ParsedLeaf}
use Rattle.nextest_filtering_compiling.specs.Bans.{ban_of, bans_of, fault_for, place_of}
use Rattle.nextest_filtering_compiling.specs.Leaves.{behind}
use denote.Ref.{Bor}

-- one more predicate
pub behind_more : (leaves : List (Bor ParsedLeaf)) (i : ℕ) (leaf : Bor ParsedLeaf) → i < length leaves → leaf ≡ get_or leaves i leaf
    → map behind (take (i + 1) leaves) ≡ map behind (take i leaves) ++ leaf.now ∷ []
behind_more leaves i leaf within is =
    ap (map behind) (take_more leaves i leaf within) ∙ map-append behind (take i leaves) (get_or leaves i leaf ∷ [])
    ∙ ap (λ (it : Bor ParsedLeaf). map behind (take i leaves) ++ it.now ∷ []) (sym is)

banned_push : (kind : FiltersetKind) (leaves : List ParsedLeaf) (it : ParsedLeaf)
    → bans_of kind (leaves ++ it ∷ []) ≡ bans_of kind leaves ++ fault_for kind (place_of it) (ban_of kind (leaf_of it))
banned_push kind [] it = append-nil (fault_for kind (place_of it) (ban_of kind (leaf_of it)))
banned_push kind (first ∷ leaves) it =
    ap (λ (faults : List ParseSingleError). fault_for kind (place_of first) (ban_of kind (leaf_of first)) ++ faults) (banned_push kind leaves it)
    ∙ sym (append_assoc (fault_for kind (place_of first) (ban_of kind (leaf_of first))) (bans_of kind leaves) (fault_for kind (place_of it) (ban_of kind (leaf_of it))))

-- with the fault of one more predicate
pub banned_more : (kind : FiltersetKind) (leaves : List (Bor ParsedLeaf)) (i : ℕ) (leaf : Bor ParsedLeaf) (old new : List ParseSingleError) → i < length leaves
    → leaf ≡ get_or leaves i leaf → old ≡ bans_of kind (map behind (take i leaves)) → new ≡ old ++ fault_for kind (place_of leaf.now) (ban_of kind (leaf_of leaf.now))
    → new ≡ bans_of kind (map behind (take (i + 1) leaves))
banned_more kind leaves i leaf old new within is before more =
    more ∙ ap (λ (faults : List ParseSingleError). faults ++ fault_for kind (place_of leaf.now) (ban_of kind (leaf_of leaf.now))) before
    ∙ sym (banned_push kind (map behind (take i leaves)) leaf.now) ∙ ap (bans_of kind) (sym (behind_more leaves i leaf within is))
