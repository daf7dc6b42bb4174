-- Names that are left out, one after another.
use Rattle.std.proofs.Common.{◌≡◌, ◌≤◌, ◌<◌, ◌+◌, ℕ, Bool, true, false, not, List, [], ◌∷◌, length, map, get_or, drop, min, cond, append_assoc, ◌++◌, ap, sym, ◌∙◌, arith}
use Rattle.std.specs.List.{filter}
use Rattle.nextest_run_events_results.specs.declared.instance.OwnedTestInstanceId.{OwnedTestInstanceId}
use Rattle.test_runner_core_workspace.specs.declared.record.Binary.{Binary}
use Rattle.test_runner_core_listing.specs.Listing.{tests_of}
use Rattle.std.proofs.lemmas.List.{drop_more, drop_all, get_or-map, length-map}

-- what was told of a name
told_at : (on : List ℕ → Bool) (names : List (List ℕ)) (selected : List Bool) (i : ℕ) (truth : Bool) → selected ≡ map on names → i < length names → get_or selected i false ≡ truth
    → on (get_or names i []) ≡ truth
told_at on names selected i truth are within is = sym (get_or-map on names i [] false within) ∙ ap (λ all. get_or all i false) (sym are) ∙ is

-- a selected one isn't left out
pub passed : (on : List ℕ → Bool) (names : List (List ℕ)) (selected : List Bool) (i : ℕ) → selected ≡ map on names → i < length names → get_or selected i false ≡ true
    → filter (λ name. not (on name)) (drop i names) ≡ filter (λ name. not (on name)) (drop (i + 1) names)
passed on names selected i are within is =
    let rest = filter (λ name. not (on name)) (drop (i + 1) names) in
    ap (filter (λ name. not (on name))) (drop_more names i [] within)
    ∙ ap (λ truth. cond (not truth) (get_or names i [] ∷ rest) rest) (told_at on names selected i true are within is)

-- any other is
pub left_out : (on : List ℕ → Bool) (names : List (List ℕ)) (selected : List Bool) (i : ℕ) → selected ≡ map on names → i < length names → get_or selected i false ≡ false
    → filter (λ name. not (on name)) (drop i names) ≡ get_or names i [] ∷ filter (λ name. not (on name)) (drop (i + 1) names)
left_out on names selected i are within is =
    let rest = filter (λ name. not (on name)) (drop (i + 1) names) in
    ap (filter (λ name. not (on name))) (drop_more names i [] within)
    ∙ ap (λ truth. cond (not truth) (get_or names i [] ∷ rest) rest) (told_at on names selected i false are within is)

-- at the end
pub none_left : (on : List ℕ → Bool) (names : List (List ℕ)) (selected : List Bool) (i : ℕ) → selected ≡ map on names → min (length names) (length selected) ≤ i
    → filter (λ name. not (on name)) (drop i names) ≡ []
none_left on names selected i are past =
    let long : length selected ≡ length names = ap length are ∙ length-map names on in
    ap (filter (λ name. not (on name))) (drop_all i names (omega (arith, long, past)))

-- with one more of them
pub one_left_out : (on : List ℕ → Bool) (names : List (List ℕ)) (selected : List Bool) (binary : Binary) (i : ℕ) (id name : List ℕ) (before after all : List OwnedTestInstanceId)
    → selected ≡ map on names → i < length names → get_or selected i false ≡ false → id ≡ binary.id → name ≡ get_or names i [] → after ≡ before ++ record { binary_id = id; test_name = name } ∷ []
    → before ++ tests_of binary (filter (λ name. not (on name)) (drop i names)) ≡ all → after ++ tests_of binary (filter (λ name. not (on name)) (drop (i + 1) names)) ≡ all
one_left_out on names selected binary i id name before after all are within is same named adds so_far =
    let rest = tests_of binary (filter (λ name. not (on name)) (drop (i + 1) names)) in
    ap (λ some. some ++ rest) adds
    ∙ append_assoc before (record { binary_id = id; test_name = name } ∷ []) rest
    ∙ ap (λ it. before ++ record { binary_id = it; test_name = name } ∷ rest) same
    ∙ ap (λ it. before ++ record { binary_id = binary.id; test_name = it } ∷ rest) named
    ∙ ap (λ left. before ++ tests_of binary left) (sym (left_out on names selected i are within is))
    ∙ so_far
