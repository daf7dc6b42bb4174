-- What filters say of a name, and the tests of binaries, with one more.
use Rattle.std.proofs.Common.{◌≡◌, ℕ, ◌∷◌, ◌++◌, [], List, map, Bool, ap, ◌∙◌, subst}
use Rattle.std.specs.List.{All, filter}
use Rattle.std.proofs.lemmas.List.{append-nil}
use Rattle.std.proofs.lemmas.List.Concat.{flat_map-append}
use Rattle.nextest_filtering_filters.specs.Asking.{Asking}
use Rattle.nextest_filtering_filters.specs.Meaning.{Tells}
use Rattle.nextest_filtering_filters.specs.Query as query
use Rattle.nextest_filtering_filters.proofs.Parts.{tells_one}
use Rattle.nextest_filtering_ast.specs.Tree.{Matcher}
use Rattle.test_runner_core_workspace.specs.declared.record.Binary.{Binary}
use Rattle.test_runner_core_listing.specs.Answers.{Answers, AnswerOn, HoldsOn, seen_test}
use Rattle.test_runner_core_listing.specs.Listing.{selected_in}
use Rattle.test_runner_core_listing.specs.Selected.{tests_in, tests_of_one}
use Rattle.test_runner_core_listing.specs.declared.selection.SelectedTests.{SelectedTests}

-- what filters that stayed as they were say of a name
pub said : (Member : query.Test → Matcher → Type 0) (now initial : List Asking) (binary : Binary) (chosen : Answers) (text name : List ℕ) (selected : Bool)
    → now ≡ initial → AnswerOn initial binary Member chosen → text ≡ name → Tells (All (HoldsOn text Member) now) selected → selected ≡ chosen.selects binary name
said Member now initial binary chosen text name selected same are at says =
    tells_one (All (HoldsOn name Member) initial) selected (chosen.selects binary name)
    (subst (λ (it : List ℕ). Tells (All (HoldsOn it Member) initial) selected) at (subst (λ (it : List Asking). Tells (All (HoldsOn text Member) it) selected) same says))
    (are.selects name)

-- the selected tests of one more binary
pub binary_added : (chosen : Answers) (names : List (List ℕ)) (one : SelectedTests) (initial before after : List SelectedTests)
    → before ≡ initial → one.names ≡ filter (chosen.selects one.binary.now) names → after ≡ before ++ one ∷ []
    → tests_in after ≡ tests_in initial ++ selected_in chosen one.binary.now names
binary_added chosen names one initial before after same selected adds =
    ap tests_in (adds ∙ ap (λ (some : List SelectedTests). some ++ one ∷ []) same)
    ∙ flat_map-append tests_of_one initial (one ∷ [])
    ∙ ap (λ (some : List query.Test). tests_in initial ++ some) (append-nil (tests_of_one one) ∙ ap (map (seen_test one.binary.now)) selected)
