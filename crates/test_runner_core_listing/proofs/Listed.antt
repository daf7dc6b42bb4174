-- One binary, by whether it is listed.
use Rattle.std.proofs.Common.{◌≡◌, ℕ, ◌∷◌, ◌++◌, [], List, Bool, true, false, Result, Ok, cond, ap, sym, ◌∙◌, subst}
use Rattle.std.specs.List.{All}
use Rattle.std.proofs.lemmas.List.{append-nil}
use Rattle.nextest_filtering_filters.specs.Asking.{Asking}
use Rattle.nextest_filtering_filters.specs.Meaning.{Tells}
use Rattle.nextest_filtering_filters.specs.Query as query
use Rattle.nextest_filtering_filters.proofs.Parts.{tells_one}
use Rattle.nextest_filtering_ast.specs.Tree.{Matcher}
use Rattle.test_runner_core_workspace.specs.Lister.{Answer}
use Rattle.test_runner_core_workspace.specs.declared.record.Binary.{Binary}
use Rattle.test_runner_core_listing.specs.Answers.{Answers, AnswerOn, CanHold}
use Rattle.test_runner_core_listing.specs.Listing.{Adds, AddsListed, Asks, ids_of}
use Rattle.test_runner_core_listing.specs.declared.listing_error.ListingError.{ListingError}
use Rattle.test_runner_core_listing.specs.declared.listing_fault.ListingFault.{ListingFault}
use Rattle.test_runner_core_listing.specs.declared.selection.Selection.{Selection}

-- what filters say of their binary
pub listed_as : (Member : query.Test → Matcher → Type 0) (asked : List Asking) (binary : Binary) (chosen : Answers) (value : Bool) → Tells (All CanHold asked) value → AnswerOn asked binary Member chosen
    → value ≡ chosen.lists binary
listed_as Member asked binary chosen value says are = tells_one (All CanHold asked) value (chosen.lists binary) says are.lists

-- a listed one adds what it gives
pub adds_listed : (told : Bool) (result given : Result (Unit {0}) ListingError) (answered : Result (List (List ℕ)) ListingFault) (chosen : Answers) (binary : Binary) (old new after : Selection)
    → told ≡ true → result ≡ given → after ≡ new → AddsListed given answered chosen binary old new → Adds told result answered chosen binary old after
adds_listed told result given answered chosen binary old new after is same now adds =
    subst (λ (b : Bool). Adds b result answered chosen binary old after) (sym is)
    (subst (λ (it : Result (Unit {0}) ListingError). AddsListed it answered chosen binary old after) (sym same)
    (subst (λ (it : Selection). AddsListed given answered chosen binary old it) (sym now) adds))

-- and is asked
pub asks_listed : {L : Type 0} (asked : L → List (List ℕ)) (told : Bool) (result given : Result (Unit {0}) ListingError) (binary : Binary) (old new after : L)
    → told ≡ true → result ≡ given → after ≡ new → Asks given (asked old) (binary.id ∷ []) (asked new)
    → Asks result (asked old) (ids_of (cond told (binary ∷ []) [])) (asked after)
asks_listed {L} asked told result given binary old new after is same now asks =
    subst (λ (b : Bool). Asks result (asked old) (ids_of (cond b (binary ∷ []) [])) (asked after)) (sym is)
    (subst (λ (it : Result (Unit {0}) ListingError). Asks it (asked old) (binary.id ∷ []) (asked after)) (sym same)
    (subst (λ (it : L). Asks given (asked old) (binary.id ∷ []) (asked it)) (sym now) asks))

-- another adds nothing
pub adds_none : (told : Bool) (done : Unit {0}) (answered : Result (List (List ℕ)) ListingFault) (chosen : Answers) (binary : Binary) (old after : Selection)
    → told ≡ false → after ≡ old → Adds told (Ok done) answered chosen binary old after
adds_none told done answered chosen binary old after is now =
    subst (λ (b : Bool). Adds {T = Unit {0}} b (Ok done) answered chosen binary old after) (sym is) now

-- and isn't asked
pub asks_none : {L : Type 0} (asked : L → List (List ℕ)) (told : Bool) (binary : Binary) (old after : L)
    → told ≡ false → after ≡ old → asked after ≡ asked old ++ ids_of (cond told (binary ∷ []) [])
asks_none asked told binary old after is now =
    ap asked now ∙ sym (append-nil (asked old)) ∙ ap (λ (b : Bool). asked old ++ ids_of (cond b (binary ∷ []) [])) (sym is)

-- what a binary answers
pub answer_now : {L : Type 0} (answer : L → Binary → Answer) (old new after : L) (other : Binary) → after ≡ new → answer new other ≡ answer old other → answer after other ≡ answer old other
answer_now {L} answer old new after other now same = ap (λ (it : L). answer it other) now ∙ same
