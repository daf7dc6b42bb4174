-- Binaries are listed where each one's answer is accepted, and else refused by the first whose
-- answer isn't.
use Rattle.std.proofs.Common.{◌≡◌, ◌↔◌, ℕ, List, [], ◌∷◌, ◌++◌, Option, Some, None, Result, Ok, Err, refl, sym, ap, ◌∙◌, subst, ◌⊎◌, inl, inr}
use Rattle.std.specs.List.{AllByRecursion, flat_map}
use Rattle.std.proofs.lemmas.List.Elements.{All-from_recursion, recursion_from_All}
use Rattle.test_runner_core_workspace.specs.Lister.{Answer}
use Rattle.test_runner_core_workspace.specs.declared.record.Binary.{Binary}
use Rattle.test_runner_core_listing.specs.Answers.{Answers}
use Rattle.test_runner_core_listing.specs.Laws.{IsAccepted, IsFoundIn, IsRefusedIn, names_in}
use Rattle.test_runner_core_listing.specs.Listing.{◌>>=◌, Found, accepted_answer, accepted_names, listing, refused_name, selected_in, skipped_in}
use Rattle.test_runner_core_listing.specs.declared.listing_fault.ListingFault.{ListingFault}
use Rattle.test_runner_core_listing.specs.declared.listing_fault.ListingFault.TheVariants as refused

-- an answer is accepted or refused
accepted_or : (answer : Answer) → (accepted_answer answer ≡ Ok (names_in answer)) ⊎ ((refusal : ListingFault) × (accepted_answer answer ≡ Err refusal))
accepted_or (Ok names) = by_refusal (refused_name [] names)
  where
    by_refusal : (o : Option ListingFault) → (accepted_names names o ≡ Ok names) ⊎ ((refusal : ListingFault) × (accepted_names names o ≡ Err refusal))
    by_refusal None = inl refl
    by_refusal (Some refusal) = inr (refusal, refl)
accepted_or (Err cause) = inr (refused.ListFault cause, refl)

-- what is found where each answer is accepted
abbrev found_in : (Binary → Answer) → Answers → List Binary → Found
found_in answer chosen binaries = record {
  tests = flat_map (λ binary. selected_in chosen binary (names_in (answer binary))) binaries;
  skipped = flat_map (λ binary. skipped_in chosen binary (names_in (answer binary))) binaries;
}

-- one binary's names, and then what the others give
abbrev one_more : Answers → Binary → Result (List (List ℕ)) ListingFault → Result Found ListingFault → Result Found ListingFault
one_more chosen binary read others =
    read >>= λ names. others >>= λ rest. Ok (record { tests = selected_in chosen binary names ++ rest.tests; skipped = skipped_in chosen binary names ++ rest.skipped })

all_found : (answer : Binary → Answer) (chosen : Answers) (binaries : List Binary) → AllByRecursion (IsAccepted answer) binaries
    → listing answer chosen binaries ≡ Ok (found_in answer chosen binaries)
all_found answer chosen [] h = refl
all_found answer chosen (binary ∷ binaries) h =
    ap (λ (read : Result (List (List ℕ)) ListingFault). one_more chosen binary read (listing answer chosen binaries)) h.0
    ∙ ap (one_more chosen binary (Ok (names_in (answer binary)))) (all_found answer chosen binaries h.1)

-- a refusal behind binaries whose answers are accepted
refused_behind : (answer : Binary → Answer) (chosen : Answers) (before : List Binary) (binary : Binary) (behind : List Binary) (refusal : ListingFault)
    → AllByRecursion (IsAccepted answer) before → accepted_answer (answer binary) ≡ Err refusal → listing answer chosen (before ++ binary ∷ behind) ≡ Err refusal
refused_behind answer chosen [] binary behind refusal h e =
    ap (λ (read : Result (List (List ℕ)) ListingFault). one_more chosen binary read (listing answer chosen behind)) e
refused_behind answer chosen (first ∷ before) binary behind refusal h e =
    ap (λ (read : Result (List (List ℕ)) ListingFault). one_more chosen first read (listing answer chosen (before ++ binary ∷ behind))) h.0
    ∙ ap (one_more chosen first (Ok (names_in (answer first)))) (refused_behind answer chosen before binary behind refusal h.1 e)

-- each answer is accepted, or there is a first that isn't
first_refused : (answer : Binary → Answer) (binaries : List Binary) → AllByRecursion (IsAccepted answer) binaries ⊎ ((refusal : ListingFault) × IsRefusedIn answer binaries refusal)
first_refused answer [] = inl tt
first_refused answer (binary ∷ binaries) = by_answer (accepted_or (answer binary)) (first_refused answer binaries)
  where
    by_answer : (accepted_answer (answer binary) ≡ Ok (names_in (answer binary))) ⊎ ((refusal : ListingFault) × (accepted_answer (answer binary) ≡ Err refusal))
        → AllByRecursion (IsAccepted answer) binaries ⊎ ((refusal : ListingFault) × IsRefusedIn answer binaries refusal)
        → AllByRecursion (IsAccepted answer) (binary ∷ binaries) ⊎ ((refusal : ListingFault) × IsRefusedIn answer (binary ∷ binaries) refusal)
    by_answer (inr told) later = inr (
      told.0,
      record {
        before = [];
        binary = binary;
        behind = binaries;
        division = refl;
        all_before = All-from_recursion (IsAccepted answer) [] tt;
        own_refusal = told.1;
      },
    )
    by_answer (inl is) (inl all) = inl (is, all)
    by_answer (inl is) (inr later) =
        let it = later.1 in
        inr (
          later.0,
          record {
            before = binary ∷ it.before;
            binary = it.binary;
            behind = it.behind;
            division = ap (λ (rest : List Binary). binary ∷ rest) it.division;
            all_before = All-from_recursion (IsAccepted answer) (binary ∷ it.before) (is, recursion_from_All (IsAccepted answer) it.before it.all_before);
            own_refusal = it.own_refusal;
          },
        )

refused_in : (answer : Binary → Answer) (chosen : Answers) (binaries : List Binary) (refusal : ListingFault) → IsRefusedIn answer binaries refusal
    → listing answer chosen binaries ≡ Err refusal
refused_in answer chosen binaries refusal it =
    ap (listing answer chosen) it.division
    ∙ refused_behind answer chosen it.before it.binary it.behind refusal (recursion_from_All (IsAccepted answer) it.before it.all_before) it.own_refusal

pub finds_where_accepted : (answer : Binary → Answer) (chosen : Answers) (binaries : List Binary) (found : Found)
    → (listing answer chosen binaries ≡ Ok found) ↔ IsFoundIn answer chosen binaries found
finds_where_accepted answer chosen binaries found = (
  λ is.
      elim (first_refused answer binaries) [
        | inl all ↦
            let told = all_found answer chosen binaries all in
            let same : found ≡ found_in answer chosen binaries = cc in
            record {
              acceptance = All-from_recursion (IsAccepted answer) binaries all;
              tests = ap (λ (it : Found). it.tests) same;
              skipped = ap (λ (it : Found). it.skipped) same;
            }
        | inr first ↦ let told = refused_in answer chosen binaries first.0 first.1 in let no : Err first.0 ≡ Ok found = sym told ∙ is in cc
      ],
  λ it.
      let same : found_in answer chosen binaries ≡ found = λ i. record { tests = sym it.tests i; skipped = sym it.skipped i } in
      all_found answer chosen binaries (recursion_from_All (IsAccepted answer) binaries it.acceptance) ∙ ap Ok same,
)

pub refuses_where_refused : (answer : Binary → Answer) (chosen : Answers) (binaries : List Binary) (refusal : ListingFault)
    → (listing answer chosen binaries ≡ Err refusal) ↔ IsRefusedIn answer binaries refusal
refuses_where_refused answer chosen binaries refusal = (
  λ is.
      elim (first_refused answer binaries) [
        | inl all ↦
            let told = all_found answer chosen binaries all in
            let no : Err refusal ≡ Ok (found_in answer chosen binaries) = sym is ∙ told in
            cc
        | inr first ↦
            let told = refused_in answer chosen binaries first.0 first.1 in
            let same : first.0 ≡ refusal = cc in
            subst (IsRefusedIn answer binaries) same first.1
      ],
  refused_in answer chosen binaries refusal,
)
