-- Binaries, one after another.
use Rattle.std.proofs.Common.{◌≡◌, ◌<◌, ℕ, Bool, true, false, cond, length, get_or, drop, drop-cons, add-one, ◌+◌, ◌∷◌, ◌++◌, [], List, Result, Ok, Err, ap, sym, ◌∙◌, subst, append_assoc}
use Rattle.std.proofs.lemmas.List.{append-nil}
use Rattle.nextest_filtering_filters.specs.Query as query
use Rattle.nextest_run_events_results.specs.declared.instance.OwnedTestInstanceId.{OwnedTestInstanceId}
use Rattle.test_runner_core_workspace.specs.Lister.{Answer}
use Rattle.test_runner_core_workspace.specs.declared.record.Binary.{Binary}
use Rattle.test_runner_core_listing.specs.Answers.{Answers}
use Rattle.test_runner_core_listing.specs.Listing.{◌>>=◌, Found, accepted_answer, asked_of, asked_after, ids_of, listing, selected_in, skipped_in, Adds, Asks, AsksFor}
use Rattle.test_runner_core_listing.specs.Selected.{tests_in}
use Rattle.test_runner_core_listing.specs.declared.selection.Selection.{Selection}
use Rattle.test_runner_core_listing.specs.declared.listing_error.ListingError.{ListingError}
use Rattle.test_runner_core_listing.specs.declared.listing_error.ListingError.TheVariants as errors
use Rattle.test_runner_core_listing.specs.declared.listing_fault.ListingFault.{ListingFault}

-- what was found so far, and then what the rest gives
abbrev pub behind : Selection → Result Found ListingFault → Result Found ListingFault
behind found read = read >>= λ rest. Ok (record { tests = tests_in found.tests.items ++ rest.tests; skipped = found.skipped ++ rest.skipped })

-- a walk over the listed binaries has these still ahead: what the others give was found, and they
-- alone were asked
pub record Walked (answer : Binary → Answer) (chosen : Answers) (all rest : List Binary) (found : Selection) (initial asked : List (List ℕ)) : Type 0 where
  pub given : behind found (listing answer chosen rest) ≡ listing answer chosen all
  pub listed : found.listed ++ ids_of rest ≡ ids_of all
  pub so_far : asked ≡ initial ++ found.listed
  pub ahead : asked_of answer all ≡ found.listed ++ asked_of answer rest

-- where memory was wanting, a front of those ahead was asked
front_ahead : (initial listed asked ids tail all new : List (List ℕ)) → asked ≡ initial ++ listed → all ≡ listed ++ (ids ++ tail) → AsksFor true asked ids new → AsksFor true initial all new
front_ahead initial listed asked ids tail all new before ahead asks =
    let front = asks.0 in
    let rest = asks.1.0 in (
      listed ++ front,
      (
        rest ++ tail,
        (
          asks.1.1.0 ∙ ap (λ (some : List (List ℕ)). some ++ front) before ∙ append_assoc initial listed front,
          ahead
              ∙ ap (λ (some : List (List ℕ)). listed ++ (some ++ tail)) asks.1.1.1
              ∙ ap (λ (some : List (List ℕ)). listed ++ some) (append_assoc front rest tail)
              ∙ sym (append_assoc listed front (rest ++ tail)),
        ),
      ),
    )

-- a listed one is refused, and the last that was asked
last_refused : (answer : Binary → Answer) (chosen : Answers) (all : List Binary) (binary : Binary) (rest : List Binary) (found : Selection) (initial asked new_asked : List (List ℕ)) (refusal : ListingFault)
    → Walked answer chosen all (binary ∷ rest) found initial asked → accepted_answer (answer binary) ≡ Err refusal → new_asked ≡ asked ++ binary.id ∷ []
    → new_asked ≡ initial ++ asked_of answer all
last_refused answer chosen all binary rest found initial asked new_asked refusal walked refused asks =
    let one = binary.id ∷ [] in
    let ids = asked_of answer rest in
    let last : asked_of answer all ≡ found.listed ++ one =
    walked.ahead ∙ ap (λ (answered : Result (List (List ℕ)) ListingFault). found.listed ++ binary.id ∷ asked_after answered ids) refused in
    asks ∙ ap (λ (before : List (List ℕ)). before ++ one) walked.so_far ∙ append_assoc initial found.listed one ∙ ap (λ (some : List (List ℕ)). initial ++ some) (sym last)

-- which were asked, where one isn't listed for want of memory, or since it is refused
pub asks_refused : (answer : Binary → Answer) (chosen : Answers) (all : List Binary) (told : Bool) (binary : Binary) (rest : List Binary) (found new : Selection) (initial asked new_asked : List (List ℕ)) (answered : Answer) (error : ListingError)
    → Walked answer chosen all (cond told (binary ∷ rest) rest) found initial asked → answered ≡ answer binary
    → Adds {T = Unit {0}} told (Err error) (accepted_answer answered) chosen binary found new
    → Asks {T = Unit {0}} (Err error) asked (ids_of (cond told (binary ∷ []) [])) new_asked
    → Asks {T = Selection} (Err error) initial (asked_of answer all) new_asked
asks_refused answer chosen all true binary rest found new initial asked new_asked answered (errors.Refused refusal) walked same adds asks =
    last_refused answer chosen all binary rest found initial asked new_asked refusal walked (ap accepted_answer (sym same) ∙ adds) asks
asks_refused answer chosen all false binary rest found new initial asked new_asked answered (errors.Refused refusal) walked same adds asks = absurd adds
asks_refused answer chosen all true binary rest found new initial asked new_asked answered errors.OutOfMemory walked same adds asks =
    front_ahead initial found.listed asked (binary.id ∷ []) (asked_after (accepted_answer (answer binary)) (asked_of answer rest)) (asked_of answer all) new_asked walked.so_far walked.ahead asks
asks_refused answer chosen all false binary rest found new initial asked new_asked answered errors.OutOfMemory walked same adds asks =
    front_ahead initial found.listed asked [] (asked_of answer rest) (asked_of answer all) new_asked walked.so_far walked.ahead asks

-- the rest of binaries, at its first
pub rest_of : (binaries : List Binary) (i : ℕ) (binary : Binary) → i < length binaries → binary ≡ get_or binaries i binary → drop i binaries ≡ binary ∷ drop (i + 1) binaries
rest_of binaries i binary within is =
    drop-cons binaries i binary within ∙ ap (λ (n : ℕ). get_or binaries i binary ∷ drop n binaries) (sym (add-one i)) ∙ ap (λ (b : Binary). b ∷ drop (i + 1) binaries) (sym is)

-- more was found, and then comes the same
pub found_more : (found new : Selection) (tests : List query.Test) (skipped : List OwnedTestInstanceId) (read : Result Found ListingFault)
    → tests_in new.tests.items ≡ tests_in found.tests.items ++ tests → new.skipped ≡ found.skipped ++ skipped
    → behind new read ≡ behind found (read >>= λ (rest : Found). Ok (record { tests = tests ++ rest.tests; skipped = skipped ++ rest.skipped }))
found_more found new tests skipped (Err refusal) t s = λ i. Err refusal
found_more found new tests skipped (Ok rest) t s =
    let before = tests_in found.tests.items in
    let one : tests_in new.tests.items ++ rest.tests ≡ before ++ (tests ++ rest.tests) = ap (λ (some : List query.Test). some ++ rest.tests) t ∙ append_assoc before tests rest.tests in
    let other : new.skipped ++ rest.skipped ≡ found.skipped ++ (skipped ++ rest.skipped) =
    ap (λ (some : List OwnedTestInstanceId). some ++ rest.skipped) s ∙ append_assoc found.skipped skipped rest.skipped in
    λ i. Ok (record { tests = one i; skipped = other i })

-- the walk goes on past one that isn't refused
pub one_walked : (answer : Binary → Answer) (chosen : Answers) (all : List Binary) (told : Bool) (binary : Binary) (rest : List Binary) (found new : Selection) (initial asked new_asked : List (List ℕ)) (answered : Answer) (done : Unit {0})
    → Walked answer chosen all (cond told (binary ∷ rest) rest) found initial asked → answered ≡ answer binary
    → Adds {T = Unit {0}} told (Ok done) (accepted_answer answered) chosen binary found new → new_asked ≡ asked ++ ids_of (cond told (binary ∷ []) [])
    → Walked answer chosen all rest new initial new_asked
one_walked answer chosen all false binary rest found new initial asked new_asked answered done walked same adds asks =
    subst (λ (it : Selection). Walked answer chosen all rest it initial new_asked) (sym adds)
    (subst (λ (it : List (List ℕ)). Walked answer chosen all rest found initial it) (sym (asks ∙ append-nil asked)) walked)
one_walked answer chosen all true binary rest found new initial asked new_asked answered done walked same adds asks =
    let names = adds.0 in
    let one = binary.id ∷ [] in
    let ids = asked_of answer rest in
    let ok : accepted_answer (answer binary) ≡ Ok names = ap accepted_answer (sym same) ∙ adds.1 in
    let listed : new.listed ≡ found.listed ++ one = adds.2 in
    record {
      given =
          found_more found new (selected_in chosen binary names) (skipped_in chosen binary names) (listing answer chosen rest) adds.3 adds.4
          ∙ ap (λ (read : Result (List (List ℕ)) ListingFault).
          behind found (read >>= λ (some : List (List ℕ)). listing answer chosen rest >>= λ (more : Found). Ok (record { tests = selected_in chosen binary some ++ more.tests; skipped = skipped_in chosen binary some ++ more.skipped }))) (sym ok)
          ∙ walked.given;
      listed = ap (λ (some : List (List ℕ)). some ++ ids_of rest) listed ∙ append_assoc found.listed one (ids_of rest) ∙ walked.listed;
      so_far = asks ∙ ap (λ (some : List (List ℕ)). some ++ one) walked.so_far ∙ append_assoc initial found.listed one ∙ ap (λ (some : List (List ℕ)). initial ++ some) (sym listed);
      ahead =
          walked.ahead
          ∙ ap (λ (read : Result (List (List ℕ)) ListingFault). found.listed ++ binary.id ∷ asked_after read ids) ok
          ∙ sym (append_assoc found.listed one ids)
          ∙ ap (λ (some : List (List ℕ)). some ++ ids) (sym listed);
    }
