-- A plan has no test twice.
use Rattle.std.proofs.Common.{◌≡◌, ℕ, ◌==◌, List, [], ◌∷◌, ◌++◌, map, length, Bool, true, false, cond, not, ◌&&◌, Option, None, Some, Result, Ok, Err, refl, sym, ap, ◌∙◌, subst, append_assoc}
use Rattle.std.specs.Prelude.{◌≢◌, IfOk, if◌then◌else◌}
use Rattle.std.specs.Bool.{Decides}
use Rattle.std.specs.Cmp.Lexicographic.{nat_list_eq_equiv}
use Rattle.std.specs.List.{AllByRecursion, IsDistinct, filter, list_all, list_any}
use Rattle.std.specs.Str.{bytes_eq}
use Rattle.std.proofs.lemmas.Bool.{and_from, and_left, and_parts, and_right, or_from, or_parts}
use Rattle.std.specs.List.Sorted.{IsPermutation}
use Rattle.std.proofs.lemmas.List.{append-nil, map-append}
use Rattle.std.proofs.lemmas.List.Sorted.{IsPermutation-map}
use Rattle.std.proofs.lemmas.List.Kept.{AllPairs-filter}
use Rattle.std.proofs.lemmas.Map.Keys.{IsDistinct-cons, IsDistinct-head, IsDistinct-IsPermutation, IsDistinct-push, IsDistinct-tail}
use Rattle.std.proofs.lemmas.Map.Made.{AllPairs-from_IsDistinct, IsDistinct-from_AllPairs}
use Rattle.std.proofs.lemmas.Simd.{map-map}
use Rattle.std.proofs.lemmas.Slice.Eq.{bytes_eq-Decides}
use Rattle.nextest_run_events_results.specs.declared.instance.OwnedTestInstanceId.{OwnedTestInstanceId}
use Rattle.test_runner_core_inputs.specs.declared.inputs.Inputs.{Inputs}
use Rattle.test_runner_core_listing.specs.Answers.{Answers, seen_test}
use Rattle.test_runner_core_listing.specs.Listing.{Found, accepted_answer, accepted_names, refused_name, ids_of, listing, selected_in, skipped_in, tests_of, ◌>>=◌}
use Rattle.test_runner_core_listing.specs.declared.listing_fault.ListingFault.{ListingFault}
use Rattle.test_runner_core_listing.specs.declared.listing_fault.ListingFault.TheVariants as refused
use Rattle.test_runner_core_planning.specs.Checks.{Planned, listed_in}
use Rattle.test_runner_core_planning.specs.Plan.{IsPlanOf, Plans, instance_of, plan_test}
use Rattle.test_runner_core_plan.specs.declared.plan.Plan.{Plan}
use Rattle.test_runner_core_plan.specs.declared.plan.PlanTest.{PlanTest}
use Rattle.test_runner_core_workspace.specs.Lister.{Answer}
use Rattle.test_runner_core_workspace.specs.Workspace.{binary_ids, has_repeat, has_separator, is_among, is_bad_id, is_known_link, package_ids, refusal_of}
use Rattle.test_runner_core_workspace.specs.declared.record.Binary.{Binary}
use Rattle.test_runner_core_workspace.specs.declared.record.WorkspaceRecord.{WorkspaceRecord}
use Rattle.test_runner_core_workspace.specs.declared.workspace_fault.WorkspaceFault.{WorkspaceFault}
use Rattle.test_runner_core_workspace.specs.declared.workspace_fault.WorkspaceFault.TheVariants as bad
use Rattle.test_runner_core_planning.specs.Laws.{HasNoneTwice}
use Rattle.test_runner_core_planning.proofs.Once.{not_refused}

-- ---- tests that are the same

abbrev same_test : OwnedTestInstanceId → OwnedTestInstanceId → Bool
same_test one other = bytes_eq one.binary_id other.binary_id && bytes_eq one.test_name other.test_name

same_test_decides : (one other : OwnedTestInstanceId) → Decides (same_test one other) (one ≡ other)
same_test_decides one other =
    let ids = bytes_eq-Decides one.binary_id other.binary_id in
    let names = bytes_eq-Decides one.test_name other.test_name in (
      λ same.
          let parts = and_parts (bytes_eq one.binary_id other.binary_id) (bytes_eq one.test_name other.test_name) same in
          ap (λ (id : List ℕ). record { binary_id = id; test_name = one.test_name }) (ids.0 parts.0)
          ∙ ap (λ (name : List ℕ). record { binary_id = other.binary_id; test_name = name }) (names.0 parts.1),
      λ is.
          and_from (bytes_eq one.binary_id other.binary_id) (bytes_eq one.test_name other.test_name)
          (ids.1 (ap (λ (test : OwnedTestInstanceId). test.binary_id) is)) (names.1 (ap (λ (test : OwnedTestInstanceId). test.test_name) is)),
    )

same_test_turned : (one other : OwnedTestInstanceId) → same_test one other ≡ same_test other one
same_test_turned one other =
    ap (λ (b : Bool). b && bytes_eq one.test_name other.test_name) (nat_list_eq_equiv.symm one.binary_id other.binary_id)
    ∙ ap (λ (b : Bool). bytes_eq other.binary_id one.binary_id && b) (nat_list_eq_equiv.symm one.test_name other.test_name)

none_distinct : {K : Type 0} (same : K → K → Bool) → IsDistinct same []
unfolding IsDistinct
none_distinct same = tt

-- ---- the names of a binary

-- a name that isn't refused is none of those before it
name_passes : (empty bad repeated : Bool) (rest : Option ListingFault)
    → (if empty then Some refused.EmptyTestName else if bad then Some refused.BadTestName else if repeated then Some refused.RepeatedTest else rest) ≡ None
    → (repeated ≡ false) × (rest ≡ None)
name_passes true bad repeated rest e = absurd (let f = e in cc)
name_passes false true repeated rest e = absurd (let f = e in cc)
name_passes false false true rest e = absurd (let f = e in cc)
name_passes false false false rest e = (refl, e)

names_once : (before names : List (List ℕ)) → refused_name before names ≡ None → IsDistinct bytes_eq before → IsDistinct bytes_eq (before ++ names)
names_once before [] e once = subst (λ (all : List (List ℕ)). IsDistinct bytes_eq all) (sym (append-nil before)) once
names_once before (name ∷ names) e once =
    let passed = name_passes (length name == 0) (has_separator name) (is_among before name) (refused_name (before ++ name ∷ []) names) e in
    subst (λ (all : List (List ℕ)). IsDistinct bytes_eq all) (append_assoc before (name ∷ []) names)
    (names_once (before ++ name ∷ []) names passed.1 (IsDistinct-push nat_list_eq_equiv before name once passed.0))

accepted_once : (answered : Answer) → IfOk (accepted_answer answered) (IsDistinct bytes_eq)
accepted_once (Ok names) = by_refusal (refused_name [] names) refl
  where
    by_refusal : (refusal : Option ListingFault) → refused_name [] names ≡ refusal → IfOk (accepted_names names refusal) (IsDistinct bytes_eq)
    by_refusal None e = names_once [] names e (none_distinct bytes_eq)
    by_refusal (Some refusal) e = tt
accepted_once (Err cause) = tt

filter_once : (passes : List ℕ → Bool) (names : List (List ℕ)) → IsDistinct bytes_eq names → IsDistinct bytes_eq (filter passes names)
filter_once passes names once =
    IsDistinct-from_AllPairs bytes_eq-Decides (filter passes names)
    (AllPairs-filter (λ (one other : List ℕ). one ≢ other) passes names (AllPairs-from_IsDistinct bytes_eq-Decides names once))

-- ---- tests of one binary before those of others

-- no test is of a binary with this id
abbrev OfOthers : List ℕ → List OwnedTestInstanceId → Type 0
OfOthers id tests = AllByRecursion (λ (test : OwnedTestInstanceId). bytes_eq id test.binary_id ≡ false) tests

-- a test is none of these
abbrev IsNew : OwnedTestInstanceId → List OwnedTestInstanceId → Type 0
IsNew test tests = AllByRecursion (λ (other : OwnedTestInstanceId). same_test test other ≡ false) tests

others_differ : (test : OwnedTestInstanceId) (rest : List OwnedTestInstanceId) → OfOthers test.binary_id rest → IsNew test rest
others_differ test [] others = tt
others_differ test (other ∷ rest) others =
    (and_left (bytes_eq test.binary_id other.binary_id) (bytes_eq test.test_name other.test_name) others.0, others_differ test rest others.1)

name_differs : (binary : Binary) (name : List ℕ) (names : List (List ℕ)) (rest : List OwnedTestInstanceId)
    → AllByRecursion (λ (other : List ℕ). bytes_eq name other ≡ false) names → OfOthers binary.id rest
    → IsNew (record { binary_id = binary.id; test_name = name }) (tests_of binary names ++ rest)
name_differs binary name [] rest new others = others_differ (record { binary_id = binary.id; test_name = name }) rest others
name_differs binary name (other ∷ names) rest new others =
    (and_right (bytes_eq binary.id binary.id) (bytes_eq name other) new.0, name_differs binary name names rest new.1 others)

tests_once : (binary : Binary) (names : List (List ℕ)) (rest : List OwnedTestInstanceId)
    → IsDistinct bytes_eq names → OfOthers binary.id rest → IsDistinct same_test rest → IsDistinct same_test (tests_of binary names ++ rest)
tests_once binary [] rest names_are others once = once
tests_once binary (name ∷ names) rest names_are others once =
    IsDistinct-cons same_test (record { binary_id = binary.id; test_name = name }) (tests_of binary names ++ rest)
    (name_differs binary name names rest (IsDistinct-head bytes_eq name names names_are) others)
    (tests_once binary names rest (IsDistinct-tail bytes_eq name names names_are) others once)

of_others : (id : List ℕ) (binary : Binary) (names : List (List ℕ)) (rest : List OwnedTestInstanceId)
    → bytes_eq id binary.id ≡ false → OfOthers id rest → OfOthers id (tests_of binary names ++ rest)
of_others id binary [] rest other others = others
of_others id binary (name ∷ names) rest other others = (other, of_others id binary names rest other others)

-- ---- what binaries give

-- the tests that are found, by their binaries' ids and their names
abbrev pub instances_in : Found → List OwnedTestInstanceId
instances_in found = map instance_of found.tests

instances_of_binary : (binary : Binary) (names : List (List ℕ)) → map instance_of (map (seen_test binary) names) ≡ tests_of binary names
instances_of_binary binary [] = refl
instances_of_binary binary (name ∷ names) = ap (λ (more : List OwnedTestInstanceId). record { binary_id = binary.id; test_name = name } ∷ more) (instances_of_binary binary names)

-- those of a binary before those of others
pub instances_joined : (chosen : Answers) (binary : Binary) (names : List (List ℕ)) (rest : Found)
    → map instance_of (selected_in chosen binary names ++ rest.tests) ≡ tests_of binary (filter (chosen.selects binary) names) ++ instances_in rest
instances_joined chosen binary names rest =
    map-append instance_of (selected_in chosen binary names) rest.tests
    ∙ ap (λ (front : List OwnedTestInstanceId). front ++ map instance_of rest.tests) (instances_of_binary binary (filter (chosen.selects binary) names))

-- what binaries of different ids give has no test twice, and none of another binary
record AreOnce (binaries : List Binary) (tests : List OwnedTestInstanceId) : Type 0 where
  once : IsDistinct same_test tests
  theirs : (id : List ℕ) → is_among (ids_of binaries) id ≡ false → OfOthers id tests

listed_once : (answer : Binary → Answer) (chosen : Answers) (binaries : List Binary) → has_repeat (ids_of binaries) ≡ false
    → IfOk (listing answer chosen binaries) (λ (found : Found). AreOnce binaries (instances_in found))
listed_once answer chosen [] e = record { once = none_distinct same_test; theirs = λ id apart. tt }
listed_once answer chosen (binary ∷ binaries) e =
    let apart = or_parts (is_among (ids_of binaries) binary.id) (has_repeat (ids_of binaries)) e in
    by_answer apart.0 (accepted_answer (answer binary)) (accepted_once (answer binary)) (listing answer chosen binaries) (listed_once answer chosen binaries apart.1)
  where
    joined : List (List ℕ) → Found → Found
    joined names rest = record { tests = selected_in chosen binary names ++ rest.tests; skipped = skipped_in chosen binary names ++ rest.skipped }

    by_answer : is_among (ids_of binaries) binary.id ≡ false
        → (first : Result (List (List ℕ)) ListingFault) → IfOk first (IsDistinct bytes_eq)
        → (more : Result Found ListingFault) → IfOk more (λ (rest : Found). AreOnce binaries (instances_in rest))
        → IfOk (first >>= (λ names. more >>= (λ rest. Ok (joined names rest)))) (λ (found : Found). AreOnce (binary ∷ binaries) (instances_in found))
    by_answer new (Ok names) names_are (Ok rest) are = subst (AreOnce (binary ∷ binaries)) (sym (instances_joined chosen binary names rest)) (record {
      once = tests_once binary (filter (chosen.selects binary) names) (instances_in rest) (filter_once (chosen.selects binary) names names_are) (are.theirs binary.id new) are.once;
      theirs = λ id apart.
          let parts = or_parts (bytes_eq id binary.id) (is_among (ids_of binaries) id) apart in
          of_others id binary (filter (chosen.selects binary) names) (instances_in rest) parts.0 (are.theirs id parts.1);
    })
    by_answer new (Ok names) names_are (Err refusal) are = tt
    by_answer new (Err refusal) names_are more are = tt

-- ---- inputs that have a plan

-- of a workspace that isn't refused no two binaries have one id
ids_apart : (workspace : WorkspaceRecord) → refusal_of workspace ≡ None → has_repeat (binary_ids workspace) ≡ false
ids_apart workspace e =
    let is_known = is_among (package_ids workspace) in
    by_tests (has_repeat (package_ids workspace)) (not (list_all (is_known_link is_known) workspace.links)) (has_repeat (binary_ids workspace))
    (if not (list_all (λ binary. is_known binary.package) workspace.binaries) then Some bad.UnknownPackage
    else if list_any is_bad_id (binary_ids workspace) then Some bad.BadId else None)
    e
  where
    by_tests : (packages links binaries : Bool) (rest : Option WorkspaceFault)
        → (if packages then Some bad.RepeatedPackage else if links then Some bad.UnknownLink else if binaries then Some bad.RepeatedBinary else rest) ≡ None → binaries ≡ false
    by_tests true links binaries rest h = absurd (let f = h in cc)
    by_tests false true binaries rest h = absurd (let f = h in cc)
    by_tests false false true rest h = absurd (let f = h in cc)
    by_tests false false false rest h = refl

pub planned_apart : (answer : Binary → Answer) (inputs : Inputs) (it : Planned) → Plans answer inputs (Ok it) → has_repeat (binary_ids inputs.workspace) ≡ false
planned_apart answer inputs it planned =
    ids_apart inputs.workspace (not_refused answer inputs planned.kept.0)

-- an id that no binary has is that of none of them that pass
none_passes : (passes : Binary → Bool) (id : List ℕ) (binaries : List Binary) → is_among (ids_of binaries) id ≡ false → is_among (ids_of (filter passes binaries)) id ≡ false
none_passes passes id [] apart = refl
none_passes passes id (binary ∷ binaries) apart =
    let parts = or_parts (bytes_eq id binary.id) (is_among (ids_of binaries) id) apart in
    by_first (passes binary) parts.0 (none_passes passes id binaries parts.1)
  where
    by_first : (first : Bool) → bytes_eq id binary.id ≡ false → is_among (ids_of (filter passes binaries)) id ≡ false
        → is_among (ids_of (cond first (binary ∷ filter passes binaries) (filter passes binaries))) id ≡ false
    by_first true other none = or_from (bytes_eq id binary.id) (is_among (ids_of (filter passes binaries)) id) other none
    by_first false other none = none

-- so no id stands twice among those of the binaries that pass, where none does
passing_apart : (passes : Binary → Bool) (binaries : List Binary) → has_repeat (ids_of binaries) ≡ false → has_repeat (ids_of (filter passes binaries)) ≡ false
passing_apart passes [] apart = refl
passing_apart passes (binary ∷ binaries) apart =
    let parts = or_parts (is_among (ids_of binaries) binary.id) (has_repeat (ids_of binaries)) apart in
    by_first (passes binary) (none_passes passes binary.id binaries parts.0) (passing_apart passes binaries parts.1)
  where
    by_first : (first : Bool) → is_among (ids_of (filter passes binaries)) binary.id ≡ false → has_repeat (ids_of (filter passes binaries)) ≡ false
        → has_repeat (ids_of (cond first (binary ∷ filter passes binaries) (filter passes binaries))) ≡ false
    by_first true new rest = or_from (is_among (ids_of (filter passes binaries)) binary.id) (has_repeat (ids_of (filter passes binaries))) new rest
    by_first false new rest = rest

-- ---- plans

-- a plan's tests are those that are found, in an order
pub instances_of : (inputs : Inputs) (it : Planned) (plan : Plan) → IsPlanOf inputs it plan → IsPermutation (instances_in it.found) (map (λ (t : PlanTest). t.instance) plan.tests)
instances_of inputs it plan built =
    subst (λ (instances : List OwnedTestInstanceId). IsPermutation instances (map (λ (t : PlanTest). t.instance) plan.tests)) (map-map (λ (t : PlanTest). t.instance) (plan_test it.choice.of_test) it.found.tests)
    (IsPermutation-map (λ (t : PlanTest). t.instance) (map (plan_test it.choice.of_test) it.found.tests) plan.tests built.tests)

pub has_none_twice : HasNoneTwice
has_none_twice answer inputs plan (it, planned, built) =
    let apart = passing_apart it.answers.lists inputs.workspace.binaries (planned_apart answer inputs it planned) in
    let listed : AreOnce (listed_in inputs it.answers) (instances_in it.found) =
    subst (λ (given : Result Found ListingFault). IfOk given (λ (found : Found). AreOnce (listed_in inputs it.answers) (instances_in found)))
    planned.found.found
    (listed_once answer it.answers (listed_in inputs it.answers) apart) in
    let instances = map (λ (t : PlanTest). t.instance) plan.tests in
    AllPairs-from_IsDistinct same_test_decides instances
    (IsDistinct-IsPermutation same_test same_test_turned (instances_in it.found) instances (instances_of inputs it plan built) listed.once)
