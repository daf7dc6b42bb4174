-- Each form of the inputs is read as its shape says, and its first fault is the refusal.
use Rattle.std.proofs.Common.{◌≡◌, ℕ, suc, ◌∷◌, [], List, Bool, false, codes, decimal, Option, None, Some, Ok, Err, refl, sym, subst, cond, length, nat_eq, option_and_then, arith}
use Rattle.std.proofs.lemmas.Bool.Decides.{nat_tests}
use Rattle.std.specs.List.{slice_get}
use Rattle.std.specs.Option.{option_map_or}
use Rattle.serde_json.specs.Data.{Data, null, boolean, number, string, array, object}
use Rattle.test_runner_core_workspace.specs.declared.record.Link.{Link}
use Rattle.test_runner_core_workspace.specs.declared.record.BinaryTests.{BinaryTests}
use Rattle.test_runner_core_workspace.specs.declared.record.BinaryTests.TheVariants as tests
use Rattle.test_runner_core_inputs.specs.Given.{items}
use Rattle.test_runner_core_inputs.specs.Reading as read
use Rattle.test_runner_core_inputs.specs.Shape as shape
use Rattle.test_runner_core_inputs.specs.Faults as wrong
use Rattle.test_runner_core_inputs.specs.Values as value
use Rattle.test_runner_core_inputs.proofs.Meets.{Meets, MeetsAll, Then, meets_as, meets_ok, meets_err, meets_then, meets_map, meets_required, meets_object, meets_each, meets_under, lists, leaves, has_is_object}

pub texts : MeetsAll read.text (wrong.is value.text) (shape.Is value.text)
texts = leaves value.text

-- the texts of a record's members
pub text_of : (name : List ℕ) (given : Data) → Meets (read.required name read.text given) (wrong.has name (wrong.is value.text) given) (shape.Has name (shape.Is value.text) given)
text_of name given = meets_required name texts given

package_parts : (given : Data) → Meets (read.package_parts given) (wrong.all_of (wrong.package_parts given)) (shape.IsPackage given)
package_parts given =
    meets_as (shape.IsPackage given)
    (meets_then _ _ (text_of (codes "id") given) (λ id _.
    meets_then _ _ (text_of (codes "name") given) (λ name _.
    meets_ok (record { id = id; name = name }))))
    (λ it s. subst (shape.IsPackage given) (sym s.1.1.1.1) (record { id = s.1.0; name = s.1.1.1.0 }))
    (λ it s. (it.id, (s.id, (it.name, (s.name, refl)))))

packages : MeetsAll read.package_of wrong.package_faults shape.IsPackage
packages = record { at = λ given. meets_object read.package_parts wrong.package_parts given (package_parts given) (λ it s. has_is_object (codes "id") (shape.Is value.text) given _ s.id) }

-- a list of three or more hasn't two items, and one of four or more hasn't three
pub not_two : (more : ℕ) → nat_eq (suc (suc (suc more))) 2 ≡ false
not_two more = grind (arith, nat_tests)

pub not_three : (more : ℕ) → nat_eq (suc (suc (suc (suc more)))) 3 ≡ false
not_three more = grind (arith, nat_tests)

-- what stands at a position of items that are known or not
abbrev pub part_on : {A : Type 0} → ℕ → (Data → read.Reading A) → Option (List Data) → read.Reading A
part_on position reads found = read.under (decimal position) (option_map_or reads (option_and_then (λ f. slice_get f position) found) (Err []))

abbrev pub wrong_on : ℕ → (Data → wrong.Faults) → Option (List Data) → wrong.Faults
wrong_on position faults found = wrong.within (decimal position) (option_map_or faults (option_and_then (λ f. slice_get f position) found) wrong.itself)

abbrev pub has_on : ℕ → Option (List Data) → Bool
has_on count found = option_map_or (λ f. nat_eq (length f) count) found false

abbrev link_on : Option (List Data) → read.Reading Link
link_on found =
    cond (has_on 2 found)
    (read.◌>>=◌ (part_on 0 read.text found) (λ from. read.◌>>=◌ (part_on 1 read.text found) (λ to. Ok (record { from = from; to = to }))))
    (Err [])

abbrev link_wrong_on : Option (List Data) → wrong.Faults
link_wrong_on found = cond (has_on 2 found) (wrong.all_of (wrong_on 0 (wrong.is value.text) found ∷ wrong_on 1 (wrong.is value.text) found ∷ [])) wrong.itself

abbrev LinkOn : Option (List Data) → Link → Type 0
LinkOn found it = (first : Data) × ((second : Data) × ((found ≡ Some (first ∷ second ∷ [])) × shape.Is value.text first it.from × shape.Is value.text second it.to))

link_with : (found : Option (List Data)) → Meets (link_on found) (link_wrong_on found) (LinkOn found)
link_with None = meets_err _ (λ it s. absurd (let e : None ≡ Some (s.0 ∷ s.1.0 ∷ []) = s.1.1.0 in cc))
link_with (Some []) = meets_err _ (λ it s. absurd (let e : Some [] ≡ Some (s.0 ∷ s.1.0 ∷ []) = s.1.1.0 in cc))
link_with (Some (a ∷ [])) = meets_err _ (λ it s. absurd (let e : Some (a ∷ []) ≡ Some (s.0 ∷ s.1.0 ∷ []) = s.1.1.0 in cc))
link_with (Some (a ∷ b ∷ [])) =
    meets_as _
    (meets_then _ _ (meets_under (decimal 0) _ (texts.at a)) (λ from _.
    meets_then _ _ (meets_under (decimal 1) _ (texts.at b)) (λ to _. meets_ok (record { from = from; to = to }))))
    (λ it s. subst (LinkOn (Some (a ∷ b ∷ []))) (sym s.1.1.1.1) (a, (b, (refl, s.1.0, s.1.1.1.0))))
    (λ it s.
    let e : Some (a ∷ b ∷ []) ≡ Some (s.0 ∷ s.1.0 ∷ []) = s.1.1.0 in
    let f : s.0 ≡ a = cc in
    let g : s.1.0 ≡ b = cc in
    (it.from, (subst (λ (d : Data). shape.Is value.text d it.from) f s.1.1.1, (it.to, (subst (λ (d : Data). shape.Is value.text d it.to) g s.1.1.2, refl)))))
link_with (Some (a ∷ b ∷ c ∷ more)) =
    let found = Some (a ∷ b ∷ c ∷ more) in
    subst
    (λ (test : Bool). Meets
    (cond test (read.◌>>=◌ (part_on 0 read.text found) (λ from. read.◌>>=◌ (part_on 1 read.text found) (λ to. Ok (record { from = from; to = to })))) (Err []))
    (cond test (wrong.all_of (wrong_on 0 (wrong.is value.text) found ∷ wrong_on 1 (wrong.is value.text) found ∷ [])) wrong.itself)
    (LinkOn found))
    (sym (not_two (length more)))
    (meets_err _ (λ it s. absurd (let e : Some (a ∷ b ∷ c ∷ more) ≡ Some (s.0 ∷ s.1.0 ∷ []) = s.1.1.0 in cc)))

link_at : (given : Data) → Meets (read.link_of given) (wrong.link_faults given) (shape.IsLink given)
link_at given =
    meets_as (shape.IsLink given) (link_with (items given))
    (λ it s. record { first = s.0; second = s.1.0; whole = s.1.1.0; from = s.1.1.1; to = s.1.1.2 })
    (λ it s. (s.first, (s.second, (s.whole, s.from, s.to))))

links : MeetsAll read.link_of wrong.link_faults shape.IsLink
links = record { at = link_at }

-- ---- tests

fault_parts : (given : Data) → Meets (read.tests_fault given) (wrong.all_of (wrong.tests_fault given)) (Then (shape.Has (codes "fault") (shape.Is value.text) given) (λ cause it. it ≡ tests.Fault cause))
fault_parts given = meets_then _ _ (text_of (codes "fault") given) (λ cause _. meets_ok (tests.Fault cause))

abbrev TestsOn : Data → Option (List Data) → BinaryTests → Type 0
TestsOn given found (tests.Names names) = (parts : List Data) × (found ≡ Some parts) × shape.AreEach (shape.Is value.text) parts names
TestsOn given found (tests.Fault cause) = shape.Has (codes "fault") (shape.Is value.text) given cause

-- what has a fault is no list
fault_is_no_list : (given : Data) (found : List Data) (cause : List ℕ) → items given ≡ Some found → shape.Has (codes "fault") (shape.Is value.text) given cause → ⊥
fault_is_no_list null found cause e s = absurd (let f : None ≡ Some found = e in cc)
fault_is_no_list (boolean b) found cause e s = absurd (let f : None ≡ Some found = e in cc)
fault_is_no_list (number n) found cause e s = absurd (let f : None ≡ Some found = e in cc)
fault_is_no_list (string t) found cause e s = absurd (let f : None ≡ Some found = e in cc)
fault_is_no_list (array given) found cause e s = absurd (let f : None ≡ Some s.0 = s.1 in cc)
fault_is_no_list (object found_there) found cause e s = absurd (let f : None ≡ Some found = e in cc)

tests_with : (given : Data) (found : Option (List Data)) → items given ≡ found
    → Meets (option_map_or (λ names. read.◌>>=◌ (read.each read.text 0 names) (λ listed. Ok (tests.Names listed))) found (read.object read.tests_fault given))
    (option_map_or (wrong.each_of (wrong.is value.text) 0) found (wrong.is_object wrong.tests_fault given)) (TestsOn given found)
tests_with given None e = meets_as _ (meets_object read.tests_fault wrong.tests_fault given (fault_parts given) (λ it s. has_is_object (codes "fault") (shape.Is value.text) given s.0 s.1.0)) there back
  where
    there : (it : BinaryTests) → Then (shape.Has (codes "fault") (shape.Is value.text) given) (λ cause it. it ≡ tests.Fault cause) it → TestsOn given None it
    there it s = subst (TestsOn given None) (sym s.1.1) s.1.0

    back : (it : BinaryTests) → TestsOn given None it → Then (shape.Has (codes "fault") (shape.Is value.text) given) (λ cause it. it ≡ tests.Fault cause) it
    back (tests.Names names) s = absurd (let e : None ≡ Some s.0 = s.1 in cc)
    back (tests.Fault cause) s = (cause, (s, refl))
tests_with given (Some found) e = meets_as _ (meets_map _ (λ names. tests.Names names) (meets_each texts 0 found)) there back
  where
    there : (it : BinaryTests) → Then (shape.AreEach (shape.Is value.text) found) (λ names it. it ≡ tests.Names names) it → TestsOn given (Some found) it
    there it s = subst (TestsOn given (Some found)) (sym s.1.1) (found, refl, s.1.0)

    back : (it : BinaryTests) → TestsOn given (Some found) it → Then (shape.AreEach (shape.Is value.text) found) (λ names it. it ≡ tests.Names names) it
    back (tests.Names names) s =
        let f : Some found ≡ Some s.0 = s.1 in
        let g : s.0 ≡ found = cc in
        (names, (subst (λ (parts : List Data). shape.AreEach (shape.Is value.text) parts names) g s.2, refl))
    back (tests.Fault cause) s = absurd (fault_is_no_list given found cause e s)

tests_at : (given : Data) → Meets (read.tests_of given) (wrong.tests_faults given) (shape.AreTests given)
tests_at given = meets_as (shape.AreTests given) (tests_with given (items given) refl) there back
  where
    there : (it : BinaryTests) → TestsOn given (items given) it → shape.AreTests given it
    there (tests.Names names) s = s
    there (tests.Fault cause) s = s

    back : (it : BinaryTests) → shape.AreTests given it → TestsOn given (items given) it
    back (tests.Names names) s = s
    back (tests.Fault cause) s = s

all_tests : MeetsAll read.tests_of wrong.tests_faults shape.AreTests
all_tests = record { at = tests_at }

binary_parts : (given : Data) → Meets (read.binary_parts given) (wrong.all_of (wrong.binary_parts given)) (shape.IsBinary given)
binary_parts given =
    meets_as (shape.IsBinary given)
    (meets_then _ _ (text_of (codes "id") given) (λ id _.
    meets_then _ _ (text_of (codes "name") given) (λ name _.
    meets_then _ _ (text_of (codes "package") given) (λ owner _.
    meets_then _ _ (meets_required (codes "kind") (leaves value.kind) given) (λ kind _.
    meets_then _ _ (meets_required (codes "platform") (leaves value.platform) given) (λ platform _.
    meets_then _ _ (meets_required (codes "tests") all_tests given) (λ listed _.
    meets_ok (record { id = id; name = name; «package» = owner; kind = kind; platform = platform; tests = listed }))))))))
    (λ it s. subst (shape.IsBinary given) (sym s.1.1.1.1.1.1.1.1.1.1.1.1) (record { id = s.1.0; name = s.1.1.1.0; owner = s.1.1.1.1.1.0; kind = s.1.1.1.1.1.1.1.0; platform = s.1.1.1.1.1.1.1.1.1.0; tests = s.1.1.1.1.1.1.1.1.1.1.1.0 }))
    (λ it s. (it.id, (s.id, (it.name, (s.name, (it.«package», (s.owner, (it.kind, (s.kind, (it.platform, (s.platform, (it.tests, (s.tests, refl)))))))))))))

binaries : MeetsAll read.binary_of wrong.binary_faults shape.IsBinary
binaries = record { at = λ given. meets_object read.binary_parts wrong.binary_parts given (binary_parts given) (λ it s. has_is_object (codes "id") (shape.Is value.text) given _ s.id) }

workspace_parts : (given : Data) → Meets (read.workspace_parts given) (wrong.all_of (wrong.workspace_parts given)) (shape.IsWorkspace given)
workspace_parts given =
    meets_as (shape.IsWorkspace given)
    (meets_then _ _ (meets_required (codes "packages") (lists packages) given) (λ found _.
    meets_then _ _ (meets_required (codes "links") (lists links) given) (λ between _.
    meets_then _ _ (meets_required (codes "binaries") (lists binaries) given) (λ built _.
    meets_ok (record { packages = found; links = between; binaries = built })))))
    (λ it s. subst (shape.IsWorkspace given) (sym s.1.1.1.1.1.1) (record { packages = s.1.0; links = s.1.1.1.0; binaries = s.1.1.1.1.1.0 }))
    (λ it s. (it.packages, (s.packages, (it.links, (s.links, (it.binaries, (s.binaries, refl)))))))

pub workspaces : MeetsAll read.workspace_of wrong.workspace_faults shape.IsWorkspace
workspaces = record { at = λ given. meets_object read.workspace_parts wrong.workspace_parts given (workspace_parts given) (λ it s. has_is_object (codes "packages") (shape.IsListOf shape.IsPackage) given _ s.packages) }
