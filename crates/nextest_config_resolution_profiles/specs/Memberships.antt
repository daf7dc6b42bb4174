-- The groups of tests, as they are kept for those who ask for them later.
use Rattle.std.specs.Prelude.{◌≡◌, ◌⊎◌, ℕ, Bool, true, false, ◌&&◌, List, All, Contains, codes, unwrap_or}
use Rattle.std.specs.BTreeMap.{BTreeMap, get}
use Rattle.std.specs.Cmp.Lexicographic.{slice_cmp}
use Rattle.std.specs.List.{IsDistinct}
use Rattle.std.specs.Option.{option_map_or}
use Rattle.std.specs.Ordering.{nat_cmp, ordering_then}
use Rattle.std.specs.Str.{bytes_eq}
use Rattle.std.specs.declared.cmp.Ordering.{Ordering}
use Rattle.nextest_config_elements_identifiers.specs.Groups.{text_of}
use Rattle.nextest_config_elements_identifiers.specs.declared.test_group.TestGroup.{TestGroup}
use Rattle.nextest_config_resolution_profiles.specs.Evaluatable.{Evaluatable}
use Rattle.nextest_config_resolution_profiles.specs.Held.{IsGroupFor}
use Rattle.nextest_config_resolution_profiles.specs.declared.memberships.PrecomputedGroupMembership.{PrecomputedGroupMembership}
use Rattle.nextest_filtering_filters.specs.Query.{Test}

-- a test by the id of its binary and its own name, which are compared in this order
abbrev pub Key : Type 0
Key = List ℕ × List ℕ

abbrev pub key_of : Test → Key
key_of test = (test.binary.id, test.name)

abbrev pub key_cmp : Key → Key → Ordering
key_cmp one other = ordering_then (slice_cmp nat_cmp one.0 other.0) (slice_cmp nat_cmp one.1 other.1)

-- the name that stands in a map for a test, which is that of the global group where none does
abbrev pub name_in : BTreeMap Key (List ℕ) → Test → List ℕ
name_in groups test = unwrap_or (get key_cmp groups (key_of test)) (codes "@global")

-- the name of the group that is kept of a test, which is the global one where no map is
abbrev pub group_name : PrecomputedGroupMembership → Test → List ℕ
group_name it test = option_map_or (λ groups. name_in groups.value test) it.groups (codes "@global")

-- two tests have one name, in binaries of one id
abbrev pub have_one_name : Test → Test → Bool
have_one_name one other = bytes_eq one.binary.id other.binary.id && bytes_eq one.name other.name

-- it is the name of the group of one of these tests, which has the name of this one
pub record IsOfHanded {F S : Type 0} (OnTest : F → F → Test → Bool → Type 0) (profile : Evaluatable F S) (tests : List Test) (test : Test) (name : List ℕ) : Type 0 where
  pub handed : Test
  pub among : Contains tests handed
  pub one : have_one_name handed test ≡ true
  pub group : TestGroup
  pub is : IsGroupFor OnTest profile handed group
  pub named : name ≡ text_of group

-- these are the names of groups for some tests: a test of the name of one of these has that of its
-- group, and any other that of the global one
abbrev pub AreNames : {F S : Type 0} → (F → F → Test → Bool → Type 0) → Evaluatable F S → List Test
    → (Test → List ℕ) → Type 0
AreNames OnTest profile tests name_of = (test : Test)
    → IsOfHanded OnTest profile tests test (name_of test)
    ⊎ (All (λ handed. have_one_name handed test ≡ false) tests × (name_of test ≡ codes "@global"))

-- what is kept of some tests: a test of the name of one of these has its group, and any other the
-- global one
abbrev pub ArePrecomputed : {F S : Type 0} → (F → F → Test → Bool → Type 0) → Evaluatable F S → List Test → PrecomputedGroupMembership → Type 0
ArePrecomputed OnTest profile tests it = AreNames OnTest profile tests (group_name it)

-- what is kept of tests of which no two have one name is the group of each of them, and of any other
-- test the global one
pub record KeepsGroups {F S : Type 0} (OnTest : F → F → Test → Bool → Type 0) (profile : Evaluatable F S) (tests : List Test) (it : PrecomputedGroupMembership) : Type 0 where
  pub handed : (test : Test) (group : TestGroup) → Contains tests test → IsGroupFor OnTest profile test group → group_name it test ≡ text_of group
  pub others : (test : Test) → All (λ handed. have_one_name handed test ≡ false) tests → group_name it test ≡ codes "@global"

abbrev pub PrecomputedMembers : {F : Type 0} → (F → F → Test → Bool → Type 0) → Type 0 → Type 0
PrecomputedMembers {F} OnTest S = (profile : Evaluatable F S) (tests : List Test) (it : PrecomputedGroupMembership)
    → IsDistinct have_one_name tests → ArePrecomputed OnTest profile tests it → KeepsGroups OnTest profile tests it
