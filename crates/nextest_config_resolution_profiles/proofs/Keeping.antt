-- The groups of tests that are kept.
use Rattle.std.proofs.Common.{◌≡◌, ℕ, ◌+◌, ◌<◌, Bool, true, false, List, [], ◌∷◌, ◌++◌, Option, Some, Ordering, Less, Equal, Greater, codes, cond, length, get_or, map, take, refl, sym, ap, ◌∙◌, subst, ◌⊎◌, inl, inr}
use Rattle.std.specs.BTreeMap.{BTreeMap, Updates, get, is_at}
use Rattle.std.specs.Cmp.Lexicographic.{slice_cmp}
use Rattle.std.specs.List.{All}
use Rattle.std.specs.Option.{unwrap_or}
use Rattle.std.specs.Ordering.{is_eq, nat_cmp, ordering_then}
use Rattle.std.specs.Prelude.{◌&&◌}
use Rattle.std.specs.Str.{bytes_eq}
use Rattle.std.proofs.lemmas.List.{map_push, take_more}
use Rattle.std.proofs.lemmas.List.Elements.{All-push, Contains-append_left, Contains-push}
use Rattle.std.proofs.lemmas.Map.Text.{is_eq-slice_cmp}
use Rattle.nextest_config_elements_identifiers.specs.Groups.{text_of}
use Rattle.nextest_config_elements_identifiers.specs.declared.test_group.TestGroup.{TestGroup}
use Rattle.nextest_config_resolution_profiles.specs.Evaluatable.{Evaluatable}
use Rattle.nextest_config_resolution_profiles.specs.Held.{IsGroupFor}
use Rattle.nextest_config_resolution_profiles.specs.Memberships.{AreNames, IsOfHanded, Key, have_one_name, key_cmp, key_of, name_in}
use Rattle.nextest_filtering_filters.specs.Query.{Test, test_of}
use Rattle.nextest_filtering_filters.specs.declared.query.TestQuery.{TestQuery}

-- ---- keys

both_equal : (first second : Ordering) → is_eq (ordering_then first second) ≡ (is_eq first && is_eq second)
both_equal Less second = refl
both_equal Equal second = refl
both_equal Greater second = refl

-- keys compare as one where tests have one name
one_key : (one other : Test) → is_at (key_cmp (key_of one)) (key_of other) ≡ have_one_name one other
one_key one other =
    both_equal (slice_cmp nat_cmp one.binary.id other.binary.id) (slice_cmp nat_cmp one.name other.name)
    ∙ ap (λ (same : Bool). same && is_eq (slice_cmp nat_cmp one.name other.name)) (is_eq-slice_cmp one.binary.id other.binary.id)
    ∙ ap (λ (same : Bool). bytes_eq one.binary.id other.binary.id && same) (is_eq-slice_cmp one.name other.name)

by_cond : (test : Bool) (name otherwise : List ℕ) (found : Option (List ℕ)) → unwrap_or (cond test (Some name) found) otherwise ≡ cond test name (unwrap_or found otherwise)
by_cond true name otherwise found = refl
by_cond false name otherwise found = refl

-- the name that is kept of a test, behind an insertion
pub kept_name : (before after : BTreeMap Key (List ℕ)) (one : Test) (key : Key) (name : List ℕ) → key ≡ key_of one → Updates key_cmp before after key (Some name) → (test : Test)
    → name_in after test ≡ cond (have_one_name one test) name (name_in before test)
kept_name before after one key name same updates test =
    let global : List ℕ = codes "@global" in
    let old = get key_cmp before (key_of test) in
    ap (λ (found : Option (List ℕ)). unwrap_or found global) (updates.0 (key_of test))
    ∙ by_cond (is_at (key_cmp key) (key_of test)) name global old
    ∙ ap (λ (is : Bool). cond is name (unwrap_or old global)) (ap (λ (k : Key). is_at (key_cmp k) (key_of test)) same ∙ one_key one test)

-- ---- one more test

pub one_kept : {F S : Type 0} (OnTest : F → F → Test → Bool → Type 0) (profile : Evaluatable F S)
    (tests : List Test) (one : Test) (group : TestGroup) (before after : Test → List ℕ)
    → AreNames OnTest profile tests before → IsGroupFor OnTest profile one group
    → ((test : Test) → after test ≡ cond (have_one_name one test) (text_of group) (before test))
    → AreNames OnTest profile (tests ++ one ∷ []) after
one_kept {F} {S} OnTest profile tests one group before after are is changes test =
    by_test (have_one_name one test) refl
  where
    changed : (same : Bool) → have_one_name one test ≡ same
        → after test ≡ cond same (text_of group) (before test)
    changed same e = changes test ∙ ap (λ (b : Bool). cond b (text_of group) (before test)) e

    kept : IsOfHanded OnTest profile tests test (before test) → after test ≡ before test
        → IsOfHanded OnTest profile (tests ++ one ∷ []) test (after test)
    kept of same = record {
      handed = of.handed;
      among = Contains-append_left tests (one ∷ []) of.handed of.among;
      one = of.one;
      group = of.group;
      is = of.is;
      named = same ∙ of.named;
    }

    by_test : (same : Bool) → have_one_name one test ≡ same
        → IsOfHanded OnTest profile (tests ++ one ∷ []) test (after test)
        ⊎ (All (λ handed. have_one_name handed test ≡ false) (tests ++ one ∷ [])
        × (after test ≡ codes "@global"))
    by_test true e = inl (record {
      handed = one;
      among = Contains-push tests one;
      one = e;
      group = group;
      is = is;
      named = changed true e;
    })
    by_test false e = elim (are test) [
      | inl of ↦ inl (kept of (changed false e))
      | inr none ↦ inr (
        All-push (λ (handed : Test). have_one_name handed test ≡ false) tests one none.0 e,
        changed false e ∙ none.1,
      )
    ]

-- as a loop comes to it
pub next_kept : {F S : Type 0} (OnTest : F → F → Test → Bool → Type 0) (profile : Evaluatable F S)
    (tests : List TestQuery) (place : ℕ) (d : TestQuery) (group : TestGroup)
    (before after : Test → List ℕ)
    → place < length tests → AreNames OnTest profile (map test_of (take place tests)) before
    → IsGroupFor OnTest profile (test_of (get_or tests place d)) group
    → ((test : Test) → after test
    ≡ cond (have_one_name (test_of (get_or tests place d)) test) (text_of group) (before test))
    → AreNames OnTest profile (map test_of (take (place + 1) tests)) after
next_kept OnTest profile tests place d group before after within are is changes =
    subst (λ (them : List Test). AreNames OnTest profile them after)
    (sym (ap (map test_of) (take_more tests place d within)
    ∙ map_push test_of (take place tests) (get_or tests place d)))
    (one_kept OnTest profile (map test_of (take place tests)) (test_of (get_or tests place d)) group
    before after are is changes)
