-- Tables by their keys: what a look-up finds where a value was set, and that keys stay in order.
use Rattle.std.proofs.Common.{◌≡◌, ℕ, List, Option, None, Some, refl, ap, ◌∙◌, Ordering, Less, Equal, Greater, nat_cmp}
use Rattle.std.proofs.lemmas.Cmp.{nat_list_cmp_total, tied_itself, alike_right}
use Rattle.std.proofs.lemmas.Map.Lookups.{exact_bytes}
use Rattle.std.specs.Cmp.Lexicographic.{slice_cmp}
use Rattle.std.specs.Ordering.{match_ordering, ordering_reverse}
use Rattle.toml.specs.Data.{Data, Members, no_members, member, get_member}
use Rattle.nextest_config_resolution_tree.specs.Ends.{IsBefore}
use Rattle.nextest_config_resolution_tree.specs.Tree.{with_member}

-- how keys compare
abbrev pub key_cmp : List ℕ → List ℕ → Ordering
key_cmp = slice_cmp nat_cmp

pub same_key : (key : List ℕ) → key_cmp key key ≡ Equal
same_key key = tied_itself nat_list_cmp_total key

pub turned : (one other : List ℕ) → key_cmp one other ≡ Less → key_cmp other one ≡ Greater
turned one other less = nat_list_cmp_total.antisymm other one ∙ ap ordering_reverse less

pub turned_back : (one other : List ℕ) → key_cmp one other ≡ Greater → key_cmp other one ≡ Less
turned_back one other greater = nat_list_cmp_total.antisymm other one ∙ ap ordering_reverse greater

pub equal_keys : (one other : List ℕ) → key_cmp one other ≡ Equal → one ≡ other
equal_keys one other same = exact_bytes one other same

-- what a look-up finds once a value was set
abbrev pub after_set : Ordering → Option Data → Data → Option Data
after_set order former value = match_ordering order former (Some value) former

set_behind : (beside at : Ordering) (former : Option Data) (old value : Data) → (beside ≡ Equal → at ≡ Greater)
    → match_ordering at (after_set beside former value) (Some old) (after_set beside former value)
    ≡ after_set beside (match_ordering at former (Some old) former) value
set_behind Less Less former old value apart = refl
set_behind Less Equal former old value apart = refl
set_behind Less Greater former old value apart = refl
set_behind Greater Less former old value apart = refl
set_behind Greater Equal former old value apart = refl
set_behind Greater Greater former old value apart = refl
set_behind Equal at former old value apart = rw (apart refl) refl

set_there : (order : Ordering) (former : Option Data) (old value : Data)
    → after_set order former value ≡ after_set order (match_ordering order former (Some old) former) value
set_there Less former old value = refl
set_there Equal former old value = refl
set_there Greater former old value = refl

pub get_set : (key other : List ℕ) (value : Data) (members : Members)
    → get_member key (with_member other value members) ≡ after_set (key_cmp key other) (get_member key members) value
get_set key other value no_members = refl
get_set key other value (member first old more) = by_first (key_cmp other first) refl (get_set key other value more) where
  by_first : (order : Ordering) → key_cmp other first ≡ order
      → get_member key (with_member other value more) ≡ after_set (key_cmp key other) (get_member key more) value
      → get_member key (match_ordering order (member other value (member first old more)) (member other value more) (member first old (with_member other value more)))
      ≡ after_set (key_cmp key other) (get_member key (member first old more)) value
  by_first Less e behind = refl
  by_first Equal e behind =
      rw (← alike_right nat_list_cmp_total other first key e) (set_there (key_cmp key other) (get_member key more) old value)
  by_first Greater e behind =
      rw behind (set_behind (key_cmp key other) (key_cmp key first) (get_member key more) old value
      (λ same. ap (λ k. key_cmp k first) (equal_keys key other same) ∙ e))

-- keys that come before each key of a table
pub before_less : (key other : List ℕ) (members : Members) → key_cmp key other ≡ Less → IsBefore other members → IsBefore key members
before_less key other no_members less before = tt
before_less key other (member first value more) less before =
    (nat_list_cmp_total.trans key other first less before.0, before_less key other more less before.1)

pub get_before : (key : List ℕ) (members : Members) → IsBefore key members → get_member key members ≡ None
get_before key no_members before = refl
get_before key (member first value more) before = rw before.0 (get_before key more before.1)
