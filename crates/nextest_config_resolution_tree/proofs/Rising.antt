-- Tables whose keys rise: two that have the same at each key are one.
use Rattle.std.proofs.Common.{◌≡◌, ℕ, List, [], ◌∷◌, None, Some, refl, sym, ap, ◌∙◌, subst, Ordering, Less, Equal, Greater, String, Global, string_bytes}
use Rattle.std.specs.Bool.{⊤}
use Rattle.std.specs.List.{AllByRecursion}
use Rattle.std.specs.List.Sorted.{IsStrictlySortedBy}
use Rattle.std.specs.Map.{keys_of}
use Rattle.std.specs.String.{string_cmp}
use Rattle.std.specs.Ordering.{match_ordering}
use Rattle.toml.specs.Data.{Data, Members, no_members, member, get_member}
use Rattle.toml.specs.View.{members_view}
use Rattle.nextest_config_resolution_tree.specs.Tree.{merge, over, with_member}
use Rattle.nextest_config_resolution_tree.proofs.Keys.{before_less, equal_keys, get_before, key_cmp, same_key, turned_back}
use Rattle.nextest_config_resolution_tree.proofs.Tables.{Pair, before_keys}
use Rattle.nextest_config_resolution_tree.specs.Ends.{IsBefore}
use Rattle.nextest_config_resolution_tree.specs.Gathered.{members_of}
use Rattle.nextest_config_resolution_tree.proofs.Gathered.{Entry, joined}

-- the keys of a table rise
abbrev pub Rises : Members → Type 0
Rises no_members = ⊤
Rises (member key value more) = IsBefore key more × Rises more

abbrev pub AllRise : List Members → Type 0
AllRise [] = ⊤
AllRise (members ∷ more) = Rises members × AllRise more

pub table_rises : (pairs : List Pair) → IsStrictlySortedBy string_cmp (keys_of pairs) → Rises (members_view pairs)
unfolding IsStrictlySortedBy
table_rises [] rise = tt
table_rises (pair ∷ pairs) rise = (before_keys pair.0 pairs rise.0, table_rises pairs rise.1)

-- those of what is gathered
pub before_entries : (key : String Global) (entries : List Entry) → AllByRecursion (λ other. string_cmp key other ≡ Less) (keys_of entries) → IsBefore (string_bytes key) (members_of entries)
before_entries key [] before = tt
before_entries key (entry ∷ entries) before = (before.0, before_entries key entries before.1)

pub entries_rise : (entries : List Entry) → IsStrictlySortedBy string_cmp (keys_of entries) → Rises (members_of entries)
unfolding IsStrictlySortedBy
entries_rise [] rise = tt
entries_rise (entry ∷ entries) rise = (before_entries entry.0 entries rise.0, entries_rise entries rise.1)

-- a value that is set leaves them rising, and so does a table that is put over another
set_before : (first key : List ℕ) (value : Data) (members : Members) → key_cmp first key ≡ Less → IsBefore first members → IsBefore first (with_member key value members)
set_before first key value no_members less before = (less, tt)
set_before first key value (member other old more) less before = by_key (key_cmp key other) (set_before first key value more less before.1) where
  by_key : (order : Ordering) → IsBefore first (with_member key value more)
      → IsBefore first (match_ordering order (member key value (member other old more)) (member key value more) (member other old (with_member key value more)))
  by_key Less deeper = (less, before)
  by_key Equal deeper = (less, before.1)
  by_key Greater deeper = (before.0, deeper)

set_rises : (key : List ℕ) (value : Data) (members : Members) → Rises members → Rises (with_member key value members)
set_rises key value no_members rise = (tt, tt)
set_rises key value (member other old more) rise = by_key (key_cmp key other) refl (set_rises key value more rise.1) where
  by_key : (order : Ordering) → key_cmp key other ≡ order → Rises (with_member key value more)
      → Rises (match_ordering order (member key value (member other old more)) (member key value more) (member other old (with_member key value more)))
  by_key Less e deeper = ((e, before_less key other more e rise.0), rise)
  by_key Equal e deeper = (subst (λ (k : List ℕ). IsBefore k more) (sym (equal_keys key other e)) rise.0, rise.1)
  by_key Greater e deeper = (set_before other key value more (turned_back key other e) rise.0, deeper)

merge_rises : (higher lower : Members) → Rises lower → Rises (merge higher lower)
merge_rises no_members lower rise = rise
merge_rises (member key value more) lower rise = set_rises key (over value (get_member key lower)) (merge more lower) (merge_rises more lower rise)

pub joined_rises : (tables : List Members) → AllRise tables → Rises (joined tables)
joined_rises [] rise = tt
joined_rises (highest ∷ []) rise = rise.0
joined_rises (highest ∷ next ∷ lower) rise = merge_rises highest (joined (next ∷ lower)) (joined_rises (next ∷ lower) rise.1)

-- what a table has at its first key
first_of : (key : List ℕ) (value : Data) (more : Members) → get_member key (member key value more) ≡ Some value
first_of key value more = rw (same_key key) refl

-- tables that have the same at each key are one
pub same_members : (one other : Members) → Rises one → Rises other → ((key : List ℕ) → get_member key one ≡ get_member key other) → one ≡ other
same_members no_members no_members rise also same = refl
same_members no_members (member key value more) rise also same = absurd (let e = same key ∙ first_of key value more in cc)
same_members (member key value more) no_members rise also same = absurd (let e = sym (first_of key value more) ∙ same key in cc)
same_members (member key value more) (member beside given rest) rise also same =
    by_key (key_cmp key beside) refl (same_members more rest rise.1 also.1)
  where
    by_key : (order : Ordering) → key_cmp key beside ≡ order → (((k : List ℕ) → get_member k more ≡ get_member k rest) → more ≡ rest) → member key value more ≡ member beside given rest
    by_key Less e deeper =
        let none = get_before key (member beside given rest) (e, before_less key beside rest e also.0) in
        absurd (let f = sym (first_of key value more) ∙ same key ∙ none in cc)
    by_key Greater e deeper =
        let less = turned_back key beside e in
        let none = get_before beside (member key value more) (less, before_less beside key more less rise.0) in
        absurd (let f = sym none ∙ same beside ∙ first_of beside given rest in cc)
    by_key Equal e deeper =
        let one : key ≡ beside = equal_keys key beside e in
        let there : get_member key (member beside given rest) ≡ Some given = ap (λ (k : List ℕ). get_member k (member beside given rest)) one ∙ first_of beside given rest in
        let is : value ≡ given = (let f = sym (first_of key value more) ∙ same key ∙ there in cc) in
        ap (λ (k : List ℕ). member k value more) one ∙ ap (λ (it : Data). member beside it more) is ∙ ap (member beside given) (deeper behind)
      where
        behind : (k : List ℕ) → get_member k more ≡ get_member k rest
        behind k = at (key_cmp k key) refl (same k) where
          at : (order : Ordering) → key_cmp k key ≡ order
              → match_ordering order (get_member k more) (Some value) (get_member k more) ≡ match_ordering (key_cmp k beside) (get_member k rest) (Some given) (get_member k rest)
              → get_member k more ≡ get_member k rest
          at Equal f both =
              let mine : get_member k more ≡ None = ap (λ (it : List ℕ). get_member it more) (equal_keys k key f) ∙ get_before key more rise.0 in
              let yours : get_member k rest ≡ None = ap (λ (it : List ℕ). get_member it rest) (equal_keys k key f ∙ equal_keys key beside e) ∙ get_before beside rest also.0 in
              mine ∙ sym yours
          at Less f both = both ∙ rw (sym (ap (key_cmp k) (equal_keys key beside e)) ∙ f) refl
          at Greater f both = both ∙ rw (sym (ap (key_cmp k) (equal_keys key beside e)) ∙ f) refl
