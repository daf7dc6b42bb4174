-- Tables made of the runs of their keys.
use Rattle.std.proofs.Common.{◌≡◌, ℕ, ◌+◌, ◌<◌, true, false, List, [], ◌∷◌, ◌++◌, length, map, Option, None, Some, refl, sym, ap, ◌∙◌, subst, arith, Less, Greater}
use Rattle.std.proofs.lemmas.Bool.{and_parts, false≢true}
use Rattle.std.proofs.lemmas.List.{length-append, length-map}
use Rattle.std.specs.List.{list_all}
use Rattle.toml.specs.Data.{Data, string, integer, float, boolean, datetime, array, table, Members, no_members, member}
use Rattle.nextest_config_elements_toml.specs.Reading.{Path}
use Rattle.nextest_config_resolution_tree.proofs.Keys.{key_cmp, same_key, turned}
use Rattle.nextest_config_resolution_tree.specs.Tree.{with_member}
use Rattle.nextest_config_resolution_tree.specs.Ends.{AreSorted, End, IsBefore, IsSorted, behind, ends, ends_at, members_ends}
use Rattle.nextest_config_resolution_tree.specs.Runs.{HasNoKey, PartsKey, after, leaf_of}

-- how long paths are together
abbrev pub weight : List End → ℕ
weight [] = 0
weight (end ∷ more) = length end.0 + weight more

pub weight_append : (one other : List End) → weight (one ++ other) ≡ weight one + weight other
weight_append [] other = omega arith
weight_append (end ∷ one) other = let deeper = weight_append one other in omega (arith, deeper)

pub weight_behind : (key : List ℕ) (all : List End) → weight (map (behind key) all) ≡ weight all + length all
weight_behind key [] = omega arith
weight_behind key (end ∷ all) = let deeper = weight_behind key all in omega (arith, deeper)

-- each tree ends in something
first_ends : (key : List ℕ) (more : Members) (all : List End) → 0 < length all → 0 < length (map (behind key) all ++ members_ends more)
first_ends key more [] some = absurd (omega (arith, some))
first_ends key more (end ∷ all) some = omega arith

pub some_ends : (tree : Data) → 0 < length (ends tree)
some_ends (table (member key value more)) = first_ends key more (ends value) (some_ends value)
some_ends (table no_members) = omega arith
some_ends (string text) = omega arith
some_ends (integer number) = omega arith
some_ends (float number) = omega arith
some_ends (boolean truth) = omega arith
some_ends (datetime time) = omega arith
some_ends (array items) = omega arith

-- what stands at later keys comes after a key
later_behind : (key other : List ℕ) (front more : List End) → key_cmp other key ≡ Greater → list_all (after key) more ≡ true → list_all (after key) (map (behind other) front ++ more) ≡ true
later_behind key other [] more greater later = later
later_behind key other (end ∷ front) more greater later = rw (greater, later_behind key other front more greater later) refl

pub later_members : (key : List ℕ) (members : Members) → IsBefore key members → list_all (after key) (members_ends members) ≡ true
later_members key no_members before = refl
later_members key (member other value more) before = later_behind key other (ends value) (members_ends more) (turned key other before.0) (later_members key more before.1)

-- ends of one key and later ones are parted in one way
no_cons : (end : End) (more : List End) → ◌≡◌ {A = List End} [] (end ∷ more) → ⊥
no_cons end more e = cc

heads : (one other : End) (more others : List End) → one ∷ more ≡ other ∷ others → (one ≡ other) × (more ≡ others)
heads one other more others e = (cc, cc)

not_later : (key : List ℕ) (end : End) (more rest : List End) → rest ≡ behind key end ∷ more → list_all (after key) rest ≡ true → ⊥
not_later key end more rest is later =
    let here : after key (behind key end) ≡ true = (and_parts (after key (behind key end)) (list_all (after key) more) (sym (ap (list_all (after key)) is) ∙ later)).0 in
    let never : after key (behind key end) ≡ false = rw (same_key key) refl in
    false≢true (sym never ∙ here)

same_end : (key : List ℕ) (one other : End) → behind key one ≡ behind key other → one ≡ other
same_end key (path, value) (way, given) e =
    let paths : path ≡ way = (let f = ap (λ (it : End). it.0) e in cc) in
    let values : value ≡ given = ap (λ (it : End). it.1) e in
    ap (λ (it : Path). (it, value)) paths ∙ ap (λ (it : Data). (way, it)) values

one_parting : (key : List ℕ) (one other rest more : List End) → map (behind key) one ++ rest ≡ map (behind key) other ++ more → list_all (after key) rest ≡ true → list_all (after key) more ≡ true
    → (one ≡ other) × (rest ≡ more)
one_parting key [] [] rest more whole later last = (refl, whole)
one_parting key [] (end ∷ other) rest more whole later last = absurd (not_later key end (map (behind key) other ++ more) rest whole later)
one_parting key (end ∷ one) [] rest more whole later last = absurd (not_later key end (map (behind key) one ++ rest) more (sym whole) last)
one_parting key (end ∷ one) (next ∷ other) rest more whole later last =
    let both = heads (behind key end) (behind key next) (map (behind key) one ++ rest) (map (behind key) other ++ more) whole in
    let deeper = one_parting key one other rest more both.1 later last in
    (ap (λ (it : End). it ∷ one) (same_end key end next both.0) ∙ ap (λ (it : List End). next ∷ it) deeper.0, deeper.1)

-- so the first key of a table's run is that of its first member
pub record FirstMember (key : List ℕ) (below rest : List End) (first : List ℕ) (value : Data) (more : Members) : Type 0 where
  pub one : key ≡ first
  pub here : below ≡ ends value
  pub left : rest ≡ members_ends more

first_by : (key first : List ℕ) (value : Data) (more : Members) (below values rest : List End) → 0 < length below → 0 < length values → map (behind key) below ++ rest ≡ map (behind first) values ++ members_ends more → key ≡ first
first_by key first value more [] values rest some full whole = absurd (omega (arith, some))
first_by key first value more (end ∷ below) [] rest some full whole = absurd (omega (arith, full))
first_by key first value more (end ∷ below) (next ∷ values) rest some full whole =
    let both = heads (behind key end) (behind first next) (map (behind key) below ++ rest) (map (behind first) values ++ members_ends more) whole in
    let paths = ap (λ (it : End). it.0) both.0 in (let f = paths in cc)

pub first_member : (key : List ℕ) (run below rest : List End) (first : List ℕ) (value : Data) (more : Members) → PartsKey key run below rest → IsBefore first more → run ≡ members_ends (member first value more)
    → FirstMember key below rest first value more
first_member key run below rest first value more parts before is =
    let whole = sym parts.whole ∙ is in
    let one : key ≡ first = first_by key first value more below (ends value) rest parts.some (some_ends value) whole in
    let same : map (behind key) below ++ rest ≡ map (behind key) (ends value) ++ members_ends more = whole ∙ ap (λ (it : List ℕ). map (behind it) (ends value) ++ members_ends more) (sym one) in
    let last = subst (λ (it : List ℕ). list_all (after it) (members_ends more) ≡ true) (sym one) (later_members first more before) in
    let both = one_parting key below (ends value) rest (members_ends more) same parts.later last in
    record { one = one; here = both.0; left = both.1 }

-- members behind others
abbrev pub put_behind : Members → Members → Members
put_behind no_members rest = rest
put_behind (member key value more) rest = member key value (put_behind more rest)

pub behind_none : (members : Members) → put_behind members no_members ≡ members
behind_none no_members = refl
behind_none (member key value more) = ap (member key value) (behind_none more)

behind_both : (one other third : Members) → put_behind (put_behind one other) third ≡ put_behind one (put_behind other third)
behind_both no_members other third = refl
behind_both (member key value more) other third = ap (member key value) (behind_both more other third)

before_in : (first : List ℕ) (done : Members) (key : List ℕ) (value : Data) (more : Members) → IsBefore first (put_behind done (member key value more)) → key_cmp first key ≡ Less
before_in first no_members key value more before = before.0
before_in first (member other given done) key value more before = before_in first done key value more before.1

set_last : (done : Members) (key : List ℕ) (value : Data) (more : Members) → AreSorted (put_behind done (member key value more)) → with_member key value done ≡ put_behind done (member key value no_members)
set_last no_members key value more sorted = refl
set_last (member first given done) key value more sorted =
    rw (turned first key (before_in first done key value more sorted.0)) (ap (member first given) (set_last done key value more sorted.2))

sorted_behind : (done rest : Members) → AreSorted (put_behind done rest) → AreSorted rest
sorted_behind no_members rest sorted = sorted
sorted_behind (member key value done) rest sorted = sorted_behind done rest sorted.2

-- what is left of a table of which some is made
pub record Left (members done : Members) (left : List End) : Type 0 where
  pub rest : Members
  pub ends : left ≡ members_ends rest
  pub whole : members ≡ put_behind done rest

-- one member more
pub next_member : (members done now : Members) (left below behind_it : List End) (key : List ℕ) → AreSorted members → Left members done left → PartsKey key left below behind_it
    → ((value : Data) → IsSorted value → below ≡ ends value → now ≡ with_member key value done) → Left members now behind_it
next_member members done now left below behind_it key sorted it parts adds = by_rest it.rest it.ends it.whole (sorted_behind done it.rest (subst AreSorted it.whole sorted))
  where
    by_rest : (rest : Members) → left ≡ members_ends rest → members ≡ put_behind done rest → AreSorted rest → Left members now behind_it
    by_rest no_members is whole rising =
        let none : length left ≡ 0 = ap length is in
        let size = ap length parts.whole ∙ length-append (map (behind key) below) behind_it in
        let same = length-map below (behind key) in
        let some = parts.some in
        absurd (omega (arith, none, size, same, some))
    by_rest (member first value more) is whole rising =
        let at = first_member key left below behind_it first value more parts rising.0 is in
        let made : now ≡ put_behind done (member first value no_members) =
        adds value rising.1 at.here ∙ ap (λ (it : List ℕ). with_member it value done) at.one ∙ set_last done first value more (subst AreSorted whole sorted) in
        record {
          rest = more;
          ends = at.left;
          whole = whole ∙ sym (behind_both done (member first value no_members) more) ∙ ap (λ (it : Members). put_behind it more) (sym made);
        }

-- no member is left where nothing stands at a key
pub none_left : (members done : Members) (left : List End) → Left members done left → HasNoKey left → done ≡ members
none_left members done left it none = by_rest it.rest it.ends it.whole
  where
    by_ends : (first : List ℕ) (all : List End) (more : Members) → 0 < length all → HasNoKey (map (behind first) all ++ members_ends more) → ⊥
    by_ends first [] more some none = omega (arith, some)
    by_ends first (end ∷ all) more some none = none

    by_rest : (rest : Members) → left ≡ members_ends rest → members ≡ put_behind done rest → done ≡ members
    by_rest no_members is whole = sym (whole ∙ behind_none done)
    by_rest (member first value more) is whole = absurd (by_ends first (ends value) more (some_ends value) (subst HasNoKey is none))

-- what stands where nothing does, and where a leaf does
pub none_there : (found : Option Data) (run : List End) → length run ≡ 0 → run ≡ ends_at found → ◌≡◌ {A = Option Data} None found
none_there None run none is = refl
none_there (Some tree) run none is = let some = some_ends tree in let same = ap length is in absurd (omega (arith, none, some, same))

no_leaf : (key : List ℕ) (all : List End) (more : Members) (value : Data) → 0 < length all → leaf_of (map (behind key) all ++ members_ends more) ≡ Some value → ⊥
no_leaf key [] more value some e = omega (arith, some)
no_leaf key (end ∷ []) no_members value some e = (let f = e in cc)
no_leaf key (end ∷ []) (member other given more) value some e = by_more (map (behind other) (ends given) ++ members_ends more) e where
  by_more : (rest : List End) → leaf_of (behind key end ∷ rest) ≡ Some value → ⊥
  by_more [] e = (let f = e in cc)
  by_more (next ∷ rest) e = (let f = e in cc)
no_leaf key (end ∷ next ∷ all) more value some e = (let f = e in cc)

leaf_tree : (tree value : Data) → leaf_of (ends tree) ≡ Some value → ◌≡◌ {A = Option Data} (Some value) (Some tree)
leaf_tree (table (member key given more)) value e = absurd (no_leaf key (ends given) more value (some_ends given) e)
leaf_tree (table no_members) value e = sym e
leaf_tree (string text) value e = sym e
leaf_tree (integer number) value e = sym e
leaf_tree (float number) value e = sym e
leaf_tree (boolean truth) value e = sym e
leaf_tree (datetime time) value e = sym e
leaf_tree (array items) value e = sym e

pub leaf_there : (found : Option Data) (run : List End) (value : Data) → leaf_of run ≡ Some value → run ≡ ends_at found → ◌≡◌ {A = Option Data} (Some value) found
leaf_there None run value leaf is = (let f = sym (ap leaf_of is) ∙ leaf in cc)
leaf_there (Some tree) run value leaf is = leaf_tree tree value (sym (ap leaf_of is) ∙ leaf)
