-- The run of a key in a list whose paths rise.
use Rattle.std.proofs.Common.{◌≡◌, ℕ, zero, suc, ◌+◌, ◌<◌, Bool, true, false, not, ◌&&◌, List, [], ◌∷◌, ◌++◌, length, Some, map, drop, refl, sym, ap, ◌∙◌, subst, Ordering, Less, Equal, Greater, arith}
use Rattle.std.proofs.lemmas.Bool.{and_parts, false≢true}
use Rattle.std.proofs.lemmas.Cmp.{nat_list_cmp_total}
use Rattle.std.specs.List.{list_all}
use Rattle.std.specs.Ordering.{match_ordering}
use Rattle.toml.specs.Data.{Data}
use Rattle.nextest_config_elements_toml.specs.Reading.{Path}
use Rattle.nextest_config_resolution_tree.proofs.Keys.{equal_keys, key_cmp, same_key, turned, turned_back}
use Rattle.nextest_config_resolution_tree.specs.Ends.{End, behind, cut, ends_of, is_before, rises}
use Rattle.nextest_config_resolution_tree.specs.Runs.{after, ahead, below, first_key, within}
use Rattle.nextest_config_resolution_tree.specs.declared.entry.Entry.{Entry}

and_both : (a b : Bool) → a ≡ true → b ≡ true → a && b ≡ true
and_both a b one other = rw one other

-- the first keys of paths that rise
data Rise (one other : List ℕ) (path way : Path) : Type 0 where
  rise : key_cmp one other ≡ Less → Rise one other path way
  same : one ≡ other → is_before path way ≡ true → Rise one other path way

by_order : (one other : List ℕ) (path way : Path) (order : Ordering) → key_cmp one other ≡ order → match_ordering order true (is_before path way) false ≡ true → Rise one other path way
by_order one other path way Less is e = rise is
by_order one other path way Equal is e = same (equal_keys one other is) e
by_order one other path way Greater is e = absurd (false≢true e)

rise_of : (one other : List ℕ) (path way : Path) → is_before (one ∷ path) (other ∷ way) ≡ true → Rise one other path way
rise_of one other path way e = by_order one other path way (key_cmp one other) refl e

-- what follows a key that is greater, or equal
next_greater : (key first : List ℕ) (path : Path) → key_cmp first key ≡ Greater → (other : List ℕ) (way : Path) → Rise first other path way → key_cmp other key ≡ Greater
next_greater key first path greater other way (rise less) = turned key other (nat_list_cmp_total.trans key first other (turned_back first key greater) less)
next_greater key first path greater other way (same one e) = subst (λ it. key_cmp it key ≡ Greater) one greater

after_greater : (key first : List ℕ) (path : Path) → key_cmp first key ≡ Greater → (end : End) → is_before (first ∷ path) end.0 ≡ true → after key end ≡ true
after_greater key first path greater ([], given) e = absurd (false≢true e)
after_greater key first path greater (other ∷ way, given) e = rw (next_greater key first path greater other way (rise_of first other path way e)) refl

by_rise : (key : List ℕ) (path : Path) (other : List ℕ) (way : Path) (given : Data) → Rise key other path way → not (ahead key (other ∷ way, given)) ≡ true
by_rise key path other way given (rise less) = rw (turned key other less) refl
by_rise key path other way given (same one e) = subst (λ it. not (ahead key (it ∷ way, given)) ≡ true) one (rw (same_key key) refl)

after_equal : (key : List ℕ) (path : Path) → (end : End) → is_before (key ∷ path) end.0 ≡ true → not (ahead key end) ≡ true
after_equal key path ([], given) e = absurd (false≢true e)
after_equal key path (other ∷ way, given) e = by_rise key path other way given (rise_of key other path way e)

all_of : (p q : End → Bool) → ((end : End) → p end ≡ true → q end ≡ true) → (ends : List End) → list_all p ends ≡ true → list_all q ends ≡ true
all_of p q step [] e = refl
all_of p q step (end ∷ ends) e =
    let parts = and_parts (p end) (list_all p ends) e in
    and_both (q end) (list_all q ends) (step end parts.0) (all_of p q step ends parts.1)

-- nothing of a key is behind it
below_first : (key first : List ℕ) (path : Path) (given : Data) (more : List End) (order : Ordering) → key_cmp first key ≡ order → after key (first ∷ path, given) ≡ true
    → below key more ≡ [] → below key ((first ∷ path, given) ∷ more) ≡ []
below_first key first path given more Less is e none = rw is none
below_first key first path given more Equal is e none = absurd (false≢true (subst (λ (it : Ordering). (not (match_ordering it true false false) && not (match_ordering it false true false)) ≡ true) is e))
below_first key first path given more Greater is e none = rw is none

pub below_after : (key : List ℕ) (ends : List End) → list_all (after key) ends ≡ true → below key ends ≡ []
below_after key [] e = refl
below_after key (([], given) ∷ more) e = absurd (false≢true e)
below_after key ((first ∷ path, given) ∷ more) e =
    let parts = and_parts (after key (first ∷ path, given)) (list_all (after key) more) e in
    below_first key first path given more (key_cmp first key) refl parts.0 (below_after key more parts.1)

-- a list in which none is ahead
record Tail (key : List ℕ) (ends : List End) : Type 0 where
  back : List End
  whole : ends ≡ map (behind key) (below key ends) ++ back
  is_back : list_all (after key) back ≡ true

tail_by : (key first : List ℕ) (path : Path) (given : Data) (more : List End) (order : Ordering) → key_cmp first key ≡ order
    → not (match_ordering order true false false) ≡ true → list_all (λ next. is_before (first ∷ path) next.0) more ≡ true
    → Tail key more → Tail key ((first ∷ path, given) ∷ more)
tail_by key first path given more Less is none rising behind_it = absurd (false≢true none)
tail_by key first path given more Equal is none rising behind_it = record {
  back = behind_it.back;
  whole = rw is (subst (λ it. (it ∷ path, given) ∷ more ≡ (key ∷ path, given) ∷ (map (behind key) (below key more) ++ behind_it.back)) (sym (equal_keys first key is))
      (ap (λ all. (key ∷ path, given) ∷ all) behind_it.whole));
  is_back = behind_it.is_back;
}
tail_by key first path given more Greater is none rising behind_it =
    let others : list_all (after key) more ≡ true = all_of (λ next. is_before (first ∷ path) next.0) (after key) (after_greater key first path is) more rising in
    record {
      back = (first ∷ path, given) ∷ more;
      whole = rw (is, below_after key more others) refl;
      is_back = and_both (after key (first ∷ path, given)) (list_all (after key) more) (rw is refl) others;
    }

tail : (key : List ℕ) (ends : List End) → rises ends ≡ true → list_all (λ end. not (ahead key end)) ends ≡ true → Tail key ends
tail key [] e none = record { back = []; whole = refl; is_back = refl }
tail key (([], given) ∷ more) e none = absurd (false≢true none)
tail key ((first ∷ path, given) ∷ more) e none =
    let rising = and_parts (list_all (λ next. is_before (first ∷ path) next.0) more) (rises more) e in
    let here = and_parts (not (ahead key (first ∷ path, given))) (list_all (λ end. not (ahead key end)) more) none in
    tail_by key first path given more (key_cmp first key) refl here.0 rising.0 (tail key more rising.1 here.1)

-- any list that rises
pub record Parts (key : List ℕ) (ends : List End) : Type 0 where
  pub front : List End
  pub back : List End
  pub whole : ends ≡ front ++ (map (behind key) (below key ends) ++ back)
  pub is_front : list_all (ahead key) front ≡ true
  pub is_back : list_all (after key) back ≡ true

parts_by : (key first : List ℕ) (path : Path) (given : Data) (more : List End) (order : Ordering) → key_cmp first key ≡ order
    → rises ((first ∷ path, given) ∷ more) ≡ true → Parts key more → Parts key ((first ∷ path, given) ∷ more)
parts_by key first path given more Less is e behind_it = record {
  front = (first ∷ path, given) ∷ behind_it.front;
  back = behind_it.back;
  whole = rw is (ap (λ all. (first ∷ path, given) ∷ all) behind_it.whole);
  is_front = and_both (ahead key (first ∷ path, given)) (list_all (ahead key) behind_it.front) (rw is refl) behind_it.is_front;
  is_back = behind_it.is_back;
}
parts_by key first path given more Equal is e behind_it =
    let rising = and_parts (list_all (λ next. is_before (first ∷ path) next.0) more) (rises more) e in
    let one : first ≡ key = equal_keys first key is in
    let others = all_of (λ next. is_before (key ∷ path) next.0) (λ end. not (ahead key end)) (after_equal key path) more (subst (λ it. list_all (λ (next : End). is_before (it ∷ path) next.0) more ≡ true) one rising.0) in
    let it = tail key ((first ∷ path, given) ∷ more) e (and_both (not (ahead key (first ∷ path, given))) (list_all (λ end. not (ahead key end)) more) (rw is refl) others) in
    record { front = []; back = it.back; whole = it.whole; is_front = refl; is_back = it.is_back }
parts_by key first path given more Greater is e behind_it =
    let rising = and_parts (list_all (λ next. is_before (first ∷ path) next.0) more) (rises more) e in
    let others : list_all (after key) more ≡ true = all_of (λ next. is_before (first ∷ path) next.0) (after key) (after_greater key first path is) more rising.0 in
    record {
      front = [];
      back = (first ∷ path, given) ∷ more;
      whole = rw (is, below_after key more others) refl;
      is_front = refl;
      is_back = and_both (after key (first ∷ path, given)) (list_all (after key) more) (rw is refl) others;
    }

pub parts : (key : List ℕ) (ends : List End) → rises ends ≡ true → Parts key ends
parts key [] e = record { front = []; back = []; whole = refl; is_front = refl; is_back = refl }
parts key (([], given) ∷ []) e = record { front = ([], given) ∷ []; back = []; whole = refl; is_front = refl; is_back = refl }
parts key (([], given) ∷ next ∷ more) e = absurd (false≢true e)
parts key ((first ∷ path, given) ∷ more) e =
    let rising = and_parts (list_all (λ next. is_before (first ∷ path) next.0) more) (rises more) e in
    parts_by key first path given more (key_cmp first key) refl e (parts key more rising.1)

-- what stands there is within, and what is behind it is neither within nor ahead
all_within : (key : List ℕ) (found : List End) → list_all (within key) (map (behind key) found) ≡ true
all_within key [] = refl
all_within key (end ∷ found) = rw (same_key key) (all_within key found)

none_ahead : (key : List ℕ) (found back : List End) → list_all (after key) back ≡ true → list_all (λ end. not (ahead key end)) (map (behind key) found ++ back) ≡ true
none_ahead key [] back e = all_of (after key) (λ end. not (ahead key end)) (λ end is. (and_parts (not (ahead key end)) (not (within key end)) is).0) back e
none_ahead key (end ∷ found) back e = rw (same_key key) (none_ahead key found back e)

none_within : (key : List ℕ) (back : List End) → list_all (after key) back ≡ true → list_all (λ end. not (within key end)) back ≡ true
none_within key back e = all_of (after key) (λ end. not (within key end)) (λ end is. (and_parts (not (ahead key end)) (not (within key end)) is).1) back e

pub run_of_key : (key : List ℕ) (all : List End) → rises all ≡ true → {left found : List End}
    → ((front back : List End) → all ≡ front ++ back → list_all (ahead key) front ≡ true → list_all (λ end. not (ahead key end)) back ≡ true → left ≡ back)
    → ((front back : List End) → left ≡ front ++ back → list_all (within key) front ≡ true → list_all (λ end. not (within key end)) back ≡ true → found ≡ front)
    → found ≡ map (behind key) (below key all)
run_of_key key all e passed kept =
    let it = parts key all e in
    let there = map (behind key) (below key all) in
    let left_is = passed it.front (there ++ it.back) it.whole it.is_front (none_ahead key (below key all) it.back it.is_back) in
    kept there it.back left_is (all_within key (below key all)) (none_within key it.back it.is_back)

-- one key further
drop_more : {A : Type 0} (depth : ℕ) (xs : List A) (x : A) (rest : List A) → drop depth xs ≡ x ∷ rest → drop (suc depth) xs ≡ rest
drop_more zero [] x rest e = cc
drop_more zero (y ∷ ys) x rest e = cc
drop_more (suc depth) [] x rest e = cc
drop_more (suc depth) (y ∷ ys) x rest e = drop_more depth ys x rest e

end_parts : (path way : Path) (one other : Data) → ◌≡◌ {A = End} (path, one) (way, other) → (path ≡ way) × (one ≡ other)
end_parts path way one other e = (ap (λ (it : End). it.0) e, ap (λ (it : End). it.1) e)

cons_parts : (one other : End) (more others : List End) → one ∷ more ≡ other ∷ others → (one ≡ other) × (more ≡ others)
cons_parts one other more others e = (cc, cc)

no_cons : (one : End) (more : List End) → ◌≡◌ {A = List End} (one ∷ more) [] → ⊥
no_cons one more e = cc

pub further : (key : List ℕ) (depth : ℕ) (entries : List Entry) (found : List End) → ends_of depth entries ≡ map (behind key) found → ends_of (suc depth) entries ≡ found
further key depth [] [] e = refl
further key depth [] (end ∷ found) e = absurd (no_cons (behind key end) (map (behind key) found) (sym e))
further key depth (entry ∷ entries) [] e = absurd (no_cons (cut depth entry) (ends_of depth entries) e)
further key depth (entry ∷ entries) (end ∷ found) e =
    let here = cons_parts (cut depth entry) (behind key end) (ends_of depth entries) (map (behind key) found) e in
    let paths : drop depth entry.path ≡ key ∷ end.0 = ap (λ (it : End). it.0) here.0 in
    let first : cut (suc depth) entry ≡ end = rw (drop_more depth entry.path key end.0 paths) (ap (λ given. (end.0, given)) (ap (λ (it : End). it.1) here.0)) in
    rw (first, further key depth entries found here.1) refl

pub none_found : (key : List ℕ) (found : List End) → ◌≡◌ {A = List End} [] (map (behind key) found) → found ≡ []
none_found key [] e = refl
none_found key (end ∷ found) e = absurd (no_cons (behind key end) (map (behind key) found) (sym e))

-- a path that has a key there is longer
pub longer : {A : Type 0} (depth : ℕ) (xs : List A) (x : A) (rest : List A) → drop depth xs ≡ x ∷ rest → depth < length xs
longer zero [] x rest e = cc
longer zero (y ∷ ys) x rest e = omega arith
longer (suc depth) [] x rest e = cc
longer (suc depth) (y ∷ ys) x rest e = let less = longer depth ys x rest e in omega (arith, less)

-- the run of a key rises
below_before_by : (key first : List ℕ) (path : Path) (next : Path) (given : Data) (more : List End) (order : Ordering) → key_cmp first key ≡ order
    → is_before (key ∷ path) (first ∷ next) ≡ true → list_all (λ it. is_before path it.0) (below key more) ≡ true
    → list_all (λ (it : End). is_before path it.0) (match_ordering order (below key more) ((next, given) ∷ below key more) (below key more)) ≡ true
below_before_by key first path next given more Less is e others = others
below_before_by key first path next given more Equal is e others =
    and_both (is_before path next) (list_all (λ it. is_before path it.0) (below key more))
    (subst (λ (it : Ordering). match_ordering it true (is_before path next) false ≡ true) (same_key key) (subst (λ it. is_before (key ∷ path) (it ∷ next) ≡ true) (equal_keys first key is) e)) others
below_before_by key first path next given more Greater is e others = others

below_before : (key : List ℕ) (path : Path) (ends : List End) → list_all (λ next. is_before (key ∷ path) next.0) ends ≡ true → list_all (λ next. is_before path next.0) (below key ends) ≡ true
below_before key path [] e = refl
below_before key path (([], given) ∷ more) e = absurd (false≢true e)
below_before key path ((first ∷ next, given) ∷ more) e =
    let parts = and_parts (is_before (key ∷ path) (first ∷ next)) (list_all (λ it. is_before (key ∷ path) it.0) more) e in
    below_before_by key first path next given more (key_cmp first key) refl parts.0 (below_before key path more parts.1)

rises_by : (key first : List ℕ) (path : Path) (given : Data) (more : List End) (order : Ordering) → key_cmp first key ≡ order
    → list_all (λ next. is_before (first ∷ path) next.0) more ≡ true → rises (below key more) ≡ true
    → rises (match_ordering order (below key more) ((path, given) ∷ below key more) (below key more)) ≡ true
rises_by key first path given more Less is e others = others
rises_by key first path given more Equal is e others =
    and_both (list_all (λ next. is_before path next.0) (below key more)) (rises (below key more))
    (below_before key path more (subst (λ it. list_all (λ (next : End). is_before (it ∷ path) next.0) more ≡ true) (equal_keys first key is) e)) others
rises_by key first path given more Greater is e others = others

pub rises_below : (key : List ℕ) (ends : List End) → rises ends ≡ true → rises (below key ends) ≡ true
rises_below key [] e = refl
rises_below key (([], given) ∷ more) e =
    rises_below key more (and_parts (list_all (λ next. is_before [] next.0) more) (rises more) e).1
rises_below key ((first ∷ path, given) ∷ more) e =
    let parts = and_parts (list_all (λ next. is_before (first ∷ path) next.0) more) (rises more) e in
    rises_by key first path given more (key_cmp first key) refl parts.0 (rises_below key more parts.1)

-- the entries of a key, behind one more
one_more : (depth : ℕ) → suc depth ≡ depth + 1
one_more depth = omega arith

pub is_further : (depth : ℕ) (entries : List Entry) (key : List ℕ) (found : List End) → ends_of depth entries ≡ map (behind key) found → ends_of (depth + 1) entries ≡ found
is_further depth entries key found e = subst (λ it. ends_of it entries ≡ found) (one_more depth) (further key depth entries found e)

pub rises_further : (depth : ℕ) (entries : List Entry) (key : List ℕ) (ends : List End) → rises ends ≡ true → ends_of depth entries ≡ map (behind key) (below key ends) → rises (ends_of (depth + 1) entries) ≡ true
rises_further depth entries key ends rising e = rw (is_further depth entries key (below key ends) e) (rises_below key ends rising)

deep_by : (depth : ℕ) (first : Entry) (rest : List Entry) (key : List ℕ) (found : List End) → ends_of depth (first ∷ rest) ≡ map (behind key) found → depth < length first.path
deep_by depth first rest key [] e = absurd (no_cons (cut depth first) (ends_of depth rest) e)
deep_by depth first rest key (end ∷ found) e =
    let here = cons_parts (cut depth first) (behind key end) (ends_of depth rest) (map (behind key) found) e in
    longer depth first.path key end.0 (ap (λ (it : End). it.0) here.0)

pub deep : (depth : ℕ) (entries : List Entry) (first : Entry) (rest : List Entry) (key : List ℕ) (found : List End) → entries ≡ first ∷ rest → ends_of depth entries ≡ map (behind key) found → depth < length first.path
deep depth entries first rest key found whole e = deep_by depth first rest key found (subst (λ it. ends_of depth it ≡ map (behind key) found) whole e)

-- the run of the first key, and what stands behind it
pub record FirstRun (key : List ℕ) (all : List End) : Type 0 where
  pub back : List End
  pub whole : all ≡ map (behind key) (below key all) ++ back
  pub later : list_all (after key) back ≡ true
  pub some : 0 < length (below key all)

first_run_by : (key : List ℕ) (path : Path) (given : Data) (more front back : List End) → (key ∷ path, given) ∷ more ≡ front ++ (map (behind key) (below key ((key ∷ path, given) ∷ more)) ++ back)
    → list_all (ahead key) front ≡ true → list_all (after key) back ≡ true → FirstRun key ((key ∷ path, given) ∷ more)
first_run_by key path given more [] back whole is_front is_back =
    record {
      back = back;
      whole = whole;
      later = is_back;
      some = let one : below key ((key ∷ path, given) ∷ more) ≡ (path, given) ∷ below key more = rw (same_key key) refl in subst (λ (it : List End). 0 < length it) (sym one) (omega arith);
    }
first_run_by key path given more (end ∷ front) back whole is_front is_back =
    let here : ahead key end ≡ true = (and_parts (ahead key end) (list_all (ahead key) front) is_front).0 in
    let first = (cons_parts (key ∷ path, given) end more (front ++ (map (behind key) (below key ((key ∷ path, given) ∷ more)) ++ back)) whole).0 in
    let not_ahead : ahead key (key ∷ path, given) ≡ false = rw (same_key key) refl in
    absurd (false≢true (sym not_ahead ∙ ap (ahead key) first ∙ here))

first_run : (key : List ℕ) (path : Path) (given : Data) (more : List End) → rises ((key ∷ path, given) ∷ more) ≡ true → FirstRun key ((key ∷ path, given) ∷ more)
first_run key path given more e = let it = parts key ((key ∷ path, given) ∷ more) e in first_run_by key path given more it.front it.back it.whole it.is_front it.is_back

of_first : (key : List ℕ) (first : End) (more : List End) → first_key first ≡ Some key → rises (first ∷ more) ≡ true → FirstRun key (first ∷ more)
of_first key ([], given) more at e = absurd (cc)
of_first key (other ∷ path, given) more at e =
    let one : other ≡ key = (let f = at in cc) in
    subst (λ (it : List ℕ). rises ((it ∷ path, given) ∷ more) ≡ true → FirstRun key ((it ∷ path, given) ∷ more)) (sym one) (first_run key path given more) e

pub key_run : (key : List ℕ) (depth : ℕ) (entries : List Entry) (first : Entry) (more : List Entry) → entries ≡ first ∷ more → first_key (cut depth first) ≡ Some key → rises (ends_of depth entries) ≡ true
    → FirstRun key (ends_of depth entries)
key_run key depth entries first more whole at e =
    subst (λ (it : List Entry). rises (ends_of depth it) ≡ true → FirstRun key (ends_of depth it)) (sym whole) (of_first key (cut depth first) (ends_of depth more) at) e

-- its parts
pub key_here : (key : List ℕ) (all : List End) → FirstRun key all → {found : List End}
    → ((front back : List End) → all ≡ front ++ back → list_all (within key) front ≡ true → list_all (λ end. not (within key end)) back ≡ true → found ≡ front)
    → found ≡ map (behind key) (below key all)
key_here key all it kept = kept (map (behind key) (below key all)) it.back it.whole (all_within key (below key all)) (none_within key it.back it.later)

pub key_behind : (key : List ℕ) (all : List End) → (it : FirstRun key all) → {left : List End}
    → ((front back : List End) → all ≡ front ++ back → list_all (within key) front ≡ true → list_all (λ end. not (within key end)) back ≡ true → left ≡ back)
    → left ≡ it.back
key_behind key all it kept = kept (map (behind key) (below key all)) it.back it.whole (all_within key (below key all)) (none_within key it.back it.later)

-- what stands behind some ends rises as they do
pub rises_rest : (front back : List End) → rises (front ++ back) ≡ true → rises back ≡ true
rises_rest [] back e = e
rises_rest (end ∷ front) back e = rises_rest front back (and_parts (list_all (λ next. is_before end.0 next.0) (front ++ back)) (rises (front ++ back)) e).1
