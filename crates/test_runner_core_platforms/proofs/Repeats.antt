-- Facts that grow by one, and the set of the keys so far.
use Rattle.std.proofs.Common.{◌≡◌, ℕ, ◌+◌, ◌<◌, List, [], ◌∷◌, ◌++◌, length, get_or, take, drop, Bool, true, false, cond, refl, ap, sym, ◌∙◌}
use Rattle.std.specs.Prelude.{◌||◌, ◌&&◌, Option, Some, None, option_copied}
use Rattle.std.specs.List.{list_any}
use Rattle.std.specs.Str.{bytes_eq}
use Rattle.std.specs.declared.cmp.Ordering.{Ordering}
use Rattle.std.specs.declared.cmp.Ordering.TheVariants.{Less, Equal, Greater}
use Rattle.std.specs.Ordering.{nat_cmp, is_eq, ordering_then}
use Rattle.std.specs.Option.{option_cmp}
use Rattle.std.specs.Cmp.Lexicographic.{slice_cmp, nat_list_eq_equiv}
use Rattle.std.specs.BTreeSet.{BTreeSet, Updates, contains_by}
use Rattle.std.proofs.lemmas.List.{take_more, take-append-drop}
use Rattle.std.proofs.lemmas.List.Folds.{list_any-append}
use Rattle.std.proofs.lemmas.Map.Text.{is_eq-slice_cmp}
use denote.Ref.{Bor}
use Rattle.test_runner_core_platforms.specs.Facts.{same_value, is_of, has_repeat}
use Rattle.test_runner_core_platforms.specs.declared.fact.Fact.{Fact}

-- the name and the value of a fact, lent
abbrev pub Key : Type 0
Key = Bor (List ℕ) × Option (Bor (List ℕ))

abbrev pub compare : Key → Key → Ordering
compare x y = ordering_then (slice_cmp nat_cmp x.0.now y.0.now) (option_cmp (λ a b. slice_cmp nat_cmp a.now b.now) x.1 y.1)

-- a set has the key
abbrev pub has : BTreeSet Key → Key → Bool
has set q = contains_by (compare q) set

-- a fact has the key
abbrev pub holds : Key → Fact → Bool
holds q it = is_of q.0.now (option_copied q.1) it

-- it is the key of that fact
pub record IsKeyOf (key : Key) (it : Fact) : Type 0 where
  pub name : key.0.now ≡ it.name
  pub value : option_copied key.1 ≡ it.value

then_is : (o p : Ordering) → is_eq (ordering_then o p) ≡ (is_eq o && is_eq p)
then_is Less p = refl
then_is Equal p = refl
then_is Greater p = refl

value_is : (x y : Option (Bor (List ℕ))) → is_eq (option_cmp (λ a b. slice_cmp nat_cmp a.now b.now) x y) ≡ same_value (option_copied x) (option_copied y)
value_is None None = refl
value_is None (Some y) = refl
value_is (Some x) None = refl
value_is (Some x) (Some y) = is_eq-slice_cmp x.now y.now

compare_is : (x y : Key) → is_eq (compare x y) ≡ (bytes_eq x.0.now y.0.now && same_value (option_copied x.1) (option_copied y.1))
compare_is x y =
    then_is (slice_cmp nat_cmp x.0.now y.0.now) (option_cmp (λ a b. slice_cmp nat_cmp a.now b.now) x.1 y.1)
    ∙ ap (λ (b : Bool). b && is_eq (option_cmp (λ a b. slice_cmp nat_cmp a.now b.now) x.1 y.1)) (is_eq-slice_cmp x.0.now y.0.now)
    ∙ ap (λ (b : Bool). bytes_eq x.0.now y.0.now && b) (value_is x.1 y.1)

value_symm : (a b : Option (List ℕ)) → same_value a b ≡ same_value b a
value_symm None None = refl
value_symm None (Some b) = refl
value_symm (Some a) None = refl
value_symm (Some a) (Some b) = nat_list_eq_equiv.symm a b

is_of_symm : (a b : List ℕ) (v w : Option (List ℕ)) → (bytes_eq a b && same_value v w) ≡ (bytes_eq b a && same_value w v)
is_of_symm a b v w = ap (λ (x : Bool). x && same_value v w) (nat_list_eq_equiv.symm a b) ∙ ap (λ (x : Bool). bytes_eq b a && x) (value_symm v w)

-- the key of a fact compares as the fact does
key_is : (key q : Key) (it : Fact) → IsKeyOf key it → is_eq (compare key q) ≡ holds q it
key_is key q it of =
    compare_is key q
    ∙ is_of_symm key.0.now q.0.now (option_copied key.1) (option_copied q.1)
    ∙ ap (λ (n : List ℕ). bytes_eq q.0.now n && same_value (option_copied q.1) (option_copied key.1)) of.name
    ∙ ap (λ (v : Option (List ℕ)). bytes_eq q.0.now it.name && same_value (option_copied q.1) v) of.value

taken : (c m : Bool) → cond c true m ≡ (m || (c || false))
taken true true = refl
taken true false = refl
taken false true = refl
taken false false = refl

-- a set of keys with one more in it
pub has_more : (set new : BTreeSet Key) (key : Key) (it : Fact) (facts : List Fact) → IsKeyOf key it → Updates compare set new key true
    → ((q : Key) → has set q ≡ list_any (holds q) facts) → (q : Key) → has new q ≡ list_any (holds q) (facts ++ it ∷ [])
has_more set new key it facts of update before q =
    let one : has new q ≡ cond (is_eq (compare key q)) true (has set q) = update.0 q in
    one
    ∙ ap (λ (b : Bool). cond b true (has set q)) (key_is key q it of)
    ∙ ap (λ (b : Bool). cond (holds q it) true b) (before q)
    ∙ taken (holds q it) (list_any (holds q) facts)
    ∙ sym (list_any-append (holds q) facts (it ∷ []))

reorder : (a e m r : Bool) → ((a || (e || false)) || (m || r)) ≡ ((e || m) || (a || r))
reorder true true m r = refl
reorder true false true r = refl
reorder true false false r = refl
reorder false true m r = refl
reorder false false true r = refl
reorder false false false r = refl

-- a list with one more fact at its end repeats if it did before or if the new one is there already
repeat-push : (facts : List Fact) (it : Fact) → has_repeat (facts ++ it ∷ []) ≡ (list_any (is_of it.name it.value) facts || has_repeat facts)
repeat-push [] it = refl
repeat-push (first ∷ facts) it =
    ap (λ (b : Bool). b || has_repeat (facts ++ it ∷ [])) (list_any-append (is_of first.name first.value) facts (it ∷ []))
    ∙ ap (λ (b : Bool). (list_any (is_of first.name first.value) facts || (is_of first.name first.value it || false)) || b) (repeat-push facts it)
    ∙ ap (λ (b : Bool). (list_any (is_of first.name first.value) facts || (b || false)) || (list_any (is_of it.name it.value) facts || has_repeat facts))
    (is_of_symm first.name it.name first.value it.value)
    ∙ reorder (list_any (is_of first.name first.value) facts) (is_of it.name it.value first) (list_any (is_of it.name it.value) facts) (has_repeat facts)

any_kept : (p : Fact → Bool) (facts more : List Fact) → list_any p facts ≡ true → list_any p (facts ++ more) ≡ true
any_kept p facts more e = list_any-append p facts more ∙ ap (λ (b : Bool). b || list_any p more) e

one_kept : (a b x y : Bool) → (a ≡ true → x ≡ true) → (b ≡ true → y ≡ true) → (a || b) ≡ true → (x || y) ≡ true
one_kept true b x y f g e = ap (λ (c : Bool). c || y) (f refl)
one_kept false b true y f g e = refl
one_kept false b false y f g e = g e

-- what repeats stays so
repeat_kept : (facts more : List Fact) → has_repeat facts ≡ true → has_repeat (facts ++ more) ≡ true
repeat_kept [] more e = Prim.cc
repeat_kept (first ∷ facts) more e =
    one_kept (list_any (is_of first.name first.value) facts) (has_repeat facts) (list_any (is_of first.name first.value) (facts ++ more)) (has_repeat (facts ++ more))
    (any_kept (is_of first.name first.value) facts more) (repeat_kept facts more) e

-- the fact has the key
key_of : (key : Key) (it : Fact) (facts : List Fact) → IsKeyOf key it → list_any (holds key) facts ≡ list_any (is_of it.name it.value) facts
key_of key it facts of =
    ap (λ (n : List ℕ). list_any (is_of n (option_copied key.1)) facts) of.name ∙ ap (λ (v : Option (List ℕ)). list_any (is_of it.name v) facts) of.value

pushed : (set : BTreeSet Key) (key : Key) (it : Fact) (facts : List Fact) (b : Bool) → IsKeyOf key it → ((q : Key) → has set q ≡ list_any (holds q) facts) → has set key ≡ b → has_repeat facts ≡ false
    → has_repeat (facts ++ it ∷ []) ≡ b
pushed set key it facts b of same found before =
    repeat-push facts it
    ∙ ap (λ (x : Bool). x || has_repeat facts) (sym (key_of key it facts of) ∙ (sym (same key) ∙ found))
    ∙ ap (λ (x : Bool). b || x) before
    ∙ or_false b
  where
    or_false : (x : Bool) → (x || false) ≡ x
    or_false true = refl
    or_false false = refl

-- a fact whose key the set of the first ones has repeats
pub repeats : (set : BTreeSet Key) (facts : List Fact) (i : ℕ) (key : Key) (it : Fact) → i < length facts → get_or facts i it ≡ it → IsKeyOf key it
    → ((q : Key) → has set q ≡ list_any (holds q) (take i facts)) → has set key ≡ true → has_repeat (take i facts) ≡ false → has_repeat facts ≡ true
repeats set facts i key it within at of same found before =
    ap has_repeat (sym (take-append-drop (i + 1) facts))
    ∙ repeat_kept (take (i + 1) facts) (drop (i + 1) facts)
    (ap has_repeat (take_more facts i it within ∙ ap (λ (x : Fact). take i facts ++ x ∷ []) at) ∙ pushed set key it (take i facts) true of same found before)

-- one whose key it hasn't is new
pub single : (set : BTreeSet Key) (facts : List Fact) (i : ℕ) (key : Key) (it : Fact) → i < length facts → get_or facts i it ≡ it → IsKeyOf key it
    → ((q : Key) → has set q ≡ list_any (holds q) (take i facts)) → has set key ≡ false → has_repeat (take i facts) ≡ false → has_repeat (take (i + 1) facts) ≡ false
single set facts i key it within at of same found before =
    ap has_repeat (take_more facts i it within ∙ ap (λ (x : Fact). take i facts ++ x ∷ []) at) ∙ pushed set key it (take i facts) false of same found before

-- and the set with it has the keys of one more
pub known_more : (set new : BTreeSet Key) (facts : List Fact) (i : ℕ) (key : Key) (it : Fact) → i < length facts → get_or facts i it ≡ it → IsKeyOf key it → Updates compare set new key true
    → ((q : Key) → has set q ≡ list_any (holds q) (take i facts)) → (q : Key) → has new q ≡ list_any (holds q) (take (i + 1) facts)
known_more set new facts i key it within at of update same q =
    has_more set new key it (take i facts) of update same q
    ∙ ap (list_any (holds q)) (sym (take_more facts i it within ∙ ap (λ (x : Fact). take i facts ++ x ∷ []) at))
