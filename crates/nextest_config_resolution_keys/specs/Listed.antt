-- What a list of keys reads, key by key.
use Rattle.std.proofs.Common.{◌≡◌, Bool, true, false, List, [], ◌∷◌, ◌++◌, Option, Some, None, Ok, Err, refl, sym, ap, ◌∙◌, subst, nat_cmp, Ordering, Less, Equal, Greater}
use Rattle.std.proofs.lemmas.Cmp.{lists_total, nat_list_cmp_total, upto}
use Rattle.std.specs.Cmp.{IsTotalOrder}
use Rattle.std.specs.Cmp.Lexicographic.{slice_cmp}
use Rattle.std.specs.Ordering.{is_gt, match_ordering, ordering_reverse}
use Rattle.toml.specs.Data.{Members}
use Rattle.nextest_config_elements_toml.specs.Reading.{Path, Reading}
use Rattle.nextest_config_resolution_keys.specs.Keys.{Key, value_of}
use Rattle.nextest_config_resolution_keys.specs.Rows.{Row, both, joined, least, least_of, made_of, refusal, refusal_of, row_of}

-- two readings refuse what the one or the other does
pub joined_refuses : {A B : Type 0} (one : Reading A) (other : Reading B) → refusal_of (joined one other) ≡ least_of (refusal_of one) (refusal_of other)
joined_refuses (Ok x) (Ok y) = refl
joined_refuses (Ok x) (Err path) = refl
joined_refuses (Err path) (Ok y) = refl
joined_refuses (Err path) (Err other) = refl

pub refuses_both : {A B : Type 0} (key : Key A) (others : Members → Reading B) (rows : List Row)
    → ((given : Members) → refusal_of (others given) ≡ refusal rows given)
    → (given : Members) → refusal_of (both (value_of key) others given) ≡ refusal (row_of key ∷ rows) given
refuses_both key others rows refuses given =
    joined_refuses (value_of key given) (others given) ∙ ap (least_of (refusal_of (value_of key given))) (refuses given)

abbrev from_ok : {A : Type 0} → A → Reading A → A
from_ok other (Ok x) = x
from_ok other (Err path) = other

abbrev IsOk : {A : Type 0} → Reading A → Type 0
IsOk (Ok x) = Unit {0}
IsOk (Err path) = ⊥

ok_inj : {A : Type 0} (x y : A) → ◌≡◌ {A = Reading A} (Ok x) (Ok y) → x ≡ y
ok_inj x y e = ap (from_ok x) e

no_ok : {A : Type 0} (path : Path) (x : A) → ◌≡◌ {A = Reading A} (Err path) (Ok x) → ⊥
no_ok path x e = subst IsOk (sym e) tt

-- what both give is what each gives
pub joined_parts : {A B : Type 0} (one : Reading A) (other : Reading B) (values : A × B) → joined one other ≡ Ok values → (one ≡ Ok values.0) × (other ≡ Ok values.1)
joined_parts (Ok x) (Ok y) values e =
    let same : (x, y) ≡ values = ok_inj (x, y) values e in
    (ap (λ it. Ok it.0) same, ap (λ it. Ok it.1) same)
joined_parts (Ok x) (Err path) values e = absurd (no_ok path values e)
joined_parts (Err path) (Ok y) values e = absurd (no_ok path values e)
joined_parts (Err path) (Err other) values e = absurd (no_ok _ values e)

-- what was read of the first key, and of one behind it
pub reads_first : {A B : Type 0} (key : Key A) (others : Members → Reading B)
    → (given : Members) (values : Option A × B) → both (value_of key) others given ≡ Ok values → value_of key given ≡ Ok values.0
reads_first key others given values e = (joined_parts (value_of key given) (others given) values e).0

pub reads_behind : {A B C : Type 0} (key : Key A) (others : Members → Reading B) (wanted : Key C) (value : B → Option C)
    → ((given : Members) (values : B) → others given ≡ Ok values → value_of wanted given ≡ Ok (value values))
    → (given : Members) (values : Option A × B) → both (value_of key) others given ≡ Ok values → value_of wanted given ≡ Ok (value values.1)
reads_behind key others wanted value reads given values e = reads given values.1 (joined_parts (value_of key given) (others given) values e).1

-- ---- several lists of keys, one behind the other

-- the first of two, by whether the one comes behind the other
abbrev first_by : {K : Type 0} → Bool → K → K → K
first_by true a b = b
first_by false a b = a

behind_all : {K : Type 0} (R : K → K → Ordering) → IsTotalOrder R → (a b c : K) → R a b ≡ Greater → R b c ≡ Greater → R a c ≡ Greater
behind_all R total a b c one other =
    let before_a : R b a ≡ Less = total.antisymm b a ∙ ap ordering_reverse one in
    let before_b : R c b ≡ Less = total.antisymm c b ∙ ap ordering_reverse other in
    total.antisymm a c ∙ ap ordering_reverse (total.trans c b a before_b before_a)

greater : (order : Ordering) → is_gt order ≡ true → order ≡ Greater
greater Greater e = refl
greater Less e = absurd (cc)
greater Equal e = absurd (cc)

first_assoc : {K : Type 0} (R : K → K → Ordering) → IsTotalOrder R → (a b c : K) (ab bc ac : Bool) → is_gt (R a b) ≡ ab → is_gt (R b c) ≡ bc → is_gt (R a c) ≡ ac
    → first_by (is_gt (R (first_by ab a b) c)) (first_by ab a b) c ≡ first_by (is_gt (R a (first_by bc b c))) a (first_by bc b c)
first_assoc R total a b c false false ac e f g =
    let here : is_gt (R a c) ≡ false = upto total a b c e f in rw (here, e) refl
first_assoc R total a b c false true ac e f g = refl
first_assoc R total a b c true false ac e f g = rw (e, f) refl
first_assoc R total a b c true true ac e f g =
    let here : is_gt (R a c) ≡ true = ap is_gt (behind_all R total a b c (greater (R a b) e) (greater (R b c) f)) in rw (f, here) refl

by_order : {K : Type 0} (order : Ordering) (a b : K) → match_ordering order a a b ≡ first_by (is_gt order) a b
by_order Less a b = refl
by_order Equal a b = refl
by_order Greater a b = refl

least_first : (a b : Path) → least a b ≡ first_by (is_gt (slice_cmp (slice_cmp nat_cmp) a b)) a b
least_first a b = by_order (slice_cmp (slice_cmp nat_cmp) a b) a b

least_assoc : (a b c : Path) → least (least a b) c ≡ least a (least b c)
least_assoc a b c =
    let R : Path → Path → Ordering = slice_cmp (slice_cmp nat_cmp) in
    least_first (least a b) c
    ∙ ap (λ (it : Path). first_by (is_gt (R it c)) it c) (least_first a b)
    ∙ first_assoc R (lists_total nat_list_cmp_total) a b c (is_gt (R a b)) (is_gt (R b c)) (is_gt (R a c)) refl refl refl
    ∙ ap (λ (it : Path). first_by (is_gt (R a it)) a it) (sym (least_first b c))
    ∙ sym (least_first a (least b c))

least_of_assoc : (a b c : Option Path) → least_of (least_of a b) c ≡ least_of a (least_of b c)
least_of_assoc None b c = refl
least_of_assoc (Some a) None c = refl
least_of_assoc (Some a) (Some b) None = refl
least_of_assoc (Some a) (Some b) (Some c) = ap Some (least_assoc a b c)

none_of : (a : Option Path) → least_of None a ≡ a
none_of a = refl

refusal_append : (rows more : List Row) (given : Members) → refusal (rows ++ more) given ≡ least_of (refusal rows given) (refusal more given)
refusal_append [] more given = refl
refusal_append (row ∷ rows) more given =
    ap (least_of (row.refused given)) (refusal_append rows more given) ∙ sym (least_of_assoc (row.refused given) (refusal rows given) (refusal more given))

pub refuses_lists : {A B : Type 0} (one : Members → Reading A) (other : Members → Reading B) (rows more : List Row)
    → ((given : Members) → refusal_of (one given) ≡ refusal rows given) → ((given : Members) → refusal_of (other given) ≡ refusal more given)
    → (given : Members) → refusal_of (both one other given) ≡ refusal (rows ++ more) given
refuses_lists one other rows more first second given =
    joined_refuses (one given) (other given) ∙ ap (λ it. least_of it (refusal_of (other given))) (first given)
    ∙ ap (least_of (refusal rows given)) (second given) ∙ sym (refusal_append rows more given)

-- ---- what is made of what a reading gives

-- it was read, of something
pub record IsMadeOf {A B : Type 0} (make : A → B) (x : Reading A) (it : B) : Type 0 where
  pub values : A
  pub reads : x ≡ Ok values
  pub is : make values ≡ it

pub read_of : {A B : Type 0} (make : A → B) (x : Reading A) (it : B) → made_of make x ≡ Ok it → IsMadeOf make x it
read_of make (Ok values) it e = record { values = values; reads = refl; is = ok_inj (make values) it e }
read_of make (Err path) it e = absurd (let g = e in cc)
