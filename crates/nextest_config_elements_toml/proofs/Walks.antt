-- What a walk over the members of a table tells where it stands.
use Rattle.std.proofs.Common.{◌≡◌, ◌<◌, ℕ, length, arith, true, false, List, [], ◌∷◌, ◌++◌, Option, None, Some, Ordering, Less, Equal, Greater, Bor, String, Global, string_bytes, nat_cmp, refl, sym, ap, ◌∙◌, subst}
use Rattle.std.specs.Prelude.{option_copied}
use Rattle.std.proofs.lemmas.Bool.{true≢false}
use Rattle.std.proofs.lemmas.Cmp.{nat_list_cmp_total}
use Rattle.std.proofs.lemmas.Map.Lookups.{exact_bytes}
use Rattle.std.specs.Cmp.Lexicographic.{slice_cmp}
use Rattle.std.specs.List.{AllByRecursion}
use Rattle.std.specs.List.Sorted.{IsStrictlySortedBy}
use Rattle.std.specs.Map.{keys_of}
use Rattle.std.specs.Map.Iter.{TakesFirst, deref_pair}
use Rattle.std.specs.Option.{option_to_list}
use Rattle.std.specs.Ordering.{is_lt, match_ordering}
use Rattle.std.specs.String.{string_cmp}
use Rattle.toml.specs.Data.{get_member}
use Rattle.toml.specs.View.{members_view, view}
use Rattle.toml.specs.declared.value.Value.{Value}
use Rattle.nextest_config_elements_toml.specs.Walks.{Entry, IsWalk, ahead, is_passed}
use Rattle.nextest_config_elements_toml.specs.declared.members.Walk.{Walk}

-- a key and what stands there, lent
abbrev Lent : Type 0
Lent = Bor (String Global) × Bor Value

-- what is ahead once the next member was taken
taken : (rest : List Entry) (next : Option Lent) (more : List Entry) → TakesFirst deref_pair rest next more → ahead next more ≡ rest
taken rest None more took = sym took.0
taken rest (Some next) more took = sym took

-- what a walk has ahead, said otherwise
told : (all : List Entry) (walk : Walk) (left : List Entry) → IsWalk all walk → ahead walk.next walk.rest ≡ left
    → (key : List ℕ) → is_passed walk.passed key ≡ false → get_member key (members_view left) ≡ get_member key (members_view all)
told all walk left is same key before = subst (λ (it : List Entry). get_member key (members_view it) ≡ get_member key (members_view all)) same (is.tells key before)

rising : (all : List Entry) (walk : Walk) (left : List Entry) → IsWalk all walk → ahead walk.next walk.rest ≡ left
    → IsStrictlySortedBy string_cmp (option_to_list (option_copied walk.passed) ++ keys_of left)
rising all walk left is same =
    subst (λ (it : List Entry). IsStrictlySortedBy string_cmp (option_to_list (option_copied walk.passed) ++ keys_of it)) same is.ascends

-- what stands at the head of what is ahead
standing : (walk : Walk) (first : Lent) → walk.next ≡ Some first → ahead walk.next walk.rest ≡ (first.0.now, first.1.now) ∷ walk.rest
standing walk first is = ap (λ (it : Option Lent). ahead it walk.rest) is

-- it begins ahead of all
pub begun : (all : List Entry) (next : Option Lent) (rest : List Entry) → IsStrictlySortedBy string_cmp (keys_of all) → TakesFirst deref_pair all next rest
    → IsWalk all (record { passed = None; next = next; rest = rest })
begun all next rest rises took = record {
  tells = λ key before. ap (λ (it : List Entry). get_member key (members_view it)) (taken all next rest took);
  ascends = subst (λ (it : List Entry). IsStrictlySortedBy string_cmp (keys_of it)) (sym (taken all next rest took)) rises;
}

-- a key isn't passed that isn't below the one where the walk stands
unpassed : (passed : Option (Bor (String Global))) (first : String Global) (more : List (String Global)) (key : List ℕ)
    → IsStrictlySortedBy string_cmp (option_to_list (option_copied passed) ++ first ∷ more) → is_lt (slice_cmp nat_cmp key (string_bytes first)) ≡ false
    → is_passed passed key ≡ false
unfolding IsStrictlySortedBy
unpassed None first more key rises behind = refl
unpassed (Some passed) first more key rises behind = rw (above key (string_bytes passed.now) (string_bytes first) rises.0.0 behind)
  where
    above : (key low high : List ℕ) → slice_cmp nat_cmp low high ≡ Less → is_lt (slice_cmp nat_cmp key high) ≡ false → slice_cmp nat_cmp key low ≡ Greater
    above key low high less behind = by_order (slice_cmp nat_cmp key low) refl
      where
        by_order : (o : Ordering) → slice_cmp nat_cmp key low ≡ o → o ≡ Greater
        by_order Less e = absurd (true≢false (sym (ap is_lt (nat_list_cmp_total.trans key low high e less)) ∙ behind))
        by_order Equal e = absurd (true≢false (sym (ap is_lt (ap (λ (it : List ℕ). slice_cmp nat_cmp it high) (exact_bytes key low e) ∙ less)) ∙ behind))
        by_order Greater e = refl

tail_rises : (passed : Option (Bor (String Global))) (left : List (String Global)) → IsStrictlySortedBy string_cmp (option_to_list (option_copied passed) ++ left)
    → IsStrictlySortedBy string_cmp left
unfolding IsStrictlySortedBy
tail_rises None left rises = rises
tail_rises (Some passed) left rises = rises.1

-- a key that isn't passed once the walk is past another is greater than that
greater_than : (passed : Bor (String Global)) (key : List ℕ) → is_passed (Some passed) key ≡ false → slice_cmp nat_cmp key (string_bytes passed.now) ≡ Greater
greater_than passed key before = by_order (slice_cmp nat_cmp key (string_bytes passed.now)) before
  where
    by_order : (o : Ordering) → match_ordering o true true false ≡ false → o ≡ Greater
    by_order Less e = absurd (true≢false e)
    by_order Equal e = absurd (true≢false e)
    by_order Greater e = refl

-- it goes on
pub moved : (all : List Entry) (walk : Walk) (first : Lent) (next : Option Lent) (rest : List Entry) → walk.next ≡ Some first
    → TakesFirst deref_pair walk.rest next rest → IsWalk all walk → IsWalk all (record { passed = Some first.0; next = next; rest = rest })
moved all walk first next rest stands took is =
    let left : List Entry = (first.0.now, first.1.now) ∷ walk.rest in
    let same : ahead walk.next walk.rest ≡ left = standing walk first stands in
    let rises = rising all walk left is same in
    record {
      tells = λ key before.
          let greater = greater_than first.0 key before in
          let it = unpassed walk.passed first.0.now (keys_of walk.rest) key rises (ap is_lt greater) in
          ap (λ (it : List Entry). get_member key (members_view it)) (taken walk.rest next rest took)
          ∙ skipped key first.0.now first.1.now walk.rest greater
          ∙ told all walk left is same key it;
      ascends = subst (λ (it : List Entry). IsStrictlySortedBy string_cmp (first.0.now ∷ keys_of it)) (sym (taken walk.rest next rest took))
          (tail_rises walk.passed (first.0.now ∷ keys_of walk.rest) rises);
    }
  where
    skipped : (key : List ℕ) (name : String Global) (value : Value) (more : List Entry) → slice_cmp nat_cmp key (string_bytes name) ≡ Greater
        → get_member key (members_view more) ≡ get_member key (members_view ((name, value) ∷ more))
    skipped key name value more greater = rw greater

-- the key where it stands
pub found : (all : List Entry) (walk : Walk) (first : Lent) (key : List ℕ) → walk.next ≡ Some first
    → slice_cmp nat_cmp key (string_bytes first.0.now) ≡ Equal → IsWalk all walk → Some (view first.1.now) ≡ get_member key (members_view all)
found all walk first key stands equal is =
    let left : List Entry = (first.0.now, first.1.now) ∷ walk.rest in
    let same : ahead walk.next walk.rest ≡ left = standing walk first stands in
    at_head key first.0.now first.1.now walk.rest equal
    ∙ told all walk left is same key (unpassed walk.passed first.0.now (keys_of walk.rest) key (rising all walk left is same) (ap is_lt equal))
  where
    at_head : (key : List ℕ) (name : String Global) (value : Value) (more : List Entry) → slice_cmp nat_cmp key (string_bytes name) ≡ Equal
        → Some (view value) ≡ get_member key (members_view ((name, value) ∷ more))
    at_head key name value more equal = rw equal

-- a key below all of some keys isn't among them
absent : (key : List ℕ) (left : List Entry) → AllByRecursion (λ it. slice_cmp nat_cmp key (string_bytes it) ≡ Less) (keys_of left)
    → get_member key (members_view left) ≡ None
absent key [] below = refl
absent key (entry ∷ more) below = rw below.0 (absent key more below.1)

below_all : (key : List ℕ) (first : String Global) (more : List (String Global)) → slice_cmp nat_cmp key (string_bytes first) ≡ Less
    → AllByRecursion (λ it. string_cmp first it ≡ Less) more → AllByRecursion (λ it. slice_cmp nat_cmp key (string_bytes it) ≡ Less) more
below_all key first [] less below = tt
below_all key first (next ∷ more) less below =
    (nat_list_cmp_total.trans key (string_bytes first) (string_bytes next) less below.0, below_all key first more less below.1)

-- a key that stands below where it is
pub missing : (all : List Entry) (walk : Walk) (first : Lent) (key : List ℕ) → walk.next ≡ Some first → is_passed walk.passed key ≡ false
    → slice_cmp nat_cmp key (string_bytes first.0.now) ≡ Less → IsWalk all walk → None ≡ get_member key (members_view all)
unfolding IsStrictlySortedBy
missing all walk first key stands before less is =
    let left : List Entry = (first.0.now, first.1.now) ∷ walk.rest in
    let same : ahead walk.next walk.rest ≡ left = standing walk first stands in
    let rises = tail_rises walk.passed (keys_of left) (rising all walk left is same) in
    sym (absent key left (less, below_all key first.0.now (keys_of walk.rest) less rises.0)) ∙ told all walk left is same key before

-- a key past all of them
pub ended : (all : List Entry) (walk : Walk) (key : List ℕ) → walk.next ≡ None → is_passed walk.passed key ≡ false → IsWalk all walk
    → None ≡ get_member key (members_view all)
ended all walk key stands before is = told all walk [] is (ap (λ (it : Option Lent). ahead it walk.rest) stands) key before

-- fewer are ahead once it went on
pub fewer : (walk : Walk) (first : Lent) (next : Option Lent) (rest : List Entry) → walk.next ≡ Some first → TakesFirst deref_pair walk.rest next rest
    → length (ahead next rest) < length (ahead walk.next walk.rest)
fewer walk first next rest stands took =
    rw (taken walk.rest next rest took, standing walk first stands) (omega arith)
