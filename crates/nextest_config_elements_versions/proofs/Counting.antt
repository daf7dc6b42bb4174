-- Which ask counts, by a walk from the last one.
use Rattle.std.proofs.Common.{◌≡◌, Bool, true, false, not, List, [], ◌∷◌, ◌++◌, refl, sym, ap, ◌∙◌, subst, inl, inr, Ordering, Less, Equal, Greater}
use Rattle.std.proofs.lemmas.Bool.{cases_Bool, cond-true, cond-false, and_parts, false≢true}
use Rattle.std.proofs.lemmas.List.Folds.{list_all-append}
use Rattle.std.specs.Cmp.{IsTotalOrder, then_total, on_total, nat_cmp_total, upto}
use Rattle.std.specs.List.{list_all}
use Rattle.std.specs.Ordering.{is_gt, ordering_reverse}
use Rattle.semver.specs.OrderLaws.{pre_total}
use Rattle.semver.specs.Parse.{Parts}
use Rattle.nextest_version.specs.Order.{precedence, is_above}
use Rattle.nextest_config_elements_versions.specs.Verdict.{Ask, Counts, IsReq, later_of}
use Rattle.nextest_config_elements_versions.specs.declared.version_req.NextestVersionReq.{NextestVersionReq}
use Rattle.nextest_config_elements_versions.specs.declared.version_req.NextestVersionReq.TheVariants as req

-- precedence is a total order
pub precedence_total : IsTotalOrder precedence
precedence_total =
    then_total (on_total (λ (it : Parts). it.0) nat_cmp_total) (then_total (on_total (λ (it : Parts). it.1) nat_cmp_total)
    (then_total (on_total (λ (it : Parts). it.2) nat_cmp_total) (on_total (λ (it : Parts). it.3) pre_total)))

above_upto : (x y z : Parts) → is_above x y ≡ false → is_above y z ≡ false → is_above x z ≡ false
above_upto x y z = upto precedence_total x y z

above_low : (x y z : Parts) → is_above x y ≡ true → is_above z y ≡ false → is_above x z ≡ true
above_low x y z above low = elim (cases_Bool (is_above x z)) [
  | inl higher ↦ higher
  | inr lower ↦ absurd (false≢true (sym (above_upto x z y lower low) ∙ above))
]

turned : (r s : Ordering) → r ≡ ordering_reverse s → is_gt r ≡ true → is_gt s ≡ false
turned r Less same greater = refl
turned r Equal same greater = refl
turned r Greater same greater = absurd (false≢true (sym (ap is_gt same) ∙ greater))

above_less : (x y z : Parts) → is_above x y ≡ true → is_above y z ≡ true → is_above x z ≡ true
above_less x y z above more =
    above_low x y z above (turned (precedence y z) (precedence z y) (precedence_total.antisymm y z) more)

not_false : (b : Bool) → not b ≡ true → b ≡ false
not_false true e = sym e
not_false false e = refl

-- what counts of one ask
abbrev pub of_ask : Ask → NextestVersionReq
of_ask ask = req.Version ask.0 ask.1

-- what counts of a list, by a walk from its last ask
abbrev pub counted : List Ask → NextestVersionReq
counted [] = req.None
counted (ask ∷ more) = later_of (of_ask ask) (counted more)

-- a test that holds of what is kept
abbrev Meets : (Ask → Bool) → NextestVersionReq → Type 0
Meets test (req.Version version source) = test (version, source) ≡ true
Meets test req.None = Unit {0}

later_meets : (test : Ask → Bool) (one other : NextestVersionReq) → Meets test one → Meets test other → Meets test (later_of one other)
later_meets test one req.None a b = a
later_meets test req.None (req.Version version source) a b = b
later_meets test (req.Version former asked_by) (req.Version version source) a b = elim (cases_Bool (is_above former version)) [
  | inl above ↦ rw above a
  | inr low ↦ rw low b
]

counted_meets : (test : Ask → Bool) (asks : List Ask) → list_all test asks ≡ true → Meets test (counted asks)
counted_meets test [] all = tt
counted_meets test (ask ∷ more) all =
    let (here, rest) = and_parts (test ask) (list_all test more) all in
    later_meets test (of_ask ask) (counted more) here (counted_meets test more rest)

first_over : (ask : Ask) (other : NextestVersionReq) → Meets (λ it. is_above ask.0 it.0) other → later_of (of_ask ask) other ≡ of_ask ask
first_over ask req.None meets = refl
first_over ask (req.Version version source) meets = cond-true _ _ _ meets

before_counts : (before : List Ask) (ask : Ask) (behind : List Ask) → list_all (λ other. not (is_above other.0 ask.0)) before ≡ true
    → list_all (λ other. is_above ask.0 other.0) behind ≡ true → counted (before ++ ask ∷ behind) ≡ of_ask ask
before_counts [] ask behind none_above later_below =
    first_over ask (counted behind) (counted_meets (λ it. is_above ask.0 it.0) behind later_below)
before_counts (first ∷ before) ask behind none_above later_below =
    let (here, rest) = and_parts (not (is_above first.0 ask.0)) (list_all (λ other. not (is_above other.0 ask.0)) before) none_above in
    ap (later_of (of_ask first)) (before_counts before ask behind rest later_below) ∙ cond-false _ _ _ (not_false _ here)

-- what counts is what the walk gives
pub counted_is : (asks : List Ask) (it : NextestVersionReq) → IsReq asks it → it ≡ counted asks
counted_is asks (req.Version version source) counts =
    sym (ap counted counts.whole ∙ before_counts counts.before (version, source) counts.behind counts.none_above counts.later_below)
counted_is asks req.None empty = sym (ap counted empty)

-- and what the walk gives counts
below_before : (a v : Parts) (before : List Ask) → is_above a v ≡ true → list_all (λ other. not (is_above other.0 v)) before ≡ true
    → list_all (λ other. is_above a other.0) before ≡ true
below_before a v [] above all = refl
below_before a v (first ∷ before) above all =
    let (here, rest) = and_parts (not (is_above first.0 v)) (list_all (λ other. not (is_above other.0 v)) before) all in
    rw (above_low a v first.0 above (not_false _ here), below_before a v before above rest) refl

below_behind : (a v : Parts) (behind : List Ask) → is_above a v ≡ true → list_all (λ other. is_above v other.0) behind ≡ true
    → list_all (λ other. is_above a other.0) behind ≡ true
below_behind a v [] above all = refl
below_behind a v (first ∷ behind) above all =
    let (here, rest) = and_parts (is_above v first.0) (list_all (λ other. is_above v other.0) behind) all in
    rw (above_less a v first.0 above here, below_behind a v behind above rest) refl

all_below : (a : Parts) (asks : List Ask) (ask : Ask) → is_above a ask.0 ≡ true → Counts asks ask → list_all (λ other. is_above a other.0) asks ≡ true
all_below a asks ask above counts =
    ap (list_all (λ other. is_above a other.0)) counts.whole
    ∙ list_all-append (λ other. is_above a other.0) counts.before (ask ∷ counts.behind)
    ∙ rw (below_before a ask.0 counts.before above counts.none_above, above, below_behind a ask.0 counts.behind above counts.later_below) refl

is_more : (ask : Ask) (more : List Ask) (it : NextestVersionReq) → IsReq more it → IsReq (ask ∷ more) (later_of (of_ask ask) it)
is_more ask more req.None empty = record { before = []; behind = more; whole = refl; none_above = refl; later_below = rw empty refl }
is_more ask more (req.Version version source) counts = elim (cases_Bool (is_above ask.0 version)) [
  | inl above ↦
      let below : list_all (λ other. is_above ask.0 other.0) more ≡ true = all_below ask.0 more (version, source) above counts in
      rw above (record { before = []; behind = more; whole = refl; none_above = refl; later_below = below })
  | inr low ↦
      let none : list_all (λ other. not (is_above other.0 version)) (ask ∷ counts.before) ≡ true = rw low counts.none_above in
      rw low (record {
        before = ask ∷ counts.before;
        behind = counts.behind;
        whole = ap (λ (asks : List Ask). ask ∷ asks) counts.whole;
        none_above = none;
        later_below = counts.later_below;
      })
]

pub is_counted : (asks : List Ask) → IsReq asks (counted asks)
is_counted [] = refl
is_counted (ask ∷ more) = is_more ask more (counted more) (is_counted more)

-- what counts of two parts
pub later_none : (it : NextestVersionReq) → later_of req.None it ≡ it
later_none req.None = refl
later_none (req.Version version source) = refl

later_assoc_by : (a b c : Ask) → later_of (later_of (of_ask a) (of_ask b)) (of_ask c) ≡ later_of (of_ask a) (later_of (of_ask b) (of_ask c))
later_assoc_by a b c = elim (cases_Bool (is_above a.0 b.0)) [
  | inl ab ↦ elim (cases_Bool (is_above b.0 c.0)) [
    | inl bc ↦ rw (ab, bc, ab, above_less a.0 b.0 c.0 ab bc) refl
    | inr bc ↦ rw (ab, bc) refl
  ]
  | inr ab ↦ elim (cases_Bool (is_above b.0 c.0)) [
    | inl bc ↦ rw (ab, bc, ab) refl
    | inr bc ↦ rw (ab, bc, above_upto a.0 b.0 c.0 ab bc) refl
  ]
]

pub later_assoc : (one other third : NextestVersionReq) → later_of (later_of one other) third ≡ later_of one (later_of other third)
later_assoc one other req.None = refl
later_assoc one req.None (req.Version v s) = refl
later_assoc req.None (req.Version w t) (req.Version v s) = sym (later_none (later_of (req.Version w t) (req.Version v s)))
later_assoc (req.Version x u) (req.Version w t) (req.Version v s) = later_assoc_by (x, u) (w, t) (v, s)

counted_append : (front rest : List Ask) → counted (front ++ rest) ≡ later_of (counted front) (counted rest)
counted_append [] rest = sym (later_none (counted rest))
counted_append (ask ∷ front) rest =
    ap (later_of (of_ask ask)) (counted_append front rest) ∙ sym (later_assoc (of_ask ask) (counted front) (counted rest))

pub is_req_append : (front rest : List Ask) (one other : NextestVersionReq) → IsReq front one → IsReq rest other → IsReq (front ++ rest) (later_of one other)
is_req_append front rest one other a b =
    subst (IsReq (front ++ rest))
    (counted_append front rest ∙ ap (λ it. later_of it (counted rest)) (sym (counted_is front one a)) ∙ ap (later_of one) (sym (counted_is rest other b)))
    (is_counted (front ++ rest))
