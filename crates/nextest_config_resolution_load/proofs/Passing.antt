-- Checks that are gone through one after another.
use Rattle.std.proofs.Common.{◌≡◌, ℕ, ◌+◌, ◌<◌, ◌≤◌, inl, inr, Bool, true, false, List, [], ◌∷◌, ◌++◌, Result, Ok, Err, length, get_or, map, take, drop, sym, ap, ◌∙◌, subst, append-nil, arith}
use Rattle.std.proofs.lemmas.Bool.{false≢true}
use Rattle.std.proofs.lemmas.List.{drop_more, get_or-map, length-map, take-append-drop, take_all, take_more}
use Rattle.std.proofs.lemmas.Result.{err_from_is_err_and}
use Rattle.std.proofs.lemmas.Grind.{flat_map-append}
use Rattle.std.specs.List.{AllByRecursion, AllZip, flat_map}
use Rattle.std.specs.Result.{IsErrAnd}
use Rattle.nextest_config_resolution_load.specs.Checks.{Check, broken, must_hold, Refusal}
use Rattle.nextest_config_resolution_load.specs.Load.{BreaksFirst, IsFilterBy, IsKept, IsSpecBy, reason_of}
use Rattle.nextest_config_resolution_load.specs.Refusing.{IsRefused, Passes, RefusesFor}
use Rattle.nextest_config_resolution_load.specs.declared.load_error.LoadError.{LoadError}
use Rattle.nextest_config_resolution_load.specs.declared.load_error.LoadError.TheVariants as error

-- the item at a place, those before it, and those behind it
pub parted_at : {A : Type 0} (all : List A) (place : ℕ) (x : A) → place < length all → x ≡ get_or all place x → all ≡ take place all ++ x ∷ drop (place + 1) all
parted_at all place x within is =
    sym (take-append-drop place all)
    ∙ ap (λ (rest : List _). take place all ++ rest) (drop_more all place x within ∙ ap (λ (it : _). it ∷ drop (place + 1) all) (sym is))

pub taken_more : {A : Type 0} (all : List A) (place : ℕ) (x : A) → place < length all → x ≡ get_or all place x → take (place + 1) all ≡ take place all ++ x ∷ []
taken_more all place x within is = take_more all place x within ∙ ap (λ (it : _). take place all ++ it ∷ []) (sym is)

-- the items of a list as they are seen
pub seen_at : {A B : Type 0} (view : A → B) (all : List A) (place : ℕ) (x : A) → place < length all → x ≡ get_or all place x → view x ≡ get_or (map view all) place (view x)
seen_at view all place x within is = sym (get_or-map view all place x (view x) within ∙ ap view (sym is))

pub seen_within : {A B : Type 0} (view : A → B) (all : List A) (place : ℕ) → place < length all → place < length (map view all)
seen_within view all place within = omega (arith, length-map all view)

pub seen_over : {A B : Type 0} (view : A → B) (all : List A) (place : ℕ) → length all ≤ place → length (map view all) ≤ place
seen_over view all place over = omega (arith, length-map all view)

-- one more pair
pub zip_more : {A B : Type 0} (R : A → B → Type 0) (xs : List A) (ys : List B) (x : A) (y : B) → AllZip R xs ys → R x y → AllZip R (xs ++ x ∷ []) (ys ++ y ∷ [])
zip_more R [] [] x y all here = (here, tt)
zip_more R [] (b ∷ ys) x y all here = absurd all
zip_more R (a ∷ xs) [] x y all here = absurd all
zip_more R (a ∷ xs) (b ∷ ys) x y all here = (all.0, zip_more R xs ys x y all.1 here)

pub zip_at : {A B : Type 0} (R : A → B → Type 0) (all : List A) (ys added : List B) (place : ℕ) (x : A) (y : B) → place < length all → x ≡ get_or all place x → AllZip R (take place all) ys
    → R x y → added ≡ ys ++ y ∷ [] → AllZip R (take (place + 1) all) added
zip_at R all ys added place x y within is done here adds =
    subst (λ (xs : List _). AllZip R xs added) (sym (taken_more all place x within is))
    (subst (λ (them : List _). AllZip R (take place all ++ x ∷ []) them) (sym adds) (zip_more R (take place all) ys x y done here))

pub zip_both : {A B : Type 0} (R : A → B → Type 0) (xs : List A) (ys : List B) (more : List A) (others : List B) → AllZip R xs ys → AllZip R more others → AllZip R (xs ++ more) (ys ++ others)
zip_both R [] [] more others all rest = rest
zip_both R [] (b ∷ ys) more others all rest = absurd all
zip_both R (a ∷ xs) [] more others all rest = absurd all
zip_both R (a ∷ xs) (b ∷ ys) more others all rest = (all.0, zip_both R xs ys more others all.1 rest)

module _ {F S : Type 0} (Is : IsFilterBy F) (IsSpec : IsSpecBy S) (IsTooDeep : List ℕ → Type 0) where
  pub kept_both : (front rest : List Check) → AllByRecursion (IsKept Is IsSpec) front → AllByRecursion (IsKept Is IsSpec) rest → AllByRecursion (IsKept Is IsSpec) (front ++ rest)
  kept_both [] rest kept more = more
  kept_both (check ∷ front) rest kept more = (kept.0, kept_both front rest kept.1 more)

  breaks_behind : (front rest : List Check) (told : Refusal) → AllByRecursion (IsKept Is IsSpec) front → BreaksFirst Is IsSpec IsTooDeep rest told
      → BreaksFirst Is IsSpec IsTooDeep (front ++ rest) told
  breaks_behind [] rest told kept breaks = breaks
  breaks_behind (check ∷ front) rest told kept breaks = inr (kept.0, breaks_behind front rest told kept.1 breaks)

  breaks_before : (front rest : List Check) (told : Refusal) → BreaksFirst Is IsSpec IsTooDeep front told → BreaksFirst Is IsSpec IsTooDeep (front ++ rest) told
  breaks_before [] rest told breaks = absurd breaks
  breaks_before (check ∷ front) rest told (inl breaks) = inl breaks
  breaks_before (check ∷ front) rest told (inr (kept, breaks)) = inr (kept, breaks_before front rest told breaks)

  pub refuses_behind : (front rest : List Check) (told : LoadError) → AllByRecursion (IsKept Is IsSpec) front → RefusesFor Is IsSpec IsTooDeep rest told
      → RefusesFor Is IsSpec IsTooDeep (front ++ rest) told
  refuses_behind front rest (error.Refused fault) kept refuses = breaks_behind front rest (reason_of fault) kept refuses
  refuses_behind front rest error.OutOfMemory kept refuses = tt

  pub refuses_before : (front rest : List Check) (told : LoadError) → RefusesFor Is IsSpec IsTooDeep front told → RefusesFor Is IsSpec IsTooDeep (front ++ rest) told
  refuses_before front rest (error.Refused fault) refuses = breaks_before front rest (reason_of fault) refuses
  refuses_before front rest error.OutOfMemory refuses = tt

  -- what is told of a check that is only ever broken
  pub refuses_broken : (refusal : Refusal) (rest : List Check) (told : LoadError) → IsRefused refusal told → RefusesFor Is IsSpec IsTooDeep (broken refusal ∷ rest) told
  refuses_broken refusal rest (error.Refused fault) is = inl is
  refuses_broken refusal rest error.OutOfMemory is = tt

  -- what a call tells that tells what another told
  pub passes_on : {A : Type 0} (IsIt : A → Type 0) (checks : List Check) (told : LoadError) (result : Result A LoadError) → RefusesFor Is IsSpec IsTooDeep checks told
      → IsErrAnd result (λ y. y ≡ told) → Passes Is IsSpec IsTooDeep checks IsIt result
  passes_on IsIt checks told result refuses is =
      let error = err_from_is_err_and result is in
      subst (Passes Is IsSpec IsTooDeep checks IsIt) (sym error.1) (subst (RefusesFor Is IsSpec IsTooDeep checks) (sym error.2) refuses)

  -- what a call gives behind checks that are kept
  pub passes_behind : {A : Type 0} (IsIt : A → Type 0) (front rest : List Check) (result : Result A LoadError) → AllByRecursion (IsKept Is IsSpec) front → Passes Is IsSpec IsTooDeep rest IsIt result
      → Passes Is IsSpec IsTooDeep (front ++ rest) IsIt result
  passes_behind IsIt front rest (Ok x) kept passes = (kept_both front rest kept passes.0, passes.1)
  passes_behind IsIt front rest (Err told) kept passes = refuses_behind front rest told kept passes

  -- what must hold
  pub kept_where : (holds : Bool) (refusal : Refusal) → holds ≡ true → AllByRecursion (IsKept Is IsSpec) (must_hold holds refusal)
  kept_where true refusal is = tt
  kept_where false refusal is = absurd (false≢true is)

  pub refuses_where : (holds : Bool) (refusal : Refusal) (told : LoadError) → holds ≡ false → IsRefused refusal told → RefusesFor Is IsSpec IsTooDeep (must_hold holds refusal) told
  refuses_where true refusal told is refused = absurd (false≢true (sym is))
  refuses_where false refusal told is refused = refuses_broken refusal [] told refused

  -- ---- the checks of each of some items

  module _ {A : Type 0} (checks : A → List Check) where
    pub kept_more : (front : List A) (x : A) → AllByRecursion (IsKept Is IsSpec) (flat_map checks front) → AllByRecursion (IsKept Is IsSpec) (checks x)
        → AllByRecursion (IsKept Is IsSpec) (flat_map checks (front ++ x ∷ []))
    kept_more front x kept here =
        subst (AllByRecursion (IsKept Is IsSpec)) (sym (flat_map-append checks front (x ∷ []) ∙ ap (λ (last : List Check). flat_map checks front ++ last) (append-nil (checks x))))
        (kept_both (flat_map checks front) (checks x) kept here)

    pub kept_at : (all : List A) (place : ℕ) (x : A) → place < length all → x ≡ get_or all place x → AllByRecursion (IsKept Is IsSpec) (flat_map checks (take place all))
        → AllByRecursion (IsKept Is IsSpec) (checks x) → AllByRecursion (IsKept Is IsSpec) (flat_map checks (take (place + 1) all))
    kept_at all place x within is kept here =
        subst (λ (front : List A). AllByRecursion (IsKept Is IsSpec) (flat_map checks front)) (sym (taken_more all place x within is)) (kept_more (take place all) x kept here)

    pub kept_all : (all : List A) (place : ℕ) → length all ≤ place → AllByRecursion (IsKept Is IsSpec) (flat_map checks (take place all)) → AllByRecursion (IsKept Is IsSpec) (flat_map checks all)
    kept_all all place over kept = subst (λ (front : List A). AllByRecursion (IsKept Is IsSpec) (flat_map checks front)) (take_all place all over) kept

    pub refuses_among : (front : List A) (x : A) (rest all : List A) (told : LoadError) → all ≡ front ++ x ∷ rest → AllByRecursion (IsKept Is IsSpec) (flat_map checks front)
        → RefusesFor Is IsSpec IsTooDeep (checks x) told → RefusesFor Is IsSpec IsTooDeep (flat_map checks all) told
    refuses_among front x rest all told parted kept refuses =
        subst (λ (them : List Check). RefusesFor Is IsSpec IsTooDeep them told) (sym (ap (flat_map checks) parted ∙ flat_map-append checks front (x ∷ rest)))
        (refuses_behind (flat_map checks front) (checks x ++ flat_map checks rest) told kept (refuses_before (checks x) (flat_map checks rest) told refuses))

    pub refuses_at : (all : List A) (place : ℕ) (x : A) (told : LoadError) → place < length all → x ≡ get_or all place x → AllByRecursion (IsKept Is IsSpec) (flat_map checks (take place all))
        → RefusesFor Is IsSpec IsTooDeep (checks x) told → RefusesFor Is IsSpec IsTooDeep (flat_map checks all) told
    refuses_at all place x told within is kept refuses = refuses_among (take place all) x (drop (place + 1) all) all told (parted_at all place x within is) kept refuses
