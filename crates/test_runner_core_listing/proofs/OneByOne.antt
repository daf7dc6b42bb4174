-- The names of a binary, one after another.
use Rattle.std.proofs.Common.{◌≡◌, ℕ, ◌+◌, ◌<◌, ◌==◌, ◌∷◌, ◌++◌, [], List, length, get_or, take, drop, Bool, true, false, ◌||◌, Option, Some, refl, ap, sym, ◌∙◌, cond, drop-cons, add-one, arith, length-take-le}
use Rattle.std.proofs.lemmas.List.{get_or-take, get_or_default}
use Rattle.std.proofs.lemmas.List.Folds.{list_any_none}
use Rattle.std.proofs.lemmas.Map.Keys.{apart_from_distinct}
use Rattle.std.specs.List.{IsDistinct}
use Rattle.std.specs.HashSet.{HashSet, contains_by, Updates}
use Rattle.std.specs.Str.{bytes_eq}
use Rattle.std.specs.Cmp.Lexicographic.{nat_list_eq_equiv}
use Rattle.std.proofs.lemmas.List.{take_more}
use Rattle.std.proofs.lemmas.List.Folds.{list_any-append}
use denote.Ref.{Bor}
use Rattle.test_runner_core_workspace.specs.Workspace.{is_among, has_separator}
use Rattle.test_runner_core_listing.specs.Listing.{refused_name}
use Rattle.test_runner_core_listing.specs.declared.listing_fault.ListingFault.{ListingFault}
use Rattle.test_runner_core_listing.specs.declared.listing_fault.ListingFault.TheVariants as refused

-- a set has a name
abbrev pub has_name : {S : Type 0} → HashSet (Bor (List ℕ)) S → List ℕ → Bool
has_name set name = contains_by (λ key. bytes_eq name key.now) set

taken : (c m : Bool) → cond c true m ≡ (m || (c || false))
taken true true = refl
taken true false = refl
taken false true = refl
taken false false = refl

-- a set of names with one more in it
pub names_more : {S : Type 0} (set new : HashSet (Bor (List ℕ)) S) (key : Bor (List ℕ)) (names : List (List ℕ))
    → Updates (λ x y. bytes_eq x.now y.now) set new key true
    → ((name : List ℕ) → has_name set name ≡ is_among names name)
    → (name : List ℕ) → has_name new name ≡ is_among (names ++ key.now ∷ []) name
names_more set new key names update before name =
    let one : has_name new name ≡ cond (bytes_eq key.now name) true (has_name set name) = update.0 (record { ref_ptr = (0, 0); now = name }) in
    one
    ∙ ap (λ (b : Bool). cond b true (has_name set name)) (nat_list_eq_equiv.symm key.now name)
    ∙ ap (λ (b : Bool). cond (bytes_eq name key.now) true b) (before name)
    ∙ taken (bytes_eq name key.now) (is_among names name)
    ∙ sym (list_any-append (bytes_eq name) names (key.now ∷ []))

-- what is refused from a name on, by the three tests of it
abbrev pub from_name : Bool → Bool → Bool → Option ListingFault → Option ListingFault
from_name empty bad repeated more = cond empty (Some refused.EmptyTestName) (cond bad (Some refused.BadTestName) (cond repeated (Some refused.RepeatedTest) more))

-- one more name was passed
pub taken_more : (names : List (List ℕ)) (i : ℕ) (name : List ℕ) → i < length names → name ≡ get_or names i name → take (i + 1) names ≡ take i names ++ name ∷ []
taken_more names i name within is = take_more names i name within ∙ ap (λ (x : List ℕ). take i names ++ x ∷ []) (sym is)

-- the names from a place on
pub at_name : (names : List (List ℕ)) (i : ℕ) (name : List ℕ) (empty bad repeated : Bool) → i < length names → name ≡ get_or names i name
    → (length name == 0) ≡ empty → has_separator name ≡ bad → is_among (take i names) name ≡ repeated
    → refused_name (take i names) (drop i names) ≡ from_name empty bad repeated (refused_name (take (i + 1) names) (drop (i + 1) names))
at_name names i name empty bad repeated within is e b r =
    let rest = refused_name (take i names ++ name ∷ []) (drop (i + 1) names) in
    ap (refused_name (take i names)) (drop-cons names i name within ∙ ap (λ (n : ℕ). get_or names i name ∷ drop n names) (sym (add-one i)) ∙ ap (λ (x : List ℕ). x ∷ drop (i + 1) names) (sym is))
    ∙ ap (λ (t : Bool). from_name t (has_separator name) (is_among (take i names) name) rest) e
    ∙ ap (λ (t : Bool). from_name empty t (is_among (take i names) name) rest) b
    ∙ ap (λ (t : Bool). from_name empty bad t rest) r
    ∙ ap (λ (before : List (List ℕ)). from_name empty bad repeated (refused_name before (drop (i + 1) names))) (sym (taken_more names i name within is))

-- where none stands twice, none is among those before it
pub new_name : (names : List (List ℕ)) (i : ℕ) (name : List ℕ) → IsDistinct bytes_eq names → i < length names → name ≡ get_or names i name
    → is_among (take i names) name ≡ false
new_name names i name distinct within is =
    list_any_none (bytes_eq name) (take i names) (λ k d inside.
    let below : k < i = omega (arith, inside, length-take-le i names (omega (arith, within))) in
    let text = get_or names k d in
    let same : get_or names i d ≡ name = get_or_default names i d name within ∙ sym is in
    ap (bytes_eq name) (get_or-take i names k d below)
    ∙ nat_list_eq_equiv.symm name text
    ∙ ap (bytes_eq text) (sym same)
    ∙ apart_from_distinct bytes_eq names k i d distinct below within)
