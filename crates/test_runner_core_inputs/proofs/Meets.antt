-- What is read, what is wrong and what has the shape fit together.
use Rattle.std.proofs.Common.{◌≡◌, ◌⊎◌, inl, inr, ℕ, ◌+◌, ◌∷◌, ◌++◌, [], List, Bool, true, false, Option, None, Some, Result, Ok, Err, refl, ap, sym, ◌∙◌, subst, decimal, is_some, cond}
use Rattle.std.specs.Option.{option_map_or}
use Rattle.serde_json.specs.Data.{Data, null, boolean, number, string, array, object as object_of}
use Rattle.serde_json.specs.Find.{as_object}
use Rattle.test_runner_core_inputs.specs.Given.{member, items}
use Rattle.test_runner_core_inputs.specs.Reading.{Path, Reading, ◌>>=◌, under, leaf, required, some, optional, defaulted, each, list, object}
use Rattle.test_runner_core_inputs.specs.Shape.{Is, Has, MayHave, HasOr, AreEach, IsListOf}
use Rattle.test_runner_core_inputs.specs.Faults.{Faults, none, itself, all_of, within, unless, is, has, may_have, each_of, is_list, is_object}

-- what is read has no fault and has the shape, a refusal is the first fault, and what has the shape
-- is read
pub record Meets {A : Type 0} (read : Reading A) (faults : Faults) (IsShape : A → Type 0) : Type 0 where
  pub ok : (x : A) → read ≡ Ok x → (faults ≡ []) × IsShape x
  pub err : (path : Path) → read ≡ Err path → (more : Faults) × (faults ≡ path ∷ more)
  pub back : (x : A) → IsShape x → read ≡ Ok x

-- the same shape in other words
pub meets_as : {A : Type 0} {read : Reading A} {faults : Faults} {S : A → Type 0} (T : A → Type 0) → Meets read faults S → ((x : A) → S x → T x) → ((x : A) → T x → S x) → Meets read faults T
meets_as T m there back =
    record {
      ok = λ x e. let h = m.ok x e in (h.0, there x h.1);
      err = m.err;
      back = λ x t. m.back x (back x t);
    }

pub meets_ok : {A : Type 0} (x : A) → Meets (Ok x) none (λ y. y ≡ x)
meets_ok x =
    record {
      ok = λ y e. (refl, cc);
      err = λ path e. absurd (cc);
      back = λ y e. ap Ok (sym e);
    }

pub meets_refused : {A : Type 0} (path : Path) (S : A → Type 0) → ((x : A) → S x → ⊥) → Meets {A = A} (Err path) (path ∷ []) S
meets_refused path S none_is =
    record {
      ok = λ y e. absurd (cc);
      err = λ other e. ([], cc);
      back = λ y s. absurd (none_is y s);
    }

pub meets_err : {A : Type 0} (S : A → Type 0) → ((x : A) → S x → ⊥) → Meets {A = A} (Err []) itself S
meets_err S none_is = meets_refused [] S none_is

-- the same faults in other words
pub meets_faults : {A : Type 0} {read : Reading A} {faults : Faults} {S : A → Type 0} (same : Faults) → faults ≡ same → Meets read faults S → Meets read same S
meets_faults {read = read} {S = S} same e m = subst (λ (f : Faults). Meets read f S) e m

bind_ok : {A B : Type 0} (read : Reading A) (next : A → Reading B) (y : B) → (read >>= next) ≡ Ok y → (x : A) × (read ≡ Ok x) × (next x ≡ Ok y)
bind_ok (Ok x) next y e = (x, refl, e)
bind_ok (Err path) next y e = absurd (cc)

bind_err : {A B : Type 0} (read : Reading A) (next : A → Reading B) (path : Path) → (read >>= next) ≡ Err path → (read ≡ Err path) ⊎ ((x : A) × (read ≡ Ok x) × (next x ≡ Err path))
bind_err (Ok x) next path e = inr (x, refl, e)
bind_err (Err other) next path e = inl (cc)

-- the shape of a first part, and then that of what is behind it
abbrev pub Then : {A B : Type 0} → (A → Type 0) → (A → B → Type 0) → B → Type 0
Then {A = A} S T y = (x : A) × (S x × T x y)

-- one part after another
pub meets_then : {A B : Type 0} (read : Reading A) (next : A → Reading B) {first rest : Faults} {S : A → Type 0} {T : A → B → Type 0}
    → Meets read first S → ((x : A) → read ≡ Ok x → Meets (next x) rest (T x)) → Meets (read >>= next) (first ++ rest) (Then S T)
meets_then read next {first = first} {rest = rest} m n =
    record {
      ok = λ y e.
          let r = bind_ok read next y e in
          let h = m.ok r.0 r.1 in
          let k = (n r.0 r.1).ok y r.2 in
          (ap (λ (f : Faults). f ++ rest) h.0 ∙ k.0, (r.0, (h.1, k.1)));
      err = λ path e.
          elim (bind_err read next path e) [
            | inl r ↦ let h = m.err path r in (h.0 ++ rest, ap (λ (f : Faults). f ++ rest) h.1)
            | inr r ↦ let h = (n r.0 r.1).err path r.2 in (h.0, ap (λ (f : Faults). f ++ rest) (m.ok r.0 r.1).0 ∙ h.1)
          ];
      back = λ y s.
          let r = m.back s.0 s.1.0 in
          ap (λ (p : Result _ Path). p >>= next) r ∙ (n s.0 r).back y s.1.1;
    }

-- a part, of which something is made
pub meets_map : {A B : Type 0} (read : Reading A) (made : A → B) {faults : Faults} {S : A → Type 0}
    → Meets read faults S → Meets (read >>= λ x. Ok (made x)) faults (Then S (λ x y. y ≡ made x))
meets_map read made m =
    record {
      ok = λ y e.
          let r = bind_ok read (λ x. Ok (made x)) y e in
          let h = m.ok r.0 r.1 in
          let f : Ok (made r.0) ≡ Ok y = r.2 in
          (h.0, (r.0, (h.1, cc)));
      err = λ path e.
          elim (bind_err read (λ x. Ok (made x)) path e) [
            | inl r ↦ m.err path r
            | inr r ↦ absurd (let f : Ok (made r.0) ≡ Err path = r.2 in cc)
          ];
      back = λ y s. ap (λ (p : Result _ Path). p >>= λ x. Ok (made x)) (m.back s.0 s.1.0) ∙ ap Ok (sym s.1.1);
    }

under_ok : {A : Type 0} (step : List ℕ) (read : Reading A) (x : A) → under step read ≡ Ok x → read ≡ Ok x
under_ok step (Ok y) x e = e
under_ok step (Err path) x e = absurd (cc)

under_err : {A : Type 0} (step : List ℕ) (read : Reading A) (path : Path) → under step read ≡ Err path → (rest : Path) × (read ≡ Err rest) × (path ≡ step ∷ rest)
under_err step (Ok y) path e = absurd (cc)
under_err step (Err rest) path e = (rest, refl, cc)

-- a part, told from the whole
pub meets_under : {A : Type 0} (step : List ℕ) (read : Reading A) {faults : Faults} {S : A → Type 0} → Meets read faults S → Meets (under step read) (within step faults) S
meets_under step read m =
    record {
      ok = λ x e. let h = m.ok x (under_ok step read x e) in (ap (within step) h.0, h.1);
      err = λ path e.
          let r = under_err step read path e in
          let h = m.err r.0 r.1 in
          (within step h.0, ap (within step) h.1 ∙ ap (λ (p : Path). p ∷ within step h.0) (sym r.2));
      back = λ x s. ap (under step) (m.back x s);
    }

meets_value : {A : Type 0} (found : Option A) → Meets (option_map_or Ok found (Err [])) (unless (is_some found)) (λ x. found ≡ Some x)
meets_value (Some x) = record { ok = λ y e. (refl, cc); err = λ path e. absurd (cc); back = λ y e. cc }
meets_value None = record { ok = λ y e. absurd (cc); err = λ path e. ([], cc); back = λ y e. absurd (cc) }

-- a part that has no parts
pub meets_leaf : {A : Type 0} (value : Data → Option A) (given : Data) → Meets (leaf value given) (is value given) (Is value given)
meets_leaf value given = meets_value (value given)

-- what reads, what is wrong and what has the shape fit together, wherever
pub record MeetsAll {A : Type 0} (reads : Data → Reading A) (faults : Data → Faults) (IsShape : Data → A → Type 0) : Type 0 where
  pub at : (given : Data) → Meets (reads given) (faults given) (IsShape given)

pub leaves : {A : Type 0} (value : Data → Option A) → MeetsAll (leaf value) (is value) (Is value)
leaves value = record { at = meets_leaf value }

meets_found : {A : Type 0} {reads : Data → Reading A} {faults : Data → Faults} {S : Data → A → Type 0} → MeetsAll reads faults S → (found : Option Data)
    → Meets (option_map_or reads found (Err [])) (option_map_or faults found itself) (λ x. (part : Data) × (found ≡ Some part) × S part x)
meets_found {S = S} m None = meets_err _ (λ x s. absurd (cc))
meets_found {S = S} m (Some given) = meets_as _ (m.at given) (λ x s. (given, refl, s)) (λ x s. let e : s.0 ≡ given = cc in subst (λ (part : Data). S part x) e s.2)

-- a member that must stand
pub meets_required : {A : Type 0} (name : List ℕ) {reads : Data → Reading A} {faults : Data → Faults} {S : Data → A → Type 0} → MeetsAll reads faults S → (given : Data)
    → Meets (required name reads given) (has name faults given) (Has name S given)
meets_required name m given = meets_under name _ (meets_found m (member name given))

some_ok : {A : Type 0} (read : Reading A) (x : Option A) → some read ≡ Ok x → (y : A) × (read ≡ Ok y) × (x ≡ Some y)
some_ok (Ok y) x e = (y, refl, cc)
some_ok (Err path) x e = absurd (cc)

some_err : {A : Type 0} (read : Reading A) (path : Path) → some read ≡ Err path → read ≡ Err path
some_err (Ok y) path e = absurd (cc)
some_err (Err other) path e = cc

-- the shape of what is found, or nothing is found
abbrev MayBe : {A : Type 0} → (Data → A → Type 0) → Option Data → Option A → Type 0
MayBe S found (Some x) = (part : Data) × (found ≡ Some part) × S part x
MayBe S found None = found ≡ None

meets_maybe : {A : Type 0} {reads : Data → Reading A} {faults : Data → Faults} {S : Data → A → Type 0} → MeetsAll reads faults S → (found : Option Data)
    → Meets (option_map_or (λ part. some (reads part)) found (Ok None)) (option_map_or faults found none) (MayBe S found)
meets_maybe {A = A} {S = S} m None =
    record {
      ok = λ x e. (refl, absent x (cc));
      err = λ path e. absurd (cc);
      back = λ x s. ap Ok (sym (nothing x s));
    }
  where
    absent : (x : Option A) → x ≡ None → MayBe S None x
    absent (Some x) e = absurd (cc)
    absent None e = refl

    nothing : (x : Option A) → MayBe S None x → x ≡ None
    nothing (Some x) s = absurd (let e : None ≡ Some s.0 = s.1 in cc)
    nothing None s = refl
meets_maybe {A = A} {reads = reads} {faults = faults} {S = S} m (Some given) =
    record {
      ok = λ x e.
          let r = some_ok (reads given) x e in
          let h = (m.at given).ok r.0 r.1 in
          (h.0, present x r.0 r.2 h.1);
      err = λ path e. (m.at given).err path (some_err (reads given) path e);
      back = read_back;
    }
  where
    present : (x : Option A) (y : A) → x ≡ Some y → S given y → MayBe S (Some given) x
    present (Some x) y e s = let f : y ≡ x = cc in (given, refl, subst (λ (z : A). S given z) f s)
    present None y e s = absurd (cc)

    read_back : (x : Option A) → MayBe S (Some given) x → some (reads given) ≡ Ok x
    read_back (Some x) s =
        let e : Some given ≡ Some s.0 = s.1 in
        let f : s.0 ≡ given = cc in
        ap some ((m.at given).back x (subst (λ (part : Data). S part x) f s.2))
    read_back None s = absurd (let e : Some given ≡ None = s in cc)

-- a member that may be absent
pub meets_optional : {A : Type 0} (name : List ℕ) {reads : Data → Reading A} {faults : Data → Faults} {S : Data → A → Type 0} → MeetsAll reads faults S → (given : Data)
    → Meets (optional name reads given) (may_have name faults given) (MayHave name S given)
meets_optional {A = A} name {S = S} m given = meets_under name _ (meets_as (MayHave name S given) (meets_maybe m (member name given)) there back)
  where
    there : (x : Option A) → MayBe S (member name given) x → MayHave name S given x
    there (Some x) s = s
    there None s = s

    back : (x : Option A) → MayHave name S given x → MayBe S (member name given) x
    back (Some x) s = s
    back None s = s

-- the shape of what is found, or nothing is found and it is something else
abbrev FoundOr : {A : Type 0} → (Data → A → Type 0) → A → Option Data → A → Type 0
FoundOr S otherwise found x = ((part : Data) × (found ≡ Some part) × S part x) ⊎ ((found ≡ None) × (x ≡ otherwise))

meets_found_or : {A : Type 0} {reads : Data → Reading A} {faults : Data → Faults} {S : Data → A → Type 0} (otherwise : A) → MeetsAll reads faults S → (found : Option Data)
    → Meets (option_map_or reads found (Ok otherwise)) (option_map_or faults found none) (FoundOr S otherwise found)
meets_found_or {A = A} {S = S} otherwise m None = meets_as _ (meets_ok otherwise) (λ x e. inr (refl, e)) back
  where
    back : (x : A) → FoundOr S otherwise None x → x ≡ otherwise
    back x (inl s) = absurd (let e : None ≡ Some s.0 = s.1 in cc)
    back x (inr s) = s.1
meets_found_or {A = A} {S = S} otherwise m (Some given) = meets_as _ (m.at given) (λ x s. inl (given, refl, s)) back
  where
    back : (x : A) → FoundOr S otherwise (Some given) x → S given x
    back x (inl s) =
        let e : Some given ≡ Some s.0 = s.1 in
        let f : s.0 ≡ given = cc in
        subst (λ (part : Data). S part x) f s.2
    back x (inr s) = absurd (let e : Some given ≡ None = s.0 in cc)

-- a member that may be absent, for which something else then stands
pub meets_defaulted : {A : Type 0} (name : List ℕ) (otherwise : A) {reads : Data → Reading A} {faults : Data → Faults} {S : Data → A → Type 0} → MeetsAll reads faults S → (given : Data)
    → Meets (defaulted name reads otherwise given) (may_have name faults given) (HasOr name S otherwise given)
meets_defaulted name otherwise m given = meets_under name _ (meets_found_or otherwise m (member name given))

-- the items, one after another
pub meets_each : {A : Type 0} {reads : Data → Reading A} {faults : Data → Faults} {S : Data → A → Type 0} → MeetsAll reads faults S → (position : ℕ) (found : List Data)
    → Meets (each reads position found) (each_of faults position found) (AreEach S found)
meets_each {A = A} {S = S} m position [] = meets_as _ (meets_ok []) (λ xs e. none_of xs e) (λ xs s. is_none xs s)
  where
    none_of : (xs : List A) → xs ≡ [] → AreEach S [] xs
    none_of [] e = tt
    none_of (x ∷ xs) e = absurd (cc)

    is_none : (xs : List A) → AreEach S [] xs → xs ≡ []
    is_none [] s = refl
    is_none (x ∷ xs) s = absurd s
meets_each {A = A} {reads = reads} {faults = faults} {S = S} m position (given ∷ more) =
    meets_as _
    (meets_then _ _ (meets_under (decimal position) _ (m.at given))
    (λ first _. meets_map _ (λ rest. first ∷ rest) (meets_each m (position + 1) more)))
    there back
  where
    there : (xs : List A) → Then (S given) (λ first. Then (AreEach S more) (λ rest all. all ≡ first ∷ rest)) xs → AreEach S (given ∷ more) xs
    there xs s = subst (AreEach S (given ∷ more)) (sym s.1.1.1.1) (s.1.0, s.1.1.1.0)

    back : (xs : List A) → AreEach S (given ∷ more) xs → Then (S given) (λ first. Then (AreEach S more) (λ rest all. all ≡ first ∷ rest)) xs
    back [] s = absurd s
    back (x ∷ xs) s = (x, (s.0, (xs, (s.1, refl))))

-- a list of such
pub meets_list : {A : Type 0} {reads : Data → Reading A} {faults : Data → Faults} {S : Data → A → Type 0} → MeetsAll reads faults S → (given : Data)
    → Meets (list reads given) (is_list faults given) (IsListOf S given)
meets_list {A = A} {reads = reads} {faults = faults} {S = S} m given = on_items (items given)
  where
    on_items : (found : Option (List Data)) → Meets (option_map_or (each reads 0) found (Err [])) (option_map_or (each_of faults 0) found itself) (λ xs. (parts : List Data) × (found ≡ Some parts) × AreEach S parts xs)
    on_items None = meets_err _ (λ xs s. absurd (let e : None ≡ Some s.0 = s.1 in cc))
    on_items (Some parts) = meets_as _ (meets_each m 0 parts) (λ xs s. (parts, refl, s)) (λ xs s.
        let e : Some parts ≡ Some s.0 = s.1 in
        let f : s.0 ≡ parts = cc in
        subst (λ (found : List Data). AreEach S found xs) f s.2)

pub lists : {A : Type 0} {reads : Data → Reading A} {faults : Data → Faults} {S : Data → A → Type 0} → MeetsAll reads faults S → MeetsAll (list reads) (is_list faults) (IsListOf S)
lists m = record { at = meets_list m }

-- what has something under a name is an object
pub has_is_object : {A : Type 0} (name : List ℕ) (S : Data → A → Type 0) (given : Data) (x : A) → Has name S given x → is_some (as_object given) ≡ true
has_is_object name S null x s = absurd (let e : None ≡ Some s.0 = s.1 in cc)
has_is_object name S (boolean b) x s = absurd (let e : None ≡ Some s.0 = s.1 in cc)
has_is_object name S (number n) x s = absurd (let e : None ≡ Some s.0 = s.1 in cc)
has_is_object name S (string t) x s = absurd (let e : None ≡ Some s.0 = s.1 in cc)
has_is_object name S (array given) x s = absurd (let e : None ≡ Some s.0 = s.1 in cc)
has_is_object name S (object_of found) x s = refl

-- an object
pub meets_object : {A : Type 0} (reads : Data → Reading A) (parts : Data → List Faults) {S : A → Type 0} (given : Data) → Meets (reads given) (all_of (parts given)) S
    → ((x : A) → S x → is_some (as_object given) ≡ true) → Meets (object reads given) (is_object parts given) S
meets_object {A = A} reads parts {S = S} given m known = by_test (is_some (as_object given)) known
  where
    by_test : (test : Bool) → ((x : A) → S x → test ≡ true) → Meets (cond test (reads given) (Err [])) (cond test (all_of (parts given)) itself) S
    by_test true sure = m
    by_test false sure = meets_err S (λ x s. absurd (let e : false ≡ true = sure x s in cc))
