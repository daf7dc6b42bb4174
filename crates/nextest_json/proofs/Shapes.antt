-- What is asked of a value as JSON has it, and of its data.
use Rattle.std.proofs.Common.{◌≡◌, ℕ, List, Option, None, Some, option_map, option_and_then, is_some, Bool, true, false, cond, bytes_eq, refl, sym, ap, ◌∙◌, subst}
use Rattle.std.proofs.lemmas.Slice.Eq.{bytes_eq-Decides}
use Rattle.json.specs.Json as json
use Rattle.json.specs.Find as asked
use Rattle.serde_json.specs.Data.{Num, Data, null, boolean, number, string, array, object, Items, Members, no_members, put}
use Rattle.serde_json.specs.Find.{get, get_member, as_null, as_bool, as_number, as_str, as_object}
use Rattle.serde_json.specs.Read.{number_of, of_json, of_items, of_members}
use Rattle.serde_json.proofs.Views.{get_member-put, get_member-put_other}

pub mapped : {A B : Type 0} (f : A → B) (o : Option A) (b : B) → option_map f o ≡ Some b → (a : A) × (o ≡ Some a) × (b ≡ f a)
mapped f None b e = absurd (cc)
mapped f (Some a) b e = (a, refl, cc)

-- the data of each kind of value
abbrev pub Shape : json.Json → Data → Type 0
Shape json.null d = d ≡ null
Shape (json.boolean b) d = d ≡ boolean b
Shape (json.number s) d = (n : Num) × (number_of s ≡ Some n) × (d ≡ number n)
Shape (json.string s) d = d ≡ string s
Shape (json.array js) d = (ds : Items) × (of_items js ≡ Some ds) × (d ≡ array ds)
Shape (json.object ms) d = (out : Members) × (of_members ms no_members ≡ Some out) × (d ≡ object out)

pub shape : (j : json.Json) (d : Data) → of_json j ≡ Some d → Shape j d
shape json.null d e = cc
shape (json.boolean b) d e = cc
shape (json.number s) d e = mapped number (number_of s) d e
shape (json.string s) d e = cc
shape (json.array js) d e = mapped array (of_items js) d e
shape (json.object ms) d e = mapped object (of_members ms no_members) d e

pub as_str_read : (j : json.Json) (d : Data) → of_json j ≡ Some d → asked.as_str j ≡ as_str d
as_str_read json.null d e = ap as_str (sym (shape json.null d e))
as_str_read (json.boolean b) d e = ap as_str (sym (shape (json.boolean b) d e))
as_str_read (json.number s) d e = ap as_str (sym (shape (json.number s) d e).2)
as_str_read (json.string s) d e = ap as_str (sym (shape (json.string s) d e))
as_str_read (json.array js) d e = ap as_str (sym (shape (json.array js) d e).2)
as_str_read (json.object ms) d e = ap as_str (sym (shape (json.object ms) d e).2)

pub as_bool_read : (j : json.Json) (d : Data) → of_json j ≡ Some d → asked.as_bool j ≡ as_bool d
as_bool_read json.null d e = ap as_bool (sym (shape json.null d e))
as_bool_read (json.boolean b) d e = ap as_bool (sym (shape (json.boolean b) d e))
as_bool_read (json.number s) d e = ap as_bool (sym (shape (json.number s) d e).2)
as_bool_read (json.string s) d e = ap as_bool (sym (shape (json.string s) d e))
as_bool_read (json.array js) d e = ap as_bool (sym (shape (json.array js) d e).2)
as_bool_read (json.object ms) d e = ap as_bool (sym (shape (json.object ms) d e).2)

abbrev pub is_null : Data → Bool
is_null d = is_some (as_null d)

pub is_null_read : (j : json.Json) (d : Data) → of_json j ≡ Some d → asked.is_null j ≡ is_null d
is_null_read json.null d e = ap is_null (sym (shape json.null d e))
is_null_read (json.boolean b) d e = ap is_null (sym (shape (json.boolean b) d e))
is_null_read (json.number s) d e = ap is_null (sym (shape (json.number s) d e).2)
is_null_read (json.string s) d e = ap is_null (sym (shape (json.string s) d e))
is_null_read (json.array js) d e = ap is_null (sym (shape (json.array js) d e).2)
is_null_read (json.object ms) d e = ap is_null (sym (shape (json.object ms) d e).2)

abbrev pub is_object : Data → Bool
is_object d = is_some (as_object d)

pub is_object_read : (j : json.Json) (d : Data) → of_json j ≡ Some d → is_some (asked.as_object j) ≡ is_object d
is_object_read json.null d e = ap is_object (sym (shape json.null d e))
is_object_read (json.boolean b) d e = ap is_object (sym (shape (json.boolean b) d e))
is_object_read (json.number s) d e = ap is_object (sym (shape (json.number s) d e).2)
is_object_read (json.string s) d e = ap is_object (sym (shape (json.string s) d e))
is_object_read (json.array js) d e = ap is_object (sym (shape (json.array js) d e).2)
is_object_read (json.object ms) d e = ap is_object (sym (shape (json.object ms) d e).2)

pub as_number_read : (j : json.Json) (d : Data) → of_json j ≡ Some d → option_and_then number_of (asked.as_number j) ≡ as_number d
as_number_read json.null d e = ap as_number (sym (shape json.null d e))
as_number_read (json.boolean b) d e = ap as_number (sym (shape (json.boolean b) d e))
as_number_read (json.number s) d e = let is = shape (json.number s) d e in is.1 ∙ ap as_number (sym is.2)
as_number_read (json.string s) d e = ap as_number (sym (shape (json.string s) d e))
as_number_read (json.array js) d e = ap as_number (sym (shape (json.array js) d e).2)
as_number_read (json.object ms) d e = ap as_number (sym (shape (json.object ms) d e).2)

-- ---- what an object has under a name

-- of a value that is found, the data is found; else what was found before
abbrev pub Finds : Option json.Json → Option Data → Option Data → Type 0
Finds None earlier out = out ≡ earlier
Finds (Some j) earlier out = (d : Data) × (of_json j ≡ Some d) × (out ≡ Some d)

pub one_more : {A B : Type 0} (o : Option A) (next : A → Option B) (b : B) → option_and_then next o ≡ Some b → (a : A) × (o ≡ Some a) × (next a ≡ Some b)
one_more None next b e = absurd (cc)
one_more (Some a) next b e = (a, refl, e)

later : (name k : List ℕ) (j : json.Json) (d : Data) (found : Members) (o : Option json.Json) (same : Bool) (out : Option Data) → bytes_eq k name ≡ same → of_json j ≡ Some d
    → Finds o (get_member name (put k d found)) out → Finds (asked.later_or o (cond same (Some j) None)) (get_member name found) out
later name k j d found (Some i) same out is read so = so
later name k j d found None true out is read so =
    let e : k ≡ name = (bytes_eq-Decides k name).0 is in
    (d, read, so ∙ ap (λ n. get_member n (put k d found)) (sym e) ∙ get_member-put k d found)
later name k j d found None false out is read so =
    let other : name ≡ k → ⊥ = λ e. absurd (subst (λ b. b ≡ false → ⊥) (sym ((bytes_eq-Decides k name).1 (sym e))) (λ h. cc) is) in
    so ∙ get_member-put_other name k d found other

members_read : (name : List ℕ) (ms : json.Members) (found out : Members) → of_members ms found ≡ Some out → Finds (asked.get_member name ms) (get_member name found) (get_member name out)
members_read name json.no_members found out e = let is : found ≡ out = cc in ap (get_member name) (sym is)
members_read name (json.member k j ms) found out e =
    let first = one_more (of_json j) (λ d. of_members ms (put k d found)) out e in
    later name k j first.0 found (asked.get_member name ms) (bytes_eq k name) (get_member name out) refl first.1 (members_read name ms (put k first.0 found) out first.2)

pub get_read : (name : List ℕ) (j : json.Json) (d : Data) → of_json j ≡ Some d → Finds (asked.get name j) None (get name d)
get_read name json.null d e = ap (get name) (shape json.null d e)
get_read name (json.boolean b) d e = ap (get name) (shape (json.boolean b) d e)
get_read name (json.number s) d e = ap (get name) (shape (json.number s) d e).2
get_read name (json.string s) d e = ap (get name) (shape (json.string s) d e)
get_read name (json.array js) d e = ap (get name) (shape (json.array js) d e).2
get_read name (json.object ms) d e =
    let is = shape (json.object ms) d e in
    subst (λ o. Finds (asked.get_member name ms) None o) (ap (get name) (sym is.2)) (members_read name ms no_members is.0 is.1)
