-- The items of a list, one after another.
use Rattle.std.proofs.Common.{◌≡◌, List, [], ◌∷◌, map, Option, None, Some, option_map, is_some, unwrap_or, true, refl, sym, ap, ◌∙◌, Bor, Global}
use Rattle.json.specs.Json as json
use Rattle.json.specs.Find as asked
use Rattle.json.specs.Value.{value_view, items_view}
use Rattle.json.specs.declared.value.Value as lent
use Rattle.serde_json.specs.Data.{Data, Items, item}
use Rattle.serde_json.specs.Read.{of_json, of_items}
use Rattle.serde_json.specs.View.{view, items_of}
use Rattle.serde_json.specs.declared.value.Value.{Value}
use Rattle.nextest_json.specs.Left.{items_left}
use Rattle.nextest_json.specs.Listed.{list_of_items, items}
use Rattle.nextest_json.specs.Rest.{data_of_items, data_of_rest}
use Rattle.nextest_json.specs.declared.items.JsonItems.{JsonItems}
use Rattle.nextest_json.specs.declared.items.Rest.TheVariants.{Document, Trees}
use Rattle.nextest_json.proofs.Shapes.{shape, mapped, one_more}

-- ---- the items of a value

-- what is said of the items of a value that was read
abbrev pub ItemsAt : {A : Type 0} → Option (Bor (List (lent.Value A))) → Option (List Data) → Type 0
ItemsAt None o = o ≡ None
ItemsAt (Some values) o = (is_some (data_of_items values.now) ≡ true) × (data_of_items values.now ≡ o)

no_list : (j : json.Json) (d : Data) → of_json j ≡ Some d → asked.as_array j ≡ None → items d ≡ None
no_list json.null d e none = ap items (shape json.null d e)
no_list (json.boolean b) d e none = ap items (shape (json.boolean b) d e)
no_list (json.number s) d e none = ap items (shape (json.number s) d e).2
no_list (json.string s) d e none = ap items (shape (json.string s) d e)
no_list (json.array js) d e none = absurd (cc)
no_list (json.object ms) d e none = ap items (shape (json.object ms) d e).2

of_array : (j : json.Json) (d : Data) (js : json.Items) → of_json j ≡ Some d → asked.as_array j ≡ Some js → (ds : Items) × (of_items js ≡ Some ds) × (items d ≡ Some (list_of_items ds))
of_array json.null d js e is = absurd (cc)
of_array (json.boolean b) d js e is = absurd (cc)
of_array (json.number s) d js e is = absurd (cc)
of_array (json.string s) d js e is = absurd (cc)
of_array (json.array xs) d js e is =
    let read = shape (json.array xs) d e in
    let same : xs ≡ js = cc in
    (read.0, ap of_items (sym same) ∙ read.1, ap items read.2)
of_array (json.object ms) d js e is = absurd (cc)

pub items_at : {A : Type 0} (answer : Option (Bor (List (lent.Value A)))) (j : json.Json) (d : Data) → of_json j ≡ Some d
    → option_map (λ values. items_view values.now) answer ≡ asked.as_array j → ItemsAt answer (items d)
items_at None j d e says = no_list j d e (sym says)
items_at (Some values) j d e says =
    let is = of_array j d (items_view values.now) e (sym says) in
    let there = ap (option_map list_of_items) is.1 in
    (ap is_some there, there ∙ sym is.2)

-- ---- the next item

-- the first item was read, and so were those behind it
pub record OneMore {A : Type 0} (first : lent.Value A) (more : List (lent.Value A)) (xs : List Data) : Type 0 where
  pub seen : Data
  pub left : List Data
  pub here : of_json (value_view first) ≡ Some seen
  pub behind : data_of_items more ≡ Some left
  pub all : xs ≡ seen ∷ left

pub next_read : {A : Type 0} (first : lent.Value A) (more : List (lent.Value A)) (xs : List Data) → data_of_items (first ∷ more) ≡ Some xs → OneMore first more xs
next_read first more xs e =
    let whole = mapped list_of_items (of_items (items_view (first ∷ more))) xs e in
    let one = one_more (of_json (value_view first)) (λ d. option_map (item d) (of_items (items_view more))) whole.0 whole.1 in
    let rest = mapped (item one.0) (of_items (items_view more)) whole.0 one.2 in
    record { seen = one.0; left = list_of_items rest.0; here = one.1; behind = ap (option_map list_of_items) rest.1; all = whole.2 ∙ ap list_of_items rest.2 }

-- ---- the data that is left

pub known : (o : Option (List Data)) → is_some o ≡ true → o ≡ Some (unwrap_or o [])
known None e = absurd (cc)
known (Some xs) e = refl

pub at_places : (it : JsonItems) (values : Bor (List (lent.Value Global))) → it.rest ≡ Document values → data_of_items values.now ≡ Some (items_left it)
unfolding items_left
at_places it values e = ap data_of_rest (sym e) ∙ known (data_of_rest it.rest) it.there

pub in_trees : (it : JsonItems) (values : Bor (List Value)) → it.rest ≡ Trees values → map view values.now ≡ items_left it
unfolding items_left
in_trees it values e = ap (λ r. unwrap_or (data_of_rest r) []) (sym e)

pub listed_items : (given : List Data) → list_of_items (items_of given) ≡ given
listed_items [] = refl
listed_items (first ∷ rest) = ap (λ more. first ∷ more) (listed_items rest)

-- ---- items of a document, one after another

pub none_left : {A : Type 0} (values : List (lent.Value A)) (xs : List Data) → data_of_items values ≡ Some xs → values ≡ [] → xs ≡ []
none_left values xs e none =
    let is : Some xs ≡ Some [] = sym e ∙ ap data_of_items none in
    cc

pub first_there : {A : Type 0} (values : List (lent.Value A)) (first : lent.Value A) (more : List (lent.Value A)) (xs : List Data) → data_of_items values ≡ Some xs → values ≡ first ∷ more
    → is_some (of_json (value_view first)) ≡ true
first_there values first more xs e is = ap is_some (next_read first more xs (ap data_of_items (sym is) ∙ e)).here

pub rest_there : {A : Type 0} (values : List (lent.Value A)) (first : lent.Value A) (more : List (lent.Value A)) (xs : List Data) → data_of_items values ≡ Some xs → values ≡ first ∷ more
    → is_some (data_of_items more) ≡ true
rest_there values first more xs e is = ap is_some (next_read first more xs (ap data_of_items (sym is) ∙ e)).behind

pub next_seen : {A : Type 0} (values : List (lent.Value A)) (first : lent.Value A) (more : List (lent.Value A)) (xs : List Data) (d : Data) → data_of_items values ≡ Some xs → values ≡ first ∷ more
    → Some d ≡ of_json (value_view first) → xs ≡ d ∷ unwrap_or (data_of_items more) []
next_seen values first more xs d e is found =
    let next = next_read first more xs (ap data_of_items (sym is) ∙ e) in
    let same : d ≡ next.seen = cc (found ∙ next.here) in
    next.all ∙ ap (λ x. x ∷ next.left) (sym same) ∙ ap (λ o. d ∷ unwrap_or o []) (sym next.behind)
