-- A value whose numbers are in range is read, and no other.
use Rattle.std.proofs.Common.{◌≡◌, ℕ, ◌+◌, ◌<◌, ◌&&◌, List, drop, length, get_or, Option, None, Some, option_map, option_and_then, is_some, Bool, refl, ap, ◌∙◌, Bor}
use Rattle.std.proofs.lemmas.List.{drop_more}
use Rattle.json.specs.Json as json
use Rattle.json.specs.Value.{value_view, items_view, members_view}
use Rattle.json.specs.declared.value.Value.{Value}
use Rattle.serde_json.specs.Data.{number, array, object, item, Members, no_members, put}
use Rattle.serde_json.specs.Read.{number_of, of_json, of_items, of_members}
use Rattle.nextest_json.specs.Range.{is_in_range, are_items_in_range, are_members_in_range}

some_mapped : {A B : Type 0} (f : A → B) (o : Option A) → is_some (option_map f o) ≡ is_some o
some_mapped f None = refl
some_mapped f (Some a) = refl

some_then : {A B : Type 0} (o : Option A) (next : A → Option B) (b : Bool) → ((a : A) → is_some (next a) ≡ b) → is_some (option_and_then next o) ≡ (is_some o && b)
some_then None next b all = refl
some_then (Some a) next b all = all a

mutual
  pub read_in_range : (j : json.Json) → is_some (of_json j) ≡ is_in_range j
  read_in_range json.null = refl
  read_in_range (json.boolean b) = refl
  read_in_range (json.number s) = some_mapped number (number_of s)
  read_in_range (json.string s) = refl
  read_in_range (json.array js) = some_mapped array (of_items js) ∙ items_read_in_range js
  read_in_range (json.object ms) = some_mapped object (of_members ms no_members) ∙ members_read_in_range ms no_members

  items_read_in_range : (js : json.Items) → is_some (of_items js) ≡ are_items_in_range js
  items_read_in_range json.no_items = refl
  items_read_in_range (json.item j js) =
      some_then (of_json j) (λ d. option_map (item d) (of_items js)) (are_items_in_range js) (λ d. some_mapped (item d) (of_items js) ∙ items_read_in_range js)
      ∙ ap (λ b. b && are_items_in_range js) (read_in_range j)

  members_read_in_range : (ms : json.Members) (found : Members) → is_some (of_members ms found) ≡ are_members_in_range ms
  members_read_in_range json.no_members found = refl
  members_read_in_range (json.member k j ms) found =
      some_then (of_json j) (λ d. of_members ms (put k d found)) (are_members_in_range ms) (λ d. members_read_in_range ms (put k d found))
      ∙ ap (λ b. b && are_members_in_range ms) (read_in_range j)

-- ---- one item or member after another

pub item_here : {A : Type 0} (values : List (Value A)) (index : ℕ) (default : Value A) → index < length values
    → are_items_in_range (items_view (drop index values)) ≡ (is_in_range (value_view (get_or values index default)) && are_items_in_range (items_view (drop (index + 1) values)))
item_here values index default within = ap (λ more. are_items_in_range (items_view more)) (drop_more values index default within)

pub member_here : {A : Type 0} (members : List (Bor (List ℕ) × Value A)) (index : ℕ) (default : Bor (List ℕ) × Value A) → index < length members
    → are_members_in_range (members_view (drop index members)) ≡ (is_in_range (value_view (get_or members index default).1) && are_members_in_range (members_view (drop (index + 1) members)))
member_here members index default within = ap (λ more. are_members_in_range (members_view more)) (drop_more members index default within)
