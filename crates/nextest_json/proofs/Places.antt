-- What stands in a document.
use Rattle.std.proofs.Common.{◌≡◌, List, ℕ, Option, None, Some, option_map, is_some, unwrap_or, true, refl, sym, ap, ◌∙◌, subst, Bor, Global}
use Rattle.std.specs.Option.{option_copied}
use Rattle.json.specs.Json as json
use Rattle.json.specs.Find as asked
use Rattle.json.specs.Value.{value_view}
use Rattle.json.specs.declared.value.Value as lent
use Rattle.serde_json.specs.Data.{Data, null}
use Rattle.serde_json.specs.Find.{get}
use Rattle.serde_json.specs.Read.{of_json}
use Rattle.serde_json.specs.View.{view, number_view}
use Rattle.serde_json.specs.declared.number.Number.{Number}
use Rattle.serde_json.specs.declared.value.Value.{Value}
use Rattle.nextest_json.specs.Place.{data_at_place}
use Rattle.nextest_json.specs.Seen.{data_of}
use Rattle.nextest_json.specs.declared.value.JsonValue.{JsonValue}
use Rattle.nextest_json.specs.declared.value.Source.TheVariants.{Document, Tree}
use Rattle.nextest_json.proofs.Shapes.{Finds, get_read}

-- what is found, of a value that was read, was read
abbrev pub FindsAt : {A : Type 0} → Option (Bor (lent.Value A)) → Option Data → Type 0
FindsAt None o = o ≡ None
FindsAt (Some found) o = (is_some (of_json (value_view found.now)) ≡ true) × (of_json (value_view found.now) ≡ o)

finds_at : {A : Type 0} (answer : Option (Bor (lent.Value A))) (o : Option Data) → Finds (option_map (λ v. value_view v.now) answer) None o → FindsAt answer o
finds_at None o is = is
finds_at (Some found) o is = (ap is_some is.1, is.1 ∙ sym is.2)

pub get_at : {A : Type 0} (name : List ℕ) (j : json.Json) (d : Data) (answer : Option (Bor (lent.Value A))) → of_json j ≡ Some d
    → option_map (λ v. value_view v.now) answer ≡ asked.get name j → FindsAt answer (get name d)
get_at name j d answer e finds = finds_at answer (get name d) (subst (λ i. Finds i None (get name d)) (sym finds) (get_read name j d e))

-- ---- the data that a value is

pub known : (o : Option Data) → is_some o ≡ true → o ≡ Some (unwrap_or o null)
known None e = absurd (cc)
known (Some d) e = refl

pub at_place : (v : JsonValue) (value : Bor (lent.Value Global)) → v.source ≡ Document value → of_json (value_view value.now) ≡ Some (data_of v)
unfolding data_of
at_place v value e = ap data_at_place (sym e) ∙ known (data_at_place v.source) v.there

pub in_tree : (v : JsonValue) (t : Bor Value) → v.source ≡ Tree t → view t.now ≡ data_of v
unfolding data_of
in_tree v t e = ap (λ s. unwrap_or (data_at_place s) null) (sym e)

pub copied_view : (found : Option (Bor Number)) → option_map number_view (option_copied found) ≡ option_map (λ number. number_view number.now) found
copied_view None = refl
copied_view (Some number) = refl
