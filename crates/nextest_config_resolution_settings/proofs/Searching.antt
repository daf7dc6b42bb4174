-- A search through layers that are lent, from the first on.
use Rattle.std.proofs.Common.{◌≡◌, ℕ, ◌+◌, ◌<◌, ◌≤◌, List, ◌∷◌, ◌++◌, Option, Some, None, length, get_or, take, drop, Bor, sym, ap, ◌∙◌, subst, arith}
use Rattle.std.proofs.lemmas.List.{take-append-drop, drop_more, get_or-map, length-map, length-take-le, take_all}
use Rattle.std.proofs.lemmas.List.Elements.{All-more}
use Rattle.nextest_config_resolution_settings.specs.Nearest.{IsNearest, IsSetting, SetsNone, Source, an_override, lent_layers, of_rule}
use Rattle.nextest_config_resolution_overrides.specs.declared.override_id.OverrideId.{OverrideId}
use Rattle.nextest_config_resolution_settings.proofs.Unique.{layer_at, within}

lent_at : {L : Type 0} (layers : List (Bor L)) (place : ℕ) (layer : Bor L) → place < length layers → layer ≡ get_or layers place layer
    → get_or (lent_layers layers) place layer.now ≡ layer.now
lent_at layers place layer within is = get_or-map (λ it. it.now) layers place layer layer.now within ∙ ap (λ it. it.now) (sym is)

lent_within : {L : Type 0} (layers : List (Bor L)) (place : ℕ) → place < length layers → place < length (lent_layers layers)
lent_within layers place within = omega (arith, length-map layers (λ it. it.now))

divided_at : {L : Type 0} (xs : List L) (place : ℕ) (x : L) → place < length xs → get_or xs place x ≡ x → xs ≡ take place xs ++ x ∷ drop (place + 1) xs
divided_at xs place x within is =
    sym (take-append-drop place xs) ∙ ap (λ rest. take place xs ++ rest) (drop_more xs place x within ∙ ap (λ it. it ∷ drop (place + 1) xs) is)

-- the layer at a place sets a value, and none before it did
pub nearest_at : {L V : Type 0} (set_by : L → Option V) (layers : List (Bor L)) (place : ℕ) (layer : Bor L) (value : V)
    → place < length layers → layer ≡ get_or layers place layer → SetsNone set_by (take place (lent_layers layers)) → set_by layer.now ≡ Some value
    → IsNearest set_by (lent_layers layers) place value
nearest_at set_by layers place layer value within is unset sets =
    let inside = lent_within layers place within in
    record {
      front = take place (lent_layers layers);
      layer = layer.now;
      back = drop (place + 1) (lent_layers layers);
      divided = divided_at (lent_layers layers) place layer.now inside (lent_at layers place layer within is);
      placed = let inside' : place ≤ length (lent_layers layers) = omega arith in sym (length-take-le place (lent_layers layers) inside');
      before = unset;
      sets = sets;
    }

-- no layer so far, and not the one at a place
pub none_more : {L V : Type 0} (set_by : L → Option V) (layers : List (Bor L)) (place : ℕ) (layer : Bor L)
    → place < length layers → layer ≡ get_or layers place layer → SetsNone set_by (take place (lent_layers layers)) → set_by layer.now ≡ None
    → SetsNone set_by (take (place + 1) (lent_layers layers))
none_more set_by layers place layer within is unset sets =
    All-more (λ it. set_by it ≡ None) (lent_layers layers) place layer.now (lent_within layers place within) unset
    (ap set_by (lent_at layers place layer within is) ∙ sets)

pub none_all : {L V : Type 0} (set_by : L → Option V) (layers : List (Bor L)) (place : ℕ)
    → length layers ≤ place → SetsNone set_by (take place (lent_layers layers)) → SetsNone set_by (lent_layers layers)
none_all set_by layers place over unset =
    let whole : length (lent_layers layers) ≤ place = omega (arith, length-map layers (λ it. it.now)) in
    subst (λ xs. SetsNone set_by xs) (take_all place (lent_layers layers) whole) unset

-- the nearest layer is the one that is lent at its place
pub nearest_is : {L V : Type 0} (set_by : L → Option V) (layers : List (Bor L)) (place : ℕ) (value : V) (layer : Bor L)
    → (n : IsNearest set_by (lent_layers layers) place value) → layer ≡ get_or layers place layer → layer.now ≡ n.layer
nearest_is set_by layers place value layer n is =
    let inside : place < length layers = omega (arith, within n, length-map layers (λ it. it.now)) in
    sym (layer_at n layer.now ∙ lent_at layers place layer inside is)

-- the nearest rule that sets a value is the one that is lent at its place, and the value comes from
-- there
pub of_rule_at : {R P V : Type 0} (id_of : R → OverrideId) (by_rule : R → Option V) (by_profile : P → Option V)
    (rules : List (Bor R)) (profiles : List P) (fallback value : V) (place : ℕ) (rule : Bor R) (from : Source)
    → IsNearest by_rule (lent_layers rules) place value → rule ≡ get_or rules place rule → from ≡ an_override (id_of rule.now)
    → IsSetting id_of by_rule by_profile (lent_layers rules) profiles fallback value from
of_rule_at id_of by_rule by_profile rules profiles fallback value place rule from n at told =
    let named = ap id_of (nearest_is by_rule rules place value rule n at) in
    subst (λ (it : Source). IsSetting id_of by_rule by_profile (lent_layers rules) profiles fallback value it) (sym told)
    (of_rule value (id_of rule.now) (record { place = place; nearest = n; named = named }))
