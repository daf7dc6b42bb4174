-- Places and the keys of tables, as the code holds them.
use Rattle.std.specs.Prelude.{ℕ, List, map}
use Rattle.std.specs.Option.{option_copied}
use denote.Ref.{Bor}
use Rattle.nextest_config_resolution_warnings.specs.Places as places
use Rattle.nextest_config_resolution_warnings.specs.declared.keys.Keys.{Keys}
use Rattle.nextest_config_resolution_warnings.specs.declared.keys.Keys.TheVariants.{These, Any, Listed}
use Rattle.nextest_config_resolution_warnings.specs.declared.keys.Place.{Place}
use Rattle.nextest_config_resolution_warnings.specs.declared.keys.Place.TheVariants as held
use Rattle.nextest_config_resolution_warnings.specs.declared.kind.Kind.{Kind}

-- a place
abbrev pub place_seen : Place → places.Place
place_seen (held.Kind kind) = places.kind kind
place_seen (held.Within list above) = places.within list above.now

-- a row that is lent
abbrev pub seen_row : Bor (List ℕ) × Kind → List ℕ × Kind
seen_row row = (row.0.now, row.1)

-- keys
abbrev pub keys_of : Keys → places.Keys
keys_of (These rows) = places.these (map seen_row rows.now)
keys_of (Any kind) = places.any kind
keys_of (Listed list above) = places.listed list (option_copied above)
