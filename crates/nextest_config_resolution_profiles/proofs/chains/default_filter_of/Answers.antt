use Rattle.std.proofs.Common.{Some, ap, arith, length, refl, sym, ◌∙◌}
use Rattle.std.proofs.lemmas.Option.{slice_get-get_or, slice_get_read}
use Rattle.std.specs.List.{slice_index_or}
use Rattle.nextest_config_resolution_settings.specs.Nearest.{lent_layers}
use Rattle.nextest_config_resolution_profiles.proofs.Chained.{is_default_of}
use Rattle.nextest_config_resolution_profiles.proofs.Filtered.{default_at, filter_within, never_none}
use Rattle.nextest_config_resolution_profiles.proofs.chains.default_filter_of.Goals as goal

pub offset_bounds-filters-place : goal.offset_bounds-filters-place
offset_bounds-filters-place g c =
    let profiles = c.args.profiles.now in
    let filters = c.args.filters.now in
    let places = c.args.places.now in
    let near = c.in-Some.near in
    let text = c.in-Some.field-0-1.now in
    let within = filter_within profiles filters places near text (default_at profiles filters places (lent_layers c.args.values.now) near text c.requires.within c.requires.at c.requires.filtered c.in-Some.ensures.found) in
    omega (arith, within)

pub bounds-filters-place : goal.bounds-filters-place
bounds-filters-place g c =
    let profiles = c.args.profiles.now in
    let filters = c.args.filters.now in
    let places = c.args.places.now in
    let near = c.in-Some.near in
    let text = c.in-Some.field-0-1.now in
    filter_within profiles filters places near text (default_at profiles filters places (lent_layers c.args.values.now) near text c.requires.within c.requires.at c.requires.filtered c.in-Some.ensures.found)

pub unreachable-requires-in-None : goal.unreachable-requires-in-None
unreachable-requires-in-None g c =
    let profiles = c.args.profiles.now in
    let filters = c.args.filters.now in
    let places = c.args.places.now in
    let near = c.in-Some.near in
    let text = c.in-Some.field-0-1.now in
    let it = default_at profiles filters places (lent_layers c.args.values.now) near text c.requires.within c.requires.at c.requires.filtered c.in-Some.ensures.found in
    never_none profiles filters places near text c.index-filters-place.result it c.index-filters-place.is c.in-None.is

pub returns : goal.returns
returns g c =
    let profiles = c.args.profiles.now in
    let filters = c.args.filters.now in
    let places = c.args.places.now in
    let values = lent_layers c.args.values.now in
    let near = c.in-Some.near in
    let text = c.in-Some.field-0-1.now in
    let profile = c.index-profiles-place.result in
    let it = default_at profiles filters places values near text c.requires.within c.requires.at c.requires.filtered c.in-Some.ensures.found in
    let place = slice_index_or places near 0 in
    let read = slice_get_read filters (length filters) place c.index-filters-place.result refl (filter_within profiles filters places near text it) c.index-filters-place.is in
    is_default_of profiles filters places values near text place profile _ c.requires.at c.in-Some.ensures.found (slice_get-get_or places near 0 it.within)
    (slice_get_read profiles (length profiles) place profile refl (c.requires.within near 0 it.within) c.index-profiles-place.is)
    (ap (λ p. p.name) c.index-profiles-place.is ∙ sym c.as_str-profile.ensures) (read ∙ ap Some c.in-Some-filters.is) refl
