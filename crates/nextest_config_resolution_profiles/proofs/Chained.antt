-- The default filter of a chain is that of the profile at the place of the nearest that sets one.
use Rattle.std.proofs.Common.{◌≡◌, ℕ, List, map, Option, Some, option_map, ap, ◌∙◌}
use Rattle.std.proofs.lemmas.Option.{get_or_from_slice_get, slice_get-map, slice_get_within}
use Rattle.std.specs.List.{slice_get}
use Rattle.nextest_config_resolution_inheritance.specs.Inheritance.{Name, name_at, names_at}
use Rattle.nextest_config_resolution_load.specs.Load.{named_of}
use Rattle.nextest_config_resolution_load.specs.declared.loaded_config.NamedProfile.{NamedProfile}
use Rattle.nextest_config_resolution_settings.specs.Layers.{in_command}
use Rattle.nextest_config_resolution_settings.specs.Nearest.{IsNearest}
use Rattle.nextest_config_resolution_keys.specs.declared.profile_config.ProfileConfig.{ProfileConfig}
use Rattle.nextest_config_resolution_keys.specs.Command as command_key
use Rattle.nextest_config_resolution_profiles.specs.Chains.{AreAt}
use Rattle.nextest_config_resolution_profiles.specs.Config.{IsDefaultFilterOf}
use Rattle.nextest_config_resolution_settings.specs.declared.default_filter.CompiledDefaultFilter.{CompiledDefaultFilter}
use Rattle.nextest_config_resolution_settings.specs.declared.default_filter.CompiledDefaultFilterSection.TheVariants as section
use Rattle.nextest_config_resolution_profiles.proofs.Filtered.{config_at, nearest_at}
use Rattle.nextest_config_resolution_profiles.proofs.Names.{all_of, name_is}

pub is_default_of : {F : Type 0} (profiles : List NamedProfile) (filters : List (Option F)) (places : List ℕ) (values : List ProfileConfig) (near : ℕ) (text : List ℕ) (place : ℕ) (profile : NamedProfile) (it : CompiledDefaultFilter F)
    → AreAt (map named_of profiles) places values → IsNearest (in_command command_key.default_filter_of) values near text
    → slice_get places near ≡ Some place → slice_get profiles place ≡ Some profile → profile.name ≡ it.profile.now → slice_get filters place ≡ Some (Some it.filter.now) → it.section ≡ section.Profile
    → IsDefaultFilterOf profiles filters (names_at (all_of profiles) places) values it
is_default_of profiles filters places values near text place profile it at nearest placed stands name read set_in =
    let here = nearest_at (in_command command_key.default_filter_of) values near text nearest in
    let of_place : name_at (all_of profiles) place ≡ it.profile.now =
    name_is profiles place profile (slice_get_within profiles place profile stands) ∙ ap (λ (p : NamedProfile). p.name) (get_or_from_slice_get profiles place profile profile stands) ∙ name in
    record {
      place = near;
      text = text;
      nearest = nearest;
      named = slice_get-map (name_at (all_of profiles)) places near ∙ ap (option_map (name_at (all_of profiles))) placed ∙ ap (λ (n : Name). Some n) of_place;
      at = place;
      from = profile;
      stands = stands;
      of_name = name;
      sets = ap (in_command command_key.default_filter_of) (config_at profiles places values near place profile nearest.layer at here placed stands) ∙ nearest.sets;
      read = read;
      section = set_in;
    }
