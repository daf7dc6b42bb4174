use Rattle.std.proofs.Common.{unwrap_or}
use Rattle.std.specs.Option.{option_copied}
use Rattle.nextest_config_resolution_settings.specs.Nearest.{lent_layers, of_profiles, setting_source_of}
use Rattle.nextest_config_resolution_settings.proofs.Searching.{of_rule_at}
use Rattle.nextest_config_resolution_settings.proofs.layers.find_setting.Goals as goal

pub returns-in-Some : goal.returns-in-Some
returns-in-Some g c = λ fallback.
    of_rule_at g.R.Rule.id g.R.Sets.value g.P.Sets.value c.args.rules.now (lent_layers c.args.profiles.now) fallback c.in-Some.value.now
    c.in-Some.place c.index-rules-place.result (setting_source_of c.source_of.result) c.in-Some.ensures.found c.index-rules-place.is c.source_of.ensures

pub returns-in-None : goal.returns-in-None
returns-in-None g c = λ fallback.
    of_profiles (unwrap_or (option_copied c.find_in_profiles.result.0) fallback) (setting_source_of c.find_in_profiles.result.1)
    c.in-None.ensures.none (c.find_in_profiles.ensures fallback)
