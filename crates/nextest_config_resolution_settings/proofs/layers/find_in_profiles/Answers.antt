use Rattle.nextest_config_resolution_settings.specs.Nearest.{of_fallback, of_profile}
use Rattle.nextest_config_resolution_settings.proofs.layers.find_in_profiles.Goals as goal

pub returns-in-Some : goal.returns-in-Some
returns-in-Some g c = λ fallback. of_profile c.in-Some.place c.in-Some.value.now c.in-Some.ensures.found

pub returns-in-None : goal.returns-in-None
returns-in-None g c = λ fallback. of_fallback c.in-None.ensures.none
