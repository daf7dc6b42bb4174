use Rattle.std.proofs.Common.{◌≡◌, ℕ, List, [], Option, unwrap_or, sym, ap, ◌∙◌, subst}
use Rattle.std.specs.Option.{option_copied}
use Rattle.nextest_config_resolution_keys.specs.Command.{run_extra_args_of}
use Rattle.nextest_config_resolution_keys.specs.Command.{run_extra_args_fallback}
use Rattle.nextest_config_resolution_settings.specs.Layers.{layers_in}
use Rattle.nextest_config_resolution_settings.specs.Tracked.{IsCommandSetting}
use Rattle.nextest_config_resolution_settings.proofs.tracking.run_extra_args_by.Goals as goal

pub returns-in-Some : goal.returns-in-Some
returns-in-Some g c =
    let same : unwrap_or (option_copied c.found_by-source.result.0) run_extra_args_fallback ≡ c.as_slice.result.now =
    ap (λ (found : Option _). unwrap_or (option_copied found) run_extra_args_fallback) c.in-Some.is ∙ sym c.as_slice.ensures in
    subst (λ (value : List (List ℕ)). IsCommandSetting g.T.TrackSource.tells (layers_in c.args.layers) run_extra_args_of run_extra_args_fallback (value, c.found_by-source.result.1))
    same (c.found_by-source.ensures run_extra_args_fallback)

pub returns-in-None : goal.returns-in-None
returns-in-None g c =
    let same : unwrap_or (option_copied c.found_by-source.result.0) run_extra_args_fallback ≡ [] =
    ap (λ (found : Option _). unwrap_or (option_copied found) run_extra_args_fallback) c.in-None.is in
    subst (λ (value : List (List ℕ)). IsCommandSetting g.T.TrackSource.tells (layers_in c.args.layers) run_extra_args_of run_extra_args_fallback (value, c.found_by-source.result.1))
    same (c.found_by-source.ensures run_extra_args_fallback)
