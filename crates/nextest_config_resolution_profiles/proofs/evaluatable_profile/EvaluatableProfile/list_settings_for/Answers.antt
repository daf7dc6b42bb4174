use Rattle.std.proofs.Common.{List, ◌∙◌, ap, map, subst}
use Rattle.nextest_config_resolution_profiles.specs.Enabled.{HoldsOnBinary}
use Rattle.nextest_config_resolution_profiles.specs.Evaluatable.{Evaluatable}
use Rattle.nextest_config_resolution_profiles.specs.Held.{placed_of}
use Rattle.nextest_config_resolution_profiles.specs.HeldRules.{rules_at}
use Rattle.nextest_config_resolution_profiles.proofs.Columns.{picked_hold}
use Rattle.nextest_config_resolution_profiles.proofs.evaluatable_profile.EvaluatableProfile.list_settings_for.Goals as goal
use Rattle.nextest_config_resolution_scripts.specs.declared.script_config.NamedScript.{NamedScript}
use Rattle.nextest_config_resolution_scripts.specs.declared.script_rule.PlacedScriptRule.{PlacedScriptRule}
use Rattle.nextest_config_resolution_scripts.specs.declared.wrapper_script.WrapperScriptConfig.{WrapperScriptConfig}
use Rattle.nextest_config_resolution_settings.specs.Nearest.{lent_layers}
use Rattle.nextest_config_resolution_settings.specs.Wrappers.{SetsWrapper, list_wrapper}
use Rattle.nextest_filtering_filters.specs.Query.{binary_of}
use Rattle.std.specs.Option.{option_copied}

pub returns : goal.returns
returns g c =
    let profile = c.args.self.now in
    let found = c.in_ok-rules.ensures in
    let held = rules_at found.row profile.script_rules in
    let it = option_copied c.list_settings_by.result.list_wrapper.0 in
    record {
      held = held;
      are = picked_hold (HoldsOnBinary g.F.Filters.on_binary profile.default_filter.filter.now (binary_of c.args.query.now)) profile.script_rules found.row found.told;
      sets = subst (λ (wrappers : List (NamedScript WrapperScriptConfig)). SetsWrapper wrappers list_wrapper (map placed_of held) it)
          (c.as_slice-2.ensures ∙ ap (λ (p : Evaluatable g.row.F.Denot g.row.S.Denot). p.scripts.wrapper) c.self.view_is)
          (subst (λ (rules : List PlacedScriptRule). SetsWrapper c.as_slice-2.result.now list_wrapper rules it) (ap lent_layers c.as_slice.ensures.value ∙ found.same) c.list_settings_by.ensures);
    }
