-- Inputs whose files agree but in profiles outside of the chosen one's chain agree on the chain.
use Rattle.std.proofs.Common.{List, map, ap}
use Rattle.nextest_config_resolution_overrides.specs.declared.groups.NamedGroup.{NamedGroup}
use Rattle.nextest_config_resolution_profiles.proofs.ProfileIsolation.{profile_isolation}
use Rattle.nextest_config_resolution_scripts.specs.declared.script_config.ScriptConfig.{ScriptConfig}
use Rattle.nextest_filtering_filters.specs.declared.known_groups.KnownGroups.TheVariants.{Known}
use Rattle.test_runner_core_settings.specs.Laws.{AgreesOnChain}
use Rattle.test_runner_core_settings.specs.Pass.{features_of}
use Rattle.test_runner_core_settings.specs.Sets.{IsFilter, IsPlatformSpec, IsTooDeep}

pub agrees_on_chain : AgreesOnChain
agrees_on_chain cx inputs other agree =
    let same = profile_isolation (IsFilter cx) IsPlatformSpec IsTooDeep (features_of inputs) (features_of other) inputs.root other.root inputs.sources other.sources agree.names agree.config agree.second
    agree.sources agree.reads agree.reads_second in
    record {
      profile = agree.profile;
      mode = agree.mode;
      host = agree.host;
      target = agree.target;
      config = agree.config;
      reads = agree.reads;
      second = agree.second;
      reads_second = agree.reads_second;
      names = agree.names;
      chain = agree.chain;
      each = same.values;
      rules = same.rules;
      script_rules = same.script_rules;
      groups = ap (λ (groups : List NamedGroup). Known (map (λ (group : NamedGroup). group.name) groups)) same.groups;
      wrappers = ap (λ (scripts : ScriptConfig). scripts.wrapper) same.scripts;
    }
