-- The platforms of inputs, and for which of them rules hold.
use Rattle.std.specs.Prelude.{ℕ, Bool, false, ◌||◌, List, Option, None, Some, map, option_map, unwrap_or, ⊤}
use Rattle.std.specs.Option.{option_map_or}
use Rattle.nextest_config_resolution_load.specs.Rules.{Conditions}
use Rattle.nextest_filtering_ast.specs.declared.leaf.BuildPlatform.{BuildPlatform}
use Rattle.nextest_filtering_ast.specs.declared.leaf.BuildPlatform.TheVariants as built_for
use Rattle.test_runner_core_inputs.specs.declared.inputs.Inputs.{Inputs}
use Rattle.test_runner_core_inputs.specs.declared.platform.FactRecord.{FactRecord}
use Rattle.test_runner_core_inputs.specs.declared.platform.PlatformRecord.{PlatformRecord}
use Rattle.test_runner_core_platforms.specs.Facts.{Facts, has_repeat}
use Rattle.test_runner_core_platforms.specs.Grammar.{IsSpec}
use Rattle.test_runner_core_platforms.specs.Meaning.{HasValue}
use Rattle.test_runner_core_platforms.specs.Spec.{Spec}
use Rattle.test_runner_core_platforms.specs.declared.fact.Fact.{Fact}

-- ---- what is known of platforms

abbrev pub fact_of : FactRecord → Fact
fact_of it = record { name = it.name; value = it.value; holds = it.holds }

abbrev pub facts_of : PlatformRecord → Facts
facts_of it = record { triple = it.triple; known = map fact_of it.facts }

-- of the platform that is built on, and of the one that is built for
pub record Platforms : Type 0 where
  pub host : Facts
  pub target : Facts

-- those of inputs: where no target is handed in, it is the host
abbrev pub platforms_of : Inputs → Platforms
platforms_of inputs = record { host = facts_of inputs.host; target = unwrap_or (option_map facts_of inputs.target) (facts_of inputs.host) }

-- two facts of a platform have the same name and the same value
abbrev pub repeats : PlatformRecord → Bool
repeats it = has_repeat (facts_of it).known

-- of one of the platforms that are handed in
abbrev pub has_repeated_fact : Inputs → Bool
has_repeated_fact inputs = repeats inputs.host || option_map_or repeats inputs.target false

-- ---- specs

-- a spec holds on a platform, unless what is known tells that it doesn't; and so does one that
-- isn't there
abbrev pub SpecHolds : Facts → Option (List ℕ) → Type 0
SpecHolds facts None = ⊤
SpecHolds facts (Some text) = (spec : Spec) × IsSpec text spec × ¬ HasValue facts spec (Some false)

-- what is known of the platform that a binary is built for
abbrev pub built_for_of : Platforms → BuildPlatform → Facts
built_for_of platforms built_for.Host = platforms.host
built_for_of platforms built_for.Target = platforms.target

-- a rule with these texts holds for what is built for a platform: its spec of the host holds on the
-- host, and its spec of the target on that platform
abbrev pub HoldsFor : Platforms → BuildPlatform → Conditions → Type 0
HoldsFor platforms platform it = SpecHolds platforms.host it.host × SpecHolds (built_for_of platforms platform) it.target
