-- Checks that are kept, and those that are broken.
use Rattle.std.proofs.Common.{◌≡◌, ℕ, List, [], ◌∷◌, ◌++◌, Ok, sym, ap, ◌∙◌, subst, inl, inr}
use Rattle.std.specs.List.{AllByRecursion, flat_map}
use Rattle.toml.specs.Data.{Members}
use Rattle.nextest_config_resolution_inheritance.specs.Inheritance.{IsAccepted}
use Rattle.nextest_config_resolution_inheritance.proofs.Faults.{no_fault, one_fault}
use Rattle.nextest_config_resolution_load.specs.Checks.{Check, broken, is_filter, is_spec, inheritance, Refusal, inherits_badly, MergedConfig, checks_of, config_in, default_checks, merged_checks, merged_in, named_checks, parents_of, rules_upward, script_rules_upward, source_checks}
use Rattle.nextest_config_resolution_load.specs.Load.{Breaks, BreaksFirst, IsFilterBy, IsKept, IsSpecBy}
use Rattle.nextest_config_resolution_overrides.specs.declared.placed_override.PlacedOverride.{PlacedOverride}
use Rattle.nextest_config_elements_versions.specs.declared.feature.FeatureSet.{FeatureSet}
use Rattle.nextest_config_resolution_scripts.specs.declared.script_rule.PlacedScriptRule.{PlacedScriptRule}
use Rattle.nextest_config_resolution_sources.specs.Counting.{counting_sources}
use Rattle.nextest_config_resolution_sources.specs.declared.source.ConfigSource.{ConfigSource}

-- ---- what is kept of all checks

module _ {F S : Type 0} (Is : IsFilterBy F) (IsSpec : IsSpecBy S) where
  pub kept_before : (checks more : List Check) → AllByRecursion (IsKept Is IsSpec) (checks ++ more) → AllByRecursion (IsKept Is IsSpec) checks
  kept_before [] more kept = tt
  kept_before (check ∷ checks) more kept = (kept.0, kept_before checks more kept.1)

  pub kept_behind : (checks more : List Check) → AllByRecursion (IsKept Is IsSpec) (checks ++ more) → AllByRecursion (IsKept Is IsSpec) more
  kept_behind [] more kept = kept
  kept_behind (check ∷ checks) more kept = kept_behind checks more kept.1

  -- those of sources
  pub kept_sources : (features : FeatureSet) (built_in : Members) (sources : List ConfigSource) → AllByRecursion (IsKept Is IsSpec) (checks_of features built_in sources)
      → AllByRecursion (IsKept Is IsSpec) (flat_map (source_checks features) (counting_sources sources))
  kept_sources features built_in sources kept =
      kept_before (flat_map (source_checks features) (counting_sources sources)) (merged_checks (rules_upward sources) (script_rules_upward sources) (config_in (merged_in built_in sources))) kept

  -- and of what they come to
  pub kept_merged : (features : FeatureSet) (built_in : Members) (sources : List ConfigSource) → AllByRecursion (IsKept Is IsSpec) (checks_of features built_in sources)
      → AllByRecursion (IsKept Is IsSpec) (merged_checks (rules_upward sources) (script_rules_upward sources) (config_in (merged_in built_in sources)))
  kept_merged features built_in sources kept =
      kept_behind (flat_map (source_checks features) (counting_sources sources)) (merged_checks (rules_upward sources) (script_rules_upward sources) (config_in (merged_in built_in sources))) kept

  -- behind what rules name
  pub kept_profiles : (rules : List PlacedOverride) (scripts : List PlacedScriptRule) (config : MergedConfig) → AllByRecursion (IsKept Is IsSpec) (merged_checks rules scripts (Ok config))
      → AllByRecursion (IsKept Is IsSpec) (inheritance (parents_of config.profiles) ∷ default_checks config.profiles)
  kept_profiles rules scripts config kept =
      kept_behind (named_checks rules scripts config) (inheritance (parents_of config.profiles) ∷ default_checks config.profiles) kept

  -- whose profiles inherit as they may
  pub kept_inherits : (features : FeatureSet) (built_in : Members) (sources : List ConfigSource) (config : MergedConfig) → AllByRecursion (IsKept Is IsSpec) (checks_of features built_in sources)
      → config_in (merged_in built_in sources) ≡ Ok config → IsAccepted (parents_of config.profiles)
  kept_inherits features built_in sources config kept is =
      let merged : AllByRecursion (IsKept Is IsSpec) (merged_checks (rules_upward sources) (script_rules_upward sources) (Ok config)) =
      subst (λ reading. AllByRecursion (IsKept Is IsSpec) (merged_checks (rules_upward sources) (script_rules_upward sources) reading)) is (kept_merged features built_in sources kept) in
      (kept_profiles (rules_upward sources) (script_rules_upward sources) config merged).0

-- ---- a check is not both, and is broken for one reason

module _ {F S : Type 0} (Is : IsFilterBy F) (IsSpec : IsSpecBy S) (IsTooDeep : List ℕ → Type 0) (none_too_deep : (text : List ℕ) → ¬ IsTooDeep text) where
  kept_apart : (check : Check) (told : Refusal) → IsKept Is IsSpec check → Breaks Is IsSpec IsTooDeep check told → ⊥
  kept_apart (broken refusal) told kept breaks = kept
  kept_apart (inheritance parents) told kept (fault, is, first) = no_fault parents fault kept first
  kept_apart (is_filter of_purpose text refusal) told (it, is) (same, inl none) = none it is
  kept_apart (is_filter of_purpose text refusal) told (it, is) (same, inr (read, deep)) = none_too_deep text deep
  kept_apart (is_spec text refusal) told (it, is) (same, none) = none it is

  pub none_breaks : (checks : List Check) (told : Refusal) → AllByRecursion (IsKept Is IsSpec) checks → BreaksFirst Is IsSpec IsTooDeep checks told → ⊥
  none_breaks [] told kept breaks = breaks
  none_breaks (check ∷ checks) told kept (inl breaks) = kept_apart check told kept.0 breaks
  none_breaks (check ∷ checks) told kept (inr (here, more)) = none_breaks checks told kept.1 more

  one_break : (check : Check) (one other : Refusal) → Breaks Is IsSpec IsTooDeep check one → Breaks Is IsSpec IsTooDeep check other → one ≡ other
  one_break (broken refusal) one other a b = a ∙ sym b
  one_break (inheritance parents) one other (fault, a, first) (again, b, second) = a ∙ ap inherits_badly (one_fault parents fault again first second) ∙ sym b
  one_break (is_filter of_purpose text refusal) one other a b = a.0 ∙ sym b.0
  one_break (is_spec text refusal) one other a b = a.0 ∙ sym b.0

  pub one_first : (checks : List Check) (one other : Refusal) → BreaksFirst Is IsSpec IsTooDeep checks one → BreaksFirst Is IsSpec IsTooDeep checks other → one ≡ other
  one_first [] one other a b = absurd a
  one_first (check ∷ checks) one other (inl a) (inl b) = one_break check one other a b
  one_first (check ∷ checks) one other (inl a) (inr (kept, b)) = absurd (kept_apart check one kept a)
  one_first (check ∷ checks) one other (inr (kept, a)) (inl b) = absurd (kept_apart check other kept b)
  one_first (check ∷ checks) one other (inr (kept, a)) (inr (also, b)) = one_first checks one other a b
