-- A rule of a profile holds on a test exactly if the override or script rule that it was read from
-- does.
use Rattle.std.proofs.Common.{◌≡◌, ◌↔◌, ℕ, Bool, true, false, ◌&&◌, List, [], ◌∷◌, map, Option, None, Some, refl, ap, ◌∙◌, subst}
use Rattle.std.specs.List.{AllByRecursion}
use Rattle.std.specs.Option.{IfSome, unwrap_or}
use Rattle.std.proofs.lemmas.Bool.{false≢true}
use Rattle.nextest_config_resolution_load.specs.Load.{IsReadAs, IsReadBy}
use Rattle.nextest_config_resolution_load.specs.Rules.{Conditions}
use Rattle.nextest_config_resolution_load.specs.declared.loaded_rule.LoadedRule.{LoadedRule}
use Rattle.nextest_config_resolution_load.specs.declared.languages.FilterPurpose.TheVariants as purpose
use Rattle.nextest_config_resolution_profiles.specs.Held.{Holds, holds_for, placed_of}
use Rattle.nextest_config_resolution_profiles.specs.Platforms.{ForTarget, RuleOn, on_platforms, spec_holds}
use Rattle.nextest_filtering_compiling.proofs.Trees.{is_on_as_compiled}
use Rattle.nextest_filtering_compiling.specs.Compiling.{IsCompiled}
use Rattle.nextest_filtering_compiling.specs.Context.{Context}
use Rattle.nextest_filtering_compiling.specs.Filtersets.{HasOnTest}
use Rattle.nextest_filtering_compiling.specs.Trees.{TreeIsOn}
use Rattle.nextest_filtering_compiling.specs.declared.filterset.Filterset.{Filterset}
use Rattle.nextest_filtering_filters.specs.Filter.{filter_of}
use Rattle.nextest_filtering_filters.specs.Query.{Test}
use Rattle.nextest_filtering_syntax.proofs.Trees.{one_tree}
use Rattle.nextest_filtering_syntax.specs.Parsed.{tree_of}
use Rattle.nextest_filtering_ast.specs.Tree.{Tree}
use Rattle.nextest_filtering_ast.specs.declared.leaf.BuildPlatform.{BuildPlatform}
use Rattle.nextest_filtering_ast.specs.declared.leaf.BuildPlatform.TheVariants as built
use Rattle.test_runner_core_platforms.proofs.Values.{has_value, one_value}
use Rattle.test_runner_core_platforms.specs.Facts.{Facts}
use Rattle.test_runner_core_platforms.specs.Meaning.{HasValue, value_of}
use Rattle.test_runner_core_platforms.specs.Single.{one_spec}
use Rattle.test_runner_core_platforms.specs.Spec.{Spec}
use Rattle.test_runner_core_platforms.specs.Trees.{spec_of}
use Rattle.test_runner_core_platforms.specs.declared.platform_spec.PlatformSpec.{PlatformSpec}
use Rattle.test_runner_core_settings.specs.Holding.{FilterHolds, TextsHold}
use Rattle.test_runner_core_settings.specs.Platforms.{HoldsFor, Platforms, SpecHolds}
use Rattle.test_runner_core_settings.specs.Sets.{IsFilter, IsPlatformSpec}
use Rattle.test_runner_core_settings.proofs.Mapped.{Alike}

-- ---- platforms

-- whether a spec holds on a platform, by what is known of that
abbrev pub value_on : PlatformSpec → Facts → Option Bool
value_on it facts = value_of facts (spec_of it)

spec_alike : (facts : Facts) (text : Option (List ℕ)) (found : Option PlatformSpec) → IsReadAs IsPlatformSpec text found
    → (spec_holds value_on found facts ≡ true) ↔ SpecHolds facts text
spec_alike facts None None is = ((λ e. tt), (λ holds. refl))
spec_alike facts None (Some it) is = absurd is
spec_alike facts (Some text) None is = absurd is
spec_alike facts (Some text) (Some it) is = (there, back)
  where
    there : unwrap_or (value_on it facts) true ≡ true → SpecHolds facts (Some text)
    there e = (
      spec_of it,
      is,
      (λ fails.
          let same : Some false ≡ value_on it facts = one_value facts (spec_of it) (Some false) fails in
          false≢true (ap (λ (value : Option Bool). unwrap_or value true) same ∙ e)),
    )

    by_value : ¬ HasValue facts (spec_of it) (Some false) → (value : Option Bool) → value_on it facts ≡ value → unwrap_or value true ≡ true
    by_value never None e = refl
    by_value never (Some true) e = refl
    by_value never (Some false) e = absurd (never (subst (HasValue facts (spec_of it)) e (has_value facts (spec_of it))))

    back : SpecHolds facts (Some text) → unwrap_or (value_on it facts) true ≡ true
    back (spec, read, never) =
        let same : spec ≡ spec_of it = one_spec text spec (spec_of it) read is in
        by_value (subst (λ (s : Spec). ¬ HasValue facts s (Some false)) same never) (value_on it facts) refl

-- a rule, put on platforms
abbrev pub put : {P : Type 0} → Context → Platforms → LoadedRule P Filterset PlatformSpec → RuleOn P Filterset PlatformSpec
put cx platforms rule = on_platforms value_on platforms.host platforms.target rule

both_true : (a b : Bool) → (a && b ≡ true) ↔ ((a ≡ true) × (b ≡ true))
both_true true b = ((λ e. (refl, e)), (λ both. both.1))
both_true false b = ((λ e. absurd (false≢true e)), (λ both. absurd (false≢true both.0)))

-- two tests that hold exactly if these do
both_alike : {P Q : Type 0} (a b : Bool) → (a ≡ true) ↔ P → (b ≡ true) ↔ Q → (a && b ≡ true) ↔ (P × Q)
both_alike a b p q =
    ((λ e. let both = (both_true a b).0 e in (p.0 both.0, q.0 both.1)), (λ both. (both_true a b).1 (p.1 both.0, q.1 both.1)))

module _ {P : Type 0} (conditions : P → Conditions) (cx : Context) (platforms : Platforms) where
  -- a rule as it was read
  abbrev pub IsRead : LoadedRule P Filterset PlatformSpec → Type 0
  IsRead rule = IsReadBy conditions (IsFilter cx) IsPlatformSpec rule.placed rule

  -- it holds for what is built for a platform exactly if its texts do
  pub holds_alike : (rule : LoadedRule P Filterset PlatformSpec) → IsRead rule → (platform : BuildPlatform)
      → (holds_for platform (put cx platforms rule) ≡ true) ↔ HoldsFor platforms platform (conditions rule.placed)
  holds_alike rule read built.Host =
      both_alike (spec_holds value_on rule.compiled.host platforms.host) (spec_holds value_on rule.compiled.target platforms.host)
      (spec_alike platforms.host _ rule.compiled.host read.compiled.host) (spec_alike platforms.host _ rule.compiled.target read.compiled.target)
  holds_alike rule read built.Target =
      both_alike (spec_holds value_on rule.compiled.host platforms.host) (spec_holds value_on rule.compiled.target platforms.target)
      (spec_alike platforms.host _ rule.compiled.host read.compiled.host) (spec_alike platforms.target _ rule.compiled.target read.compiled.target)

  -- so all of some rules for the target
  pub targets_alike : (rules : List (LoadedRule P Filterset PlatformSpec)) → AllByRecursion IsRead rules
      → AllByRecursion (Alike placed_of ForTarget (λ rule. HoldsFor platforms built.Target (conditions rule))) (map (put cx platforms) rules)
  targets_alike [] each = tt
  targets_alike (rule ∷ rules) each = (holds_alike rule each.0 built.Target, targets_alike rules each.1)

  -- ---- tests, beside a default filter and its tree

  module _ (default : Filterset) (tree : Tree) (made : IsCompiled cx.graph tree (filter_of default.compiled)) (test : Test) where
    filter_alike : (text : Option (List ℕ)) (found : Option Filterset) → IsReadAs (IsFilter cx purpose.Override) text found
        → IfSome found (λ filter. HasOnTest filter default test true) ↔ FilterHolds cx tree test text
    filter_alike None None is = ((λ on. tt), (λ on. tt))
    filter_alike None (Some filter) is = absurd is
    filter_alike (Some text) None is = absurd is
    filter_alike (Some text) (Some filter) is =
        let same = is_on_as_compiled cx.graph (tree_of filter.parsed) tree (filter_of filter.compiled) (filter_of default.compiled) is.3 made test (λ m. ⊥) true in (
          (λ on. (tree_of filter.parsed, is.1, same.0 on)),
          (λ holds. same.1 (subst (λ (t : Tree). TreeIsOn cx.graph t tree test (λ m. ⊥) true) (one_tree text holds.0 (tree_of filter.parsed) holds.1.0 is.1.0) holds.2)),
        )

    -- a rule holds on a test exactly if its texts do
    pub rule_alike : (rule : LoadedRule P Filterset PlatformSpec) → IsRead rule
        → Alike placed_of (Holds HasOnTest default test) (λ rule. TextsHold cx platforms tree test (conditions rule)) (put cx platforms rule)
    rule_alike rule read =
        let platform = holds_alike rule read test.binary.platform in
        let filter = filter_alike (conditions rule.placed).filter rule.compiled.filter read.compiled.filter in (
          (λ holds. (platform.0 holds.platform, filter.0 holds.filter)),
          (λ holds. record { platform = platform.1 holds.0; filter = filter.1 holds.1 }),
        )

    -- and so all of some rules
    pub rules_alike : (rules : List (LoadedRule P Filterset PlatformSpec)) → AllByRecursion IsRead rules
        → AllByRecursion (Alike placed_of (Holds HasOnTest default test) (λ rule. TextsHold cx platforms tree test (conditions rule))) (map (put cx platforms) rules)
    rules_alike [] each = tt
    rules_alike (rule ∷ rules) each = (rule_alike rule each.0, rules_alike rules each.1)
