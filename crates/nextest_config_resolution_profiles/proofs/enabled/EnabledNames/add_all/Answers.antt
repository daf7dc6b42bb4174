use Rattle.std.proofs.Common.{ap, ◌||◌, ℕ, List, Bool, ◌∙◌}
use Rattle.std.specs.List.{list_any}
use Rattle.std.specs.Str.{bytes_eq}
use Rattle.nextest_config_resolution_profiles.specs.Enabled.{has_name}
use Rattle.nextest_config_resolution_profiles.proofs.Enabling.{any_all, any_more, named_in}
use Rattle.nextest_config_resolution_profiles.proofs.enabled.EnabledNames.add_all.Goals as goal

pub loop-rule-preserved : goal.loop-rule-preserved
loop-rule-preserved c = λ name.
    any_more (λ rule. list_any (bytes_eq name) rule.now.config.setup) (has_name c.args.self.now name) (has_name c.loop-rule.self-inside.names name) (has_name c.add_setup.new.names name)
    c.args.rules.now c.loop-rule.rule-index c.rule-item.result c.loop-rule-test.true c.rule-item.is (c.loop-rule.invariant name)
    (c.in_ok-add_setup.ensures name ∙ ap (λ (ids : List (List ℕ)). has_name c.loop-rule.self-inside.names name || list_any (bytes_eq name) ids) c.as_slice.ensures)

pub returns : goal.returns
returns c = λ name.
    any_all (λ rule. list_any (bytes_eq name) rule.now.config.setup) (has_name c.args.self.now name) (has_name c.loop-rule.self-inside.names name) c.args.rules.now c.loop-rule.rule-index
    c.loop-rule-test.false (c.loop-rule.invariant name)
    ∙ ap (λ (b : Bool). has_name c.args.self.now name || b) (named_in c.args.rules.now name)
