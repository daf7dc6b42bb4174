use Rattle.std.proofs.Common.{ap, ◌||◌, ℕ, List, ◌∙◌}
use Rattle.std.specs.Str.{bytes_eq}
use Rattle.nextest_config_resolution_profiles.specs.Enabled.{has_name}
use Rattle.nextest_config_resolution_profiles.proofs.Enabling.{any_all, any_more, inserted}
use Rattle.nextest_config_resolution_profiles.proofs.enabled.add_setup.Goals as goal

pub loop-id-preserved : goal.loop-id-preserved
loop-id-preserved c = λ name.
    any_more (bytes_eq name) (has_name c.args.names.now name) (has_name c.loop-id.names name) (has_name c.insert.new.self name) c.args.ids.now c.loop-id.id-index c.id-item.result
    c.loop-id-test.true c.id-item.is (c.loop-id.invariant name)
    (inserted c.loop-id.names c.insert.new.self c.in_ok-clone.field-0 c.in_ok-insert.ensures.updates name
    ∙ ap (λ (key : List ℕ). has_name c.loop-id.names name || bytes_eq name key) c.in_ok-clone.ensures.cases)

pub returns : goal.returns
returns c = λ name.
    any_all (bytes_eq name) (has_name c.args.names.now name) (has_name c.loop-id.names name) c.args.ids.now c.loop-id.id-index c.loop-id-test.false (c.loop-id.invariant name)
