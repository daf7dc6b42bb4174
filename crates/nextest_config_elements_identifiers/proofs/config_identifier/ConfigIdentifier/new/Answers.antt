use Rattle.std.proofs.Common.{sym, ◌∙◌}
use Rattle.nextest_config_elements_identifiers.proofs.Reading.{identifier_composed}
use Rattle.nextest_config_elements_identifiers.proofs.config_identifier.ConfigIdentifier.new.Goals as goal

pub invariant_of-result : goal.invariant_of-result
invariant_of-result c =
    identifier_composed c.args.text.now c.in_ok-composed.field-0 c.in_ok-name.name c.in_ok-composed.ensures.text
    c.in_ok-composed.ensures.characters (sym c.identified.ensures ∙ c.in_ok-name.was)
