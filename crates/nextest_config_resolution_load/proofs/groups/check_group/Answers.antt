use Rattle.std.proofs.Common.{◌≡◌, Some, rules, sym, ap, ◌∙◌, subst}
use Rattle.std.specs.Option.{option_copied}
use Rattle.nextest_config_elements_identifiers.specs.declared.test_group.TestGroup.TheVariants as group
use Rattle.nextest_config_resolution_load.specs.Checks.{unknown_group}
use Rattle.nextest_config_resolution_load.specs.Reading.{has_name}
use Rattle.nextest_config_resolution_load.specs.Refusing.{IsRefused}
use Rattle.nextest_config_resolution_load.proofs.NameChecks.{kept_group, refused_group}
use Rattle.nextest_config_resolution_load.proofs.groups.check_group.Goals as goal

pub returns-then-contains : goal.returns-then-contains
returns-then-contains g c =
    let found = c.in-Some-Custom in
    let is : option_copied c.args.group ≡ Some (group.Custom found.name) = search rules in
    let known = has_name c.args.names.now in (
      kept_group (g.R.Languages.is_filter c.args.cx.now) g.R.Languages.is_spec g.R.Languages.is_too_deep known c.args.id.now (option_copied c.args.group) found.name is
          (sym (ap known c.as_str.ensures.value) ∙ sym c.contains.ensures ∙ c.if-contains.true),
      tt,
    )

pub returns-else-contains : goal.returns-else-contains
returns-else-contains g c =
    let found = c.in-Some-Custom in
    let is : option_copied c.args.group ≡ Some (group.Custom found.name) = search rules in
    let known = has_name c.args.names.now in
    refused_group (g.R.Languages.is_filter c.args.cx.now) g.R.Languages.is_spec g.R.Languages.is_too_deep known c.args.id.now (option_copied c.args.group) found.name c.unknown_group.result
    is (sym (ap known c.as_str.ensures.value) ∙ sym c.contains.ensures ∙ c.if-contains.false)
    (subst (λ name. IsRefused (unknown_group c.args.id.now name) c.unknown_group.result) c.as_str-in-Some-Custom.ensures.value c.unknown_group.ensures)
