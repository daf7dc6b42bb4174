use Rattle.std.proofs.Common.{◌≡◌, Some, rules, sym, ap, ◌∙◌, subst}
use Rattle.nextest_config_resolution_load.specs.Checks.{unknown_wrapper}
use Rattle.nextest_config_resolution_load.specs.Reading.{has_name}
use Rattle.nextest_config_resolution_load.specs.Refusing.{IsRefused}
use Rattle.nextest_config_resolution_load.proofs.NameChecks.{kept_wrapper, refused_wrapper}
use Rattle.nextest_config_resolution_load.proofs.named_scripts.check_wrapper.Goals as goal

pub returns-then-contains : goal.returns-then-contains
returns-then-contains g c =
    let found = c.in-Some in
    let is : c.args.id.now ≡ Some found.id = search rules in
    let known = has_name c.args.names.now in (
      kept_wrapper (g.R.Languages.is_filter c.args.cx.now) g.R.Languages.is_spec g.R.Languages.is_too_deep known c.args.rule.now c.args.id.now found.id is
          (sym (ap known c.as_str.ensures.value) ∙ sym c.contains.ensures ∙ c.if-contains.true),
      tt,
    )

pub returns-else-contains : goal.returns-else-contains
returns-else-contains g c =
    let found = c.in-Some in
    let is : c.args.id.now ≡ Some found.id = search rules in
    let known = has_name c.args.names.now in
    refused_wrapper (g.R.Languages.is_filter c.args.cx.now) g.R.Languages.is_spec g.R.Languages.is_too_deep known c.args.rule.now c.args.id.now found.id c.unknown_wrapper.result
    is (sym (ap known c.as_str.ensures.value) ∙ sym c.contains.ensures ∙ c.if-contains.false)
    (subst (λ name. IsRefused (unknown_wrapper c.args.rule.now name) c.unknown_wrapper.result) c.as_str-in-Some.ensures.value c.unknown_wrapper.ensures)
