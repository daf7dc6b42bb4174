use Rattle.std.proofs.Common.{◌≡◌, ◌++◌, ◌∷◌, [], List, ℕ, ap, ◌∙◌}
use Rattle.nextest_config_resolution_warnings.proofs.Lines.{line_more}
use Rattle.nextest_config_resolution_warnings.specs.declared.config_warning.ConfigWarning.TheVariants.{EmptyScriptSections}
use Rattle.nextest_config_resolution_warnings.proofs.default_warnings.DefaultConfigWarningsConfigWarnings.empty_script_sections.Goals as goal

pub returns-clause-ok : goal.returns-clause-ok
returns-clause-ok c = λ told had.
    let text = c.in_ok-text.text in
    let adds : c.push.new.self ≡ c.args.self.now ++ text ∷ [] = c.in_ok-push.ensures.ok ∙ ap (λ (lines : List (List ℕ)). lines ++ text ∷ []) c.self.view_is in
    line_more c.args.self.now c.push.new.self told c.args.source.now (EmptyScriptSections c.args.profile.now c.args.count) c.path.result.now text had c.path.ensures c.in_ok-text.ensures adds
