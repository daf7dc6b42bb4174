use Rattle.std.proofs.Common.{◌∙◌, sym}
use Rattle.std.proofs.lemmas.Bool.{false≢true}
use Rattle.nextest_config_elements_choices.proofs.Limits.{no_limit}
use Rattle.nextest_config_elements_choices.proofs.max_fail.MaxFail.from_text.Goals as goal

pub returns-clause-refused : goal.returns-clause-refused
returns-clause-refused c =
    no_limit c.args.text.now c.limit_of.result (λ all. false≢true (sym c.if-is_all.false ∙ c.is_all.ensures.1 all)) c.limit_of.ensures.refused
