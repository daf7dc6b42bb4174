use Rattle.std.proofs.lemmas.Result.{on_err_weaker}
use Rattle.nextest_config_elements_choices.proofs.Limits.{in_none, in_some, on_err}
use Rattle.nextest_config_elements_choices.proofs.max_fail.limit_of.Goals as goal

pub returns-in_err-from_text-in-Some-clause-refused :
    goal.returns-in_err-from_text-in-Some-clause-refused
returns-in_err-from_text-in-Some-clause-refused c =
    on_err c.from_residual.result (λ number mode limit.
    c.in_err-from_text-in-Some.ensures.refused mode
    (in_some c.args.text.now (c.in-Some.digits, c.in-Some.word) number mode c.in-Some.ensures.cases limit).1)

pub returns-in_ok-from_text-in-Some-clause-refused :
    goal.returns-in_ok-from_text-in-Some-clause-refused
returns-in_ok-from_text-in-Some-clause-refused c =
    on_err_weaker c.counted.result
    (λ refused number mode limit. refused number
    (in_some c.args.text.now (c.in-Some.digits, c.in-Some.word) number mode c.in-Some.ensures.cases limit).0)
    c.counted.ensures.refused

pub returns-in-None-clause-refused : goal.returns-in-None-clause-refused
returns-in-None-clause-refused c =
    on_err_weaker c.counted-in-None.result
    (λ refused number mode limit. refused number (in_none c.args.text.now number mode c.in-None.ensures.cases limit))
    c.counted-in-None.ensures.refused
