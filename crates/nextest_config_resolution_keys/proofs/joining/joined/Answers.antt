use Rattle.std.proofs.Common.{[], subst}
use Rattle.nextest_config_elements_toml.specs.Paths.{GivesAt}
use Rattle.nextest_config_resolution_keys.proofs.Joined.{refuse_both}
use Rattle.nextest_config_resolution_keys.proofs.joining.joined.Goals as goal

pub returns-in-Err-other-2 : goal.returns-in-Err-other-2
returns-in-Err-other-2 g c = λ first second one other. refuse_both first second c.in-Err.error c.in-Err-other-2.beside c.least.result
    (subst (λ it. GivesAt [] it first) c.in-Err.is one) (subst (λ it. GivesAt [] it second) c.in-Err-other-2.is other) c.least.ensures
