use Rattle.std.proofs.Common.{Option, sym, ap, ◌∙◌, unwrap_or}
use Rattle.nextest_config_resolution_warnings.specs.declared.kind.Kind.{Kind}
use Rattle.nextest_config_resolution_warnings.specs.declared.kind.Kind.TheVariants.{Anything}
use Rattle.nextest_config_resolution_warnings.proofs.keys.value_at.Goals as goal

pub returns-in-Some : goal.returns-in-Some
returns-in-Some c = ap (λ (found : Option Kind). unwrap_or found Anything) (sym c.in-Some.is ∙ c.named_in.ensures)
