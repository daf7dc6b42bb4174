use Rattle.std.proofs.Common.{rules}
use Rattle.nextest_config_resolution_settings.proofs.tracking.found_or_fallback.Goals as goal

pub returns-in-Some : goal.returns-in-Some
returns-in-Some g c = let it = c.found_by-source.ensures g.K.HasFallback.fallback in search (rules, it)

pub returns-in-None : goal.returns-in-None
returns-in-None g c = let it = c.found_by-source.ensures g.K.HasFallback.fallback in search (rules, it)
