use Rattle.std.proofs.Common.{sym, ◌∙◌}
use Rattle.nextest_filtering_arguments.proofs.Arguments.{platform_found, platform_none}
use Rattle.nextest_filtering_arguments.proofs.platforms.platform.Goals as goal

pub returns-in-Some-clause-reads : goal.returns-in-Some-clause-reads
returns-in-Some-clause-reads c = platform_found _ _ _ _ _ _ c.in_ok-argument.ensures.reads (sym c.as_str.ensures ∙ c.in-Some.ensures.some)

pub returns-clause-reads : goal.returns-clause-reads
returns-clause-reads c =
    platform_none _ _ _ _ _ _ c.in_ok-argument.ensures.reads (λ platform is. c.in_default.ensures.none platform (c.as_str.ensures ∙ is)) c.in_ok-report.ensures.ok
