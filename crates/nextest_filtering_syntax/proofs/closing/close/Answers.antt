use Rattle.nextest_filtering_arguments.proofs.Spans.{place_at, suffix_at}
use Rattle.nextest_filtering_syntax.proofs.Closings.{closed, not_closed}
use Rattle.nextest_filtering_syntax.proofs.closing.close.Goals as goal

pub span-span-requires : goal.span-span-requires
span-span-requires c = record { suffix = suffix_at _ _ _ c.skip_blanks-ahead.ensures c.requires.suffix }

pub report-requires : goal.report-requires
report-requires c = record { fault = place_at _ _ _ _ c.span-span.ensures c.requires.suffix c.skip_blanks-ahead.ensures }

pub returns-in-Some-clause-closes : goal.returns-in-Some-clause-closes
returns-in-Some-clause-closes c = closed _ _ _ _ c.skip_blanks-ahead.ensures c.in-Some.ensures.some

pub returns-clause-closes : goal.returns-clause-closes
returns-clause-closes c = not_closed _ _ _ _ c.skip_blanks-ahead.ensures c.in_default.ensures.none c.in_ok-report.ensures.ok
