use Rattle.std.proofs.lemmas.Result.{IfOk-weaker}
use Rattle.nextest_filtering_arguments.proofs.Spans.{suffix_at, suffix_in, suffix_trans}
use Rattle.nextest_filtering_syntax.proofs.Closings.{closed, suffix_front, suffix_cut, trimmed_fits}
use Rattle.nextest_filtering_syntax.proofs.Leaves.{unexpected, lies_at}
use Rattle.nextest_filtering_syntax.proofs.leaf.no_argument.Goals as goal

pub returns-in-Some-clause-closes : goal.returns-in-Some-clause-closes
returns-in-Some-clause-closes c = closed _ _ _ _ c.skip_blanks-ahead.ensures c.in-Some.ensures.some

pub span-span-requires : goal.span-span-requires
span-span-requires c = record { suffix = suffix_at _ _ _ c.skip_blanks-ahead.ensures c.requires.suffix }

pub report-requires : goal.report-requires
report-requires c = record { fault = lies_at _ _ _ _ c.span-span.ensures (suffix_at _ _ _ c.skip_blanks-ahead.ensures c.requires.suffix) (trimmed_fits _ _ _ _ c.split_close.ensures c.trim_blanks_end.ensures) }

pub close-requires-2 : goal.close-requires-2
close-requires-2 c = record { suffix = suffix_in _ _ _ _ c.in_ok-report.ensures.input (suffix_trans _ _ _ (suffix_cut _ _ _ c.split_close.ensures) (suffix_front _ _ c.skip_blanks-ahead.ensures)) c.requires.suffix }

pub returns-clause-closes : goal.returns-clause-closes
returns-clause-closes c = IfOk-weaker c.close-2.result _ _
    (λ rest closes. unexpected _ _ _ _ _ _ _ c.skip_blanks-ahead.ensures c.in_default.ensures.none (suffix_cut _ _ _ c.split_close.ensures) c.in_ok-report.ensures.ok closes) c.close-2.ensures.closes
