use Rattle.nextest_filtering_arguments.proofs.Spans.{runs_out_at, suffix_at, suffix_in, suffix_all}
use Rattle.nextest_filtering_syntax.proofs.whole.whole.Goals as goal

pub span-span-requires : goal.span-span-requires
span-span-requires c = record { suffix = suffix_at _ _ _ c.skip_blanks-ahead.ensures (suffix_in _ _ _ _ c.in_ok-tree.ensures.input c.in_ok-tree.ensures.finds.behind (suffix_all _ _ c.requires.whole)) }

pub report-requires : goal.report-requires
report-requires c = record { fault = runs_out_at _ _ _ _ c.span-span.ensures (suffix_in _ _ _ _ c.in_ok-tree.ensures.input c.in_ok-tree.ensures.finds.behind (suffix_all _ _ c.requires.whole)) c.skip_blanks-ahead.ensures }
