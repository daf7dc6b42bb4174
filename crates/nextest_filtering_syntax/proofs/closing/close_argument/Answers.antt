use Rattle.std.specs.Prelude.{codes}
use Rattle.std.proofs.lemmas.Result.{IfOk-weaker}
use Rattle.nextest_filtering_arguments.proofs.Spans.{suffix_at, suffix_in, suffix_trans, suffix_behind, told}
use Rattle.nextest_filtering_syntax.proofs.Closings.{comma_closed, suffix_front, suffix_cut}
use Rattle.nextest_filtering_syntax.proofs.closing.close_argument.Goals as goal

pub span-span-requires : goal.span-span-requires
span-span-requires c = record { suffix = suffix_at _ _ _ c.skip_blanks-ahead.ensures c.requires.suffix }

pub report-requires : goal.report-requires
report-requires c = record { fault = told _ _ _ _ (codes ",") c.span-span.ensures (suffix_at _ _ _ c.skip_blanks-ahead.ensures c.requires.suffix) c.in-Some.ensures.some }

pub close-requires-2 : goal.close-requires-2
close-requires-2 c = record { suffix = suffix_in _ _ _ _ c.in_ok-report.ensures.input (suffix_trans _ _ _ (suffix_cut _ _ _ c.split_close.ensures) (suffix_trans _ _ _ (suffix_behind (codes ",") _ _ c.in-Some.ensures.some) (suffix_front _ _ c.skip_blanks-ahead.ensures))) c.requires.suffix }

pub returns-clause-closes : goal.returns-clause-closes
returns-clause-closes c = IfOk-weaker c.close-2.result _ _ (λ rest closes. comma_closed _ _ _ _ _ _ _ _ c.skip_blanks-ahead.ensures c.in-Some.ensures.some (suffix_cut _ _ _ c.split_close.ensures) c.in_ok-report.ensures.ok closes) c.close-2.ensures.closes
