use Rattle.nextest_filtering_syntax.proofs.Single.{right_joint_finds, wrong_and_finds}
use Rattle.nextest_filtering_arguments.proofs.Spans.{suffix_at}
use Rattle.nextest_filtering_syntax.proofs.Told.{told_and}
use Rattle.nextest_filtering_syntax.proofs.operators.joint_operator.Goals as goal

pub returns-in_default-clause-finds : goal.returns-in_default-clause-finds
returns-in_default-clause-finds c = right_joint_finds _ _ _ c.right_joint.ensures.some c.right_joint.ensures.none

pub span-span-requires : goal.span-span-requires
span-span-requires c = record { suffix = suffix_at _ _ _ c.skip_blanks-ahead.ensures c.requires.suffix }

pub report-requires : goal.report-requires
report-requires c = record { fault = told_and _ _ _ _ _ c.span-span.ensures (suffix_at _ _ _ c.skip_blanks-ahead.ensures c.requires.suffix) c.in-Some.ensures.some }

pub returns-clause-finds : goal.returns-clause-finds
returns-clause-finds c = wrong_and_finds _ _ _ _ _ _ c.skip_blanks-ahead.ensures c.in_ok-report.ensures.ok c.in-Some.ensures.some
