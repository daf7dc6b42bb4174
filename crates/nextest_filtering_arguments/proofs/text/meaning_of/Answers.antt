use Rattle.nextest_filtering_arguments.proofs.Reading.{empty_meant, good_meant, bad_meant}
use Rattle.nextest_filtering_arguments.proofs.text.meaning_of.Goals as goal

pub returns-then-is_empty-clause-meant : goal.returns-then-is_empty-clause-meant
returns-then-is_empty-clause-meant c = empty_meant _ _ _ _ _ c.is_empty.ensures c.if-is_empty.true c.in_ok-report.ensures.ok

pub returns-then-is_empty-2-clause-meant : goal.returns-then-is_empty-2-clause-meant
returns-then-is_empty-2-clause-meant c =
    good_meant _ _ _ _ _ _ _ c.is_empty.ensures c.if-is_empty.false c.is_empty-2.ensures c.if-is_empty-2.true c.requires.front.2 c.requires.trimmed c.in_ok-read.ensures.text

pub returns-clause-meant : goal.returns-clause-meant
returns-clause-meant c =
    bad_meant _ _ _ _ _ _ _ c.is_empty-2.ensures c.if-is_empty-2.false c.requires.front.2 c.requires.trimmed c.in_ok-read.ensures.bad c.in_ok-report_escapes.ensures.reported
