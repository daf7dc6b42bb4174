use Rattle.nextest_filtering_arguments.proofs.Arguments.{compared_reads}
use Rattle.nextest_filtering_arguments.proofs.matchers.compared.Goals as goal

pub returns-clause-reads : goal.returns-clause-reads
returns-clause-reads c = compared_reads _ _ _ _ _ _ _ _ _ c.in_ok-argument.ensures.reads c.in_ok-found.ensures.made
