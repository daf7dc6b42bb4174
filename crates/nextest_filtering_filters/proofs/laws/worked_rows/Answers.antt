use Rattle.nextest_filtering_filters.proofs.Rows as lemma
use Rattle.nextest_filtering_filters.proofs.laws.worked_rows.Goals as goal

pub returns : goal.returns
returns c = lemma.worked_rows
