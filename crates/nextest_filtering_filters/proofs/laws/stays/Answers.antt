use Rattle.nextest_filtering_filters.proofs.Giving.{stays}
use Rattle.nextest_filtering_filters.proofs.laws.stays.Goals as goal

pub returns : goal.returns
returns c = stays
