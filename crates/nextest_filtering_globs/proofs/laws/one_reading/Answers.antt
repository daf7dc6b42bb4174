use Rattle.std.specs.Str.{chars}
use Rattle.nextest_filtering_globs.proofs.Unique.{one_list}
use Rattle.nextest_filtering_globs.proofs.laws.one_reading.Goals as goal

pub returns : goal.returns
returns c text first second h k = one_list 0 first second (chars text) h k
